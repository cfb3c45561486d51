-- Laws of the definitions of specs/, and theorem 1.
pub mod Putting
pub mod Matching
pub mod Orders
pub mod Moves
pub mod Conforming
pub mod Explained
pub mod Growing
pub mod Differing
pub mod SameKind
pub mod Imitating
pub mod Theorem
pub mod Answers
pub mod Readings
pub mod Story
pub mod Examples
