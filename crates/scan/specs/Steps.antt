-- What scanning a whole text says, and what its readers say of a text from a place on.
pub mod Scanned
pub mod Agree
pub mod Claims
pub mod Moves
pub mod Readers
pub mod Classes
pub mod Items
