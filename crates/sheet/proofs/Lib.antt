-- Laws of the definitions of specs/, and what the proofs of src/ share; the layers above use what is marked pub.
pub mod Counting
pub mod Slots
pub mod Given
pub mod Answers
pub mod Sums
pub mod Judging
