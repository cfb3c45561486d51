-- Laws of the definitions of specs/, and what the proofs of src/ share.
pub mod Answers
pub mod Summing
pub mod Given
pub mod Adding
