-- What the contracts of src/ cite; steps holds what only the building blocks cite.
pub mod Sums
pub mod Answers
pub mod Steps
