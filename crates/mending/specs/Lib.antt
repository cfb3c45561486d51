-- What the contracts of src/ cite, a file for each notion; steps holds what only the building blocks cite.
pub mod Mends
pub mod Answers
pub mod Steps
