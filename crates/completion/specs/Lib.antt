-- What the contracts of src/ cite, a file for each notion; steps holds what only the building blocks cite.
pub mod Completions
pub mod Granted
pub mod Answers
pub mod Steps
