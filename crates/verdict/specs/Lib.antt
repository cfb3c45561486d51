-- What the contracts of src/ cite, a file for each notion; steps holds what only the building blocks cite.
pub mod Below
pub mod Conditions
pub mod Forces
pub mod Carried
pub mod Breaches
pub mod Answers
pub mod Results
pub mod Kept
pub mod Steps
