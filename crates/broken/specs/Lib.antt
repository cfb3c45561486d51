-- What the contracts of src/ cite; steps holds what only the building blocks cite.
pub mod Breaks
pub mod Steps
