-- What the contracts of src/ cite; steps holds what only the building blocks cite.
pub mod Labels
pub mod Steps
