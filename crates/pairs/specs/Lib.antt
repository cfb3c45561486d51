-- What the contracts of src/ cite, a file for each notion; steps holds what only the building blocks cite.
pub mod Maps
pub mod Faults
pub mod Steps
