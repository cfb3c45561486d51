-- What the contracts of src/ cite, a file for each notion; steps holds what only the building blocks cite.
pub mod Marks
pub mod Misfits
pub mod Reached
pub mod Renewed
pub mod Tabulated
pub mod Roles
pub mod Steps
