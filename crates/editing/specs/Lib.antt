-- What the contracts of src/ cite, a file for each notion; steps holds what only the building blocks cite.
pub mod Entries
pub mod Answer
pub mod Clicks
pub mod Steps
