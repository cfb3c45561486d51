-- What the contracts of src/ cite.
pub mod File
pub mod Report
pub mod Steps
