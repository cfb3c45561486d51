-- What the contracts of src/ cite.
pub mod Text
pub mod Steps
