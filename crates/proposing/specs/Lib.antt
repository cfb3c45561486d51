-- What the contracts of src/ cite, a file for each notion.
pub mod Proposals
pub mod Answers
pub mod Misfits
