-- What the code of a text is, and its table.
pub mod Steps
