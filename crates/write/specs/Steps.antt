-- What stands between the text and its table.
pub mod Code
pub mod Reading
pub mod Writing
