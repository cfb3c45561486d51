-- What a table is in a file.
pub mod Bytes
