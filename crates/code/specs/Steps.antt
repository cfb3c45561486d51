-- A file for each notion.
pub mod Holding
pub mod Putting
