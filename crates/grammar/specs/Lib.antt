-- DTD text, a file for each notion.
pub mod Bytes
pub mod Tree
pub mod Grammar
pub mod Stops
pub mod Limits
