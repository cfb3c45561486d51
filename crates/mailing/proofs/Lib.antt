-- Laws of the definitions of specs/, a file for each notion.
pub mod Naming
pub mod Wording
pub mod Continuing
