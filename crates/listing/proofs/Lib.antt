-- Laws of the definitions of specs/, a file for each notion.
pub mod Lines
pub mod Prefixes
pub mod Listings
pub mod Relabelled
pub mod Appending
pub mod Samples
