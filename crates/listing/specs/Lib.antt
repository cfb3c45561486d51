-- What a listing is, a file for each notion.
pub mod Line
pub mod Listing
pub mod Faults
