-- Laws of the definitions of specs/, a file for each notion.
pub mod Standing
pub mod Parting
pub mod Signs
pub mod Editing
pub mod OneLine
pub mod Reached
