-- A file for each notion.
pub mod Walk
pub mod Pieces
pub mod Uses
pub mod Order
pub mod Shifting
pub mod Names
pub mod Wrong
