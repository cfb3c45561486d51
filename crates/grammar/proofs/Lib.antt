-- Laws of the grammar.
pub mod Pieces
pub mod Unique
pub mod OneTree
pub mod Stopping
