-- Laws of the claims and the moves between them.
pub mod Agreeing
pub mod Moving
pub mod Pieces
pub mod Orders
pub mod Groups
pub mod Items
pub mod Contents
pub mod Remarks
pub mod Told
pub mod Readings
pub mod Declared
pub mod Whole
