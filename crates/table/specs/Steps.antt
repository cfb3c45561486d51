-- What the building blocks do, step by step; a reader of the promises needs none of it.
pub mod Found
pub mod Reading
pub mod Numbering
pub mod Childed
pub mod Listed
pub mod Order
pub mod Counts
pub mod Flags
pub mod Accepting
pub mod Accept
