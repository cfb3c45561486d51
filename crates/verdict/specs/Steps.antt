-- What the building blocks do, step by step; a reader of the promises needs none of it.
pub mod Spoils
pub mod Tallies
pub mod Visits
pub mod Breakers
pub mod Reading
