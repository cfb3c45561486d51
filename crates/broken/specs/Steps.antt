-- What the building blocks do, step by step; a reader of the promises needs none of it.
pub mod Asking
