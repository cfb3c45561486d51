-- What a verdict means, a file for each notion.
pub mod Trees
pub mod Edits
pub mod Consistent
pub mod SameKind
pub mod Readings
pub mod Meaning
