-- The table of a list of declarations and the languages of both, a file for each notion.
pub mod Names
pub mod Model
pub mod Tables
pub mod Languages
