-- What the passes over the text and its table say.
pub mod Last
pub mod Stages
