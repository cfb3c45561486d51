-- What scanning a text and its readers say.
pub mod Steps
