-- What walking through a text's declarations and names says.
pub mod Steps
