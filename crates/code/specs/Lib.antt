-- What putting a text's declarations into code does.
pub mod Steps
