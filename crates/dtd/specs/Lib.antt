-- What reading DTD text answers.
pub mod Answer
pub mod Steps
