-- Laws of the answer.
pub mod OneAnswer
pub mod Finishing
pub mod Lasting
pub mod Passing
pub mod Language
