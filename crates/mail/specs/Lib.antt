-- What the contracts of both calls cite; steps holds what only the building blocks cite.
pub mod Answers
pub mod Steps
