-- Laws of the definitions of specs/, a file for each notion; the layers above use what is marked pub.
pub mod Verdicts
pub mod Grown
pub mod Answered
pub mod Sequences
pub mod Aboves
pub mod Writing
