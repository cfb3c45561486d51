-- Laws of the code and of the buffer that holds it.
pub mod Shifting
pub mod Marking
pub mod Particles
pub mod Rows
pub mod Contents
pub mod Whole
pub mod Entries
