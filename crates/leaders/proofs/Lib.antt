-- Laws of the definitions of specs/, a file for each notion; the layers above use Leading.
pub mod Ahead
pub mod Leading
pub mod Entering
