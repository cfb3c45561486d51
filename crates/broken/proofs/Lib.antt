-- Laws of the definitions of specs/, a file for each notion; the layers above use what is marked pub.
pub mod Breaks
pub mod Asking
