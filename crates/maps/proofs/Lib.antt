-- Laws of the definitions of specs/, a file for each notion; the layers above use what is marked pub.
pub mod Agreed
pub mod AnyRun
pub mod Results
mod Known
pub mod Demands
