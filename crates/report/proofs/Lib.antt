-- Laws of the definitions of specs/.
pub mod Files
pub mod Results
pub mod Numbers
pub mod Ones
pub mod LineSamples
