-- Laws of the definitions of specs/, a file for each notion, and tests that compute them; the layers above use those marked pub.
pub mod Counting
pub mod Mended
pub mod Staying
pub mod Answered
pub mod Next
pub mod Rows
pub mod MendTests
pub mod MendSamples
