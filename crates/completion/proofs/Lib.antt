-- Laws of the definitions of specs/, a file for each notion, and tests that compute them; the layers above use what is marked pub.
pub mod Closed
pub mod Between
pub mod Least
pub mod Openings
pub mod Passing
pub mod Descent
pub mod Completing
pub mod Granting
pub mod CompleteSamples
