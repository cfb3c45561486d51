-- Laws of the definitions of specs/, a file for each notion, and tests that compute them; the layers above use what is marked pub.
pub mod Chains
pub mod Ways
pub mod ChainTests
