-- Laws of the definitions of specs/, and tests that compute them.
pub mod Answered
pub mod ProposeTests
mod Changes
pub mod Misfits
