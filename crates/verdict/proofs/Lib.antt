-- Laws of the definitions of specs/, a file for each notion, and tests that compute them; the layers above use what is marked pub.
pub mod Spoils
pub mod Tallies
pub mod Firsts
pub mod Breached
pub mod Flagged
pub mod Spoiling
pub mod Breakers
pub mod Forced
pub mod Carried
pub mod Renumbered
pub mod Judged
pub mod Boxes
pub mod PolicyTests
pub mod PolicySamples
pub mod Readings
