-- Laws of the definitions of specs/, a file for each notion; the layers above use what is marked pub.
pub mod Bytes
pub mod Spells
pub mod Unspells
pub mod Paired
pub mod Picks
pub mod Comparing
pub mod Inverse
pub mod MapSamples
