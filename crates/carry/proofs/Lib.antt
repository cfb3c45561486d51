-- Laws of the definitions of specs/, a file for each notion; the layers above use what is marked pub.
pub mod Numbered
mod Ruled
pub mod Moves
pub mod Scattering
pub mod Replacing
pub mod Placing
pub mod Moving
pub mod Becoming
pub mod Answers
pub mod Keeping
pub mod Renumbering
