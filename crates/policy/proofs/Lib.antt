-- Laws of the definitions of specs/, a file for each notion; the layers above use what is marked pub.
pub mod Policies
pub mod Closures
pub mod Reaches
pub mod Renewals
pub mod SquareLaws
pub mod Bits
pub mod Packing
pub mod RowMarks
pub mod Writings
pub mod Tabulates
pub mod Stretches
pub mod Roles
