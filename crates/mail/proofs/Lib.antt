-- Laws of the definitions of specs/, a file for each notion.
pub mod Schemas
pub mod One
pub mod BothWays
pub mod Opening
pub mod Giving
