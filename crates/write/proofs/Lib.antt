-- Laws of what the words of a code say, and of writing it.
pub mod Words
pub mod Skips
pub mod Puts
pub mod Passes
pub mod Operators
pub mod Models
pub mod Roots
pub mod Totals
pub mod Tables
