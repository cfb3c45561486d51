-- Laws of the definitions of specs/.
pub mod Raised
pub mod Decimals
pub mod Spaced
