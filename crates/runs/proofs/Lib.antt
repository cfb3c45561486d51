-- Laws of the definitions of specs/.
pub mod Texts
pub mod Parts
