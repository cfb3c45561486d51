-- The samples, in three tables, and a month of ten roles with its sheet.
pub mod Samples
pub mod CountSamples
pub mod ChainSamples
pub mod SheetTests
pub mod SheetSamples
