-- A reader that computes, and the worked examples.
pub mod Tests
pub mod Scanning
pub mod Parsing
pub mod Naming
pub mod Answering
pub mod Samples
