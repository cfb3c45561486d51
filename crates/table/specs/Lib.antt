-- What the contracts of src/ cite, a file for each notion; steps holds what only the building blocks cite.
pub mod Sum
pub mod HowMany
pub mod Lex
pub mod Lowest
pub mod Words
pub mod Rule
pub mod Below
pub mod Privilege
pub mod Named
pub mod Formats
pub mod Check
pub mod Refusals
pub mod Plus
pub mod Renumbered
pub mod Steps
