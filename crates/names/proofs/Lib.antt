-- Laws: of pieces and items of a text; of the names that a content uses; of the order of names, their numbers and their list; of the walk from one
-- declaration to the next, and what it finds.
pub mod Nths
pub mod Spans
pub mod Items
pub mod Flats
pub mod Contents
pub mod Orders
pub mod Runs
pub mod Numbered
pub mod Finding
pub mod Entering
pub mod Gone
pub mod Unknowns
pub mod Wrongs
