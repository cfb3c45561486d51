-- Laws of the definitions of specs/: Same says that the table has the language of the text, Shape which checks cannot refuse it, Counts when check 4
-- does, Numbers which type a name is; Samples has tables worked out by hand. The other files lead there.
pub mod Placed
pub mod Words
pub mod Numbers
pub mod Uses
pub mod Alike
pub mod Particles
pub mod Same
pub mod Inside
pub mod Shape
pub mod Counts
pub mod Samples
