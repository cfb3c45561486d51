-- Laws: of numbers in decimal; of the labels so far, and one more; of the labels of a text's types; of the loops over these.
pub mod Decimals
pub mod Bookings
pub mod Labelling
pub mod Turns
