pub mod Printable
pub mod SetOfTags
pub mod WordsHere
