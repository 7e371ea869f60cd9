pub mod FirstFaults
pub mod UnnamedWords
pub mod PickedWords
pub mod PlacedWords
pub mod NamingWords
pub mod EmptyWords
pub mod KeptModified
