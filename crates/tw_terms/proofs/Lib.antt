pub mod FirstParts
pub mod Ranges
pub mod Occurrences
pub mod EntryLoops
pub mod IndexKeys
pub mod IdRanges
pub mod ChosenUuids
