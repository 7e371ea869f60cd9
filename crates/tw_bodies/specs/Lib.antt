pub mod Body
pub mod Reading
pub mod Runs
pub mod Spelling
pub mod SyncOps
pub mod Views
