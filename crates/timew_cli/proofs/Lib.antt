pub mod Ending
pub mod NotLoaded
pub mod Loaded
pub mod Runs
pub mod Unnamed
pub mod Growth
