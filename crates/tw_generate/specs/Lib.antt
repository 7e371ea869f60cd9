pub mod Tasks
pub mod Changes
pub mod Summary
pub mod Generated
pub mod Machines
pub mod Links
