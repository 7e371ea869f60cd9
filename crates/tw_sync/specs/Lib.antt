pub mod Replies
pub mod Ends
pub mod Start
pub mod Way
pub mod Sync
pub mod Contract
pub mod Laws
pub mod Theorem
