pub mod Cause
pub mod Kinds
pub mod Look
pub mod Rescue
pub mod Texts
pub mod Whole
