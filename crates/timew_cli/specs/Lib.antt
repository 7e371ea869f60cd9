pub mod Fault
pub mod Cause
pub mod Carried
pub mod Run
pub mod Step
