pub mod Numbering
pub mod Assigned
pub mod Placed
