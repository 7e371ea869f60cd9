pub mod Leading
pub mod Lines
pub mod Reaching
pub mod Sets
