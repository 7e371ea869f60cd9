pub mod All
pub mod Answer
pub mod Hooked
pub mod Names
pub mod One
