pub mod Lines
pub mod Words
pub mod Settings
pub mod Causes
pub mod Timew
pub mod Zone
