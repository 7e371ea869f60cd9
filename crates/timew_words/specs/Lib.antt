pub mod Results
pub mod Names
pub mod Parts
pub mod Stretch
pub mod Ranges
pub mod Given
pub mod Commands
pub mod Reading
