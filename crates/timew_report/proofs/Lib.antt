pub mod LastEnd
pub mod Counting
pub mod Seconds
pub mod Stretches
pub mod Passing
pub mod Tags
pub mod TagTimes
pub mod Walked
