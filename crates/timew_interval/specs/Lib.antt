pub mod MonthName
pub mod Interval
pub mod Placing
pub mod Line
pub mod ReadBack
pub mod Few
pub mod Edit
pub mod MonthOfYear
