pub mod Time
pub mod Bounds
pub mod Gaps
pub mod Days
pub mod Totals
pub mod Texts
pub mod Held
pub mod Walk
