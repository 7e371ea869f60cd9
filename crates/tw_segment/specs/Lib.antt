pub mod Timestamp
pub mod Segment
pub mod Tokens
pub mod Refusals
