-- The words of each command.
pub mod Annotate
pub mod Continue
pub mod Delete
pub mod Export
pub mod Hours
pub mod Join
pub mod Lengthen
pub mod Move
pub mod Shorten
pub mod Split
pub mod Start
pub mod Stop
pub mod Summary
pub mod Tag
pub mod Track
pub mod Untag
