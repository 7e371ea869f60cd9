pub mod Inside
pub mod Cutting
mod Before
pub mod Leading
pub mod OneState
