pub mod Sight
pub mod Fields
pub mod Order
pub mod Texts
