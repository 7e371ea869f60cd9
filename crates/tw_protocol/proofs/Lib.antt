pub mod Chains
pub mod Between
pub mod Telling
pub mod Responses
