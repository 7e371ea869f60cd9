pub mod Asking
pub mod Refused
pub mod Folding
pub mod Differences
pub mod Audit
pub mod Text
pub mod Laws
