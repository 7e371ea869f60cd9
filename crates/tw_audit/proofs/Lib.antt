pub mod Keys
pub mod Differing
pub mod First
pub mod OnTheWay
pub mod Asking
pub mod Stopping
