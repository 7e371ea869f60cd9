pub mod Newlines
pub mod Slashes
pub mod Spaces
pub mod Utf8
pub mod Decimals
pub mod NoReasons
pub mod EmptyValues
