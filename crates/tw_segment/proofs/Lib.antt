pub mod Keys
pub mod Loops
pub mod Options
pub mod OpsBack
pub mod Decimals
pub mod TimestampFacts
pub mod Exact
pub mod InOrder
