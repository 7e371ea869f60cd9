-- Where a sync ends, and what each end leaves.
pub mod End
pub mod Causes
pub mod Refused
pub mod Honest
pub mod Moved
pub mod Offer
