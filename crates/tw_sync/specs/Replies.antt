-- What a sync hears over its link, and what the replies say.
pub mod Heard
pub mod Answers
pub mod Measured
pub mod Given
