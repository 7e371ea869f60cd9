pub mod FieldsAgain
pub mod ReadLoop
pub mod FieldsSpelled
pub mod Utf8
