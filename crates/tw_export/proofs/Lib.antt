pub mod TaskLines
pub mod OkTexts
pub mod PropertyLoops
pub mod AnnotationRanks
pub mod Thousandths
pub mod OwnMembers
