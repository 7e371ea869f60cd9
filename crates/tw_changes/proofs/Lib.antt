pub mod CopiedTasks
pub mod ImportedElements
pub mod JoinedWords
pub mod TakenWords
pub mod DependencyPaths
pub mod MarkedTasks
pub mod KeptProperties
mod Gathered
