pub mod StatesReached
pub mod LastUndoPoint
mod RunsOfOps
mod ReadInChunks
mod RunsThatFit
mod InPlace
pub mod OthersUnchanged
pub mod PartsTogether
pub mod AlikeOnPart
pub mod PartInTurns
pub mod StepsTaken
pub mod MadeOnPart
pub mod Groups
pub mod PendingBodies
mod BodiesBack
pub mod BeforePending
pub mod Soundness
pub mod RestoredCommands
mod TestedPending
pub mod PendingBegins
pub mod CommittedChanges
