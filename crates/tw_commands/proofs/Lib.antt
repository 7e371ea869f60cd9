pub mod Applied
mod AnsweredPlans
pub mod AnswersAsShown
mod RefusedSteps
pub mod Copies
pub mod OtherTasks
pub mod StampedTasks
pub mod WhatChangesLeave
pub mod CopiesAreNew
pub mod GrownTasks
pub mod ExactTask
pub mod ExactMoments
pub mod TasksThatStay
pub mod TakenBack
pub mod EqualExports
