-- A command that is made in memory, with its text, and not yet written.
use Rattle.std.specs.Prelude.{◌≡◌, List, Result, Ok, Err}
use Rattle.tw_world.specs.declared.ids.IdWords.{IdWords}
use Rattle.tw_model.specs.Ops.{TaskValue}
use Rattle.tw_bodies.specs.Body.{Step}
use Rattle.tw_replica.specs.Replica.{held_state}
use Rattle.tw_replica.specs.Prepared.{IsPrepared, prepared_state}
use Rattle.tw_replica.specs.declared.replica.Replica.{Replica}
use Rattle.tw_commands.specs.Plan.{Plan}
use Rattle.tw_commands.specs.Carried.{Carried, carried_by, carried_out}
use Rattle.tw_commands.specs.declared.ready.Ready.{Ready}
use Rattle.tw_changes.specs.declared.request.Request.{Request}
use Rattle.tw_changes.specs.declared.refusal.Refusal.{Refusal}

-- what a command comes to in the state of a replica is made in memory
pub record IsMade (carried : Result Carried Refusal) (replica : Replica) (ready : Ready) : Type 0 where
  pub step : Step
  pub is : carried ≡ Ok (record { step = step; new = prepared_state ready.prepared; text = ready.text.items })
  pub prepared : IsPrepared replica step ready.prepared

-- it is so of this plan
abbrev pub IsReady : Request → Plan → Replica → Ready → Type 0
IsReady request plan replica ready = IsMade (carried_by request (held_state replica) (Ok plan)) replica ready

-- the plan is refused
abbrev pub NotReady : Request → Plan → Replica → Refusal → Type 0
NotReady request plan replica refusal = carried_by request (held_state replica) (Ok plan) ≡ Err refusal

-- it is so of a command, for which hooks answered these tasks
abbrev pub IsDecided : Request → IdWords → (answers : List TaskValue) → Replica → Ready → Type 0
IsDecided request ids answers replica ready = IsMade (carried_out request ids answers (held_state replica)) replica ready

-- the command refuses
abbrev pub DoesNothing : Request → IdWords → (answers : List TaskValue) → Replica → Refusal → Type 0
DoesNothing request ids answers replica refusal = carried_out request ids answers (held_state replica) ≡ Err refusal
