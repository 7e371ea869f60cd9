-- A replica that is open on a disk in memory, and a step of it that is made and then written.
use Rattle.std.proofs.Common.{◌≡◌, ◌∙◌, ap, sym, subst, inl, inr, ℕ, List, [], ◌∷◌, ◌++◌}
use Rattle.tw_world.specs.Memory.{memory_model}
use Rattle.tw_world.specs.declared.memory.MemoryDisk.{MemoryDisk}
use Rattle.tw_journal.specs.Journal.{IsOpenOn}
use Rattle.tw_journal.specs.declared.journal.Journal.{Journal}
use Rattle.tw_bodies.specs.Body.{Step, body_of}
use Rattle.tw_state.specs.State.{Stands}
use Rattle.tw_replica.specs.Replica.{magic, IsReplicaOn, held_state}
use Rattle.tw_replica.specs.Prepared.{IsPrepared, IsLengthReady, prepared_state, prepared_bodies, step_bodies}
use Rattle.tw_replica.specs.declared.step.write.Prepared.{Prepared}
use Rattle.tw_replica.specs.declared.replica.Replica.{Replica}
use Rattle.tw_replica.proofs.PreparedWritten.{prepared_on}
use Rattle.tw_sync.specs.Start.{Start}
use Rattle.tw_sync.specs.Ends.Moved.{IsDoneStep}
use Rattle.tw_sync.specs.Sync.{RecordsOfSync}
use Rattle.tw_generate.specs.Links.{lone_link_model}
use Rattle.tw_generate.specs.declared.link.LoneLink.{LoneLink}

module _ (old : Replica) (disk : MemoryDisk) (bodies : List (List ℕ)) (on : IsReplicaOn memory_model old disk bodies) (step : Step) (prepared : Prepared) (is : IsPrepared old step prepared) where
  -- the disk has the length that the journal left
  pub length_ready : IsLengthReady memory_model prepared disk
  length_ready live = sym (ap (λ (j : Journal). j.end) is.journal ∙ on.open_on.end)

  -- the replica is open on the disk after the write
  pub on_written : (new : Replica) (after : MemoryDisk) → held_state new ≡ prepared_state prepared
      → ((bs : List (List ℕ)) → IsOpenOn memory_model magic prepared.journal disk bs → IsOpenOn memory_model magic new.journal after (bs ++ prepared_bodies prepared))
      → (bs : List (List ℕ)) × IsReplicaOn memory_model new after bs
  on_written new after state opens = (bodies ++ step_bodies step, prepared_on memory_model old step prepared is bodies disk after on new state opens)

-- a sync leaves the replica open
pub open_after_sync : (start : Start) (old new : Replica) (before after : MemoryDisk) (honest : Type 0) (link : LoneLink) (bodies : List (List ℕ)) → IsReplicaOn memory_model old before bodies
    → RecordsOfSync memory_model IsDoneStep start old new before after honest (lone_link_model.chain link) bodies → (bs : List (List ℕ)) × IsReplicaOn memory_model new after bs
open_after_sync start old new before after honest link bodies on (inl nothing) = (
  bodies,
  record {
    open_on = subst (λ (d : MemoryDisk). IsOpenOn memory_model magic new.journal d bodies) (sym nothing.same.disk) (subst (λ (j : Journal). IsOpenOn memory_model magic j before bodies) (sym nothing.same.journal) on.open_on);
    stands = subst (Stands bodies) (sym nothing.same.state) on.stands;
  },
)
open_after_sync start old new before after honest link bodies on (inr one) = (bodies ++ body_of one.step ∷ [], one.on)
