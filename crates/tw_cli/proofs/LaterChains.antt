-- What is known of a sync over the chain at one link is known over the chain at a later one.
use Rattle.std.proofs.Common.{◌≡◌, inl, inr, List, ℕ, Option, Some, None}
use Rattle.tw_world.specs.Disk.{DiskModel}
use Rattle.tw_protocol.specs.Chain.{Version, Grows}
use Rattle.tw_state.specs.State.{State}
use Rattle.tw_replica.specs.Replica.{held_state}
use Rattle.tw_replica.specs.declared.replica.Replica.{Replica}
use Rattle.tw_bodies.specs.Body.{Step}
use Rattle.tw_path.specs.Path.{Reached}
use Rattle.tw_outcome.specs.End.{ServerChain, starts_at}
use Rattle.tw_sync.specs.Start.{Start, from_state}
use Rattle.tw_sync.specs.Sync.{RecordsOfSync, LeavesEnd, IsEndIn}
use Rattle.tw_sync.proofs.EndsSeen.{ends_after}
use Rattle.tw_sync.proofs.CursorInChain.{lies_grown}

-- the chain has grown since, and the link has added nothing more
abbrev pub GoesOn : (now last : ServerChain) → Type 0
GoesOn now last = Grows now.chain last.chain × (last.own ≡ now.own)

module _ {D : Type 0} (m : DiskModel D) (Goes : Start → State → Reached → Step → Type 0) (start : Start) where
  pub records_on : (r0 r1 : Replica) (mid d1 : D) (honest : Type 0) (now last : List Version) (bodies : List (List ℕ)) → (honest → Grows now last) → RecordsOfSync m Goes start r0 r1 mid d1 honest now bodies → RecordsOfSync m Goes start r0 r1 mid d1 honest last bodies
  records_on r0 r1 mid d1 honest now last bodies grows (inl nothing) = inl nothing
  records_on r0 r1 mid d1 honest now last bodies grows (inr one) = inr (record {
    moved = one.moved;
    step = one.step;
    end = one.end;
    goes = one.goes;
    lies = λ h. lies_grown (from_state start (held_state r0)) now last one.end.legs (one.lies h) (grows h);
    within = one.within;
    on = one.on;
    leaves = one.leaves;
  })

module _ {D : Type 0} (m : DiskModel D) (start : Start) where
  pub leads_on : (mid d1 : D) (old : State) (honest : Type 0) (first now last : ServerChain) → (honest → GoesOn now last) → LeavesEnd m mid d1 start old honest first now → LeavesEnd m mid d1 start old honest first last
  leads_on mid d1 old honest first now last on e = record { next = e.next; made = e.made; end = λ h. by e.next (on h) (e.end h); leaves = e.leaves }
    where
      by : (next : Option State) → GoesOn now last → IsEndIn start old first now next → IsEndIn start old first last next
      by None o end = tt
      by (Some next) o end = (end.0, ends_after end.0 old (starts_at (from_state start old)) next first now last o.0 o.1 end.1)
