-- How much longer a run makes the journal's file.
use Rattle.std.proofs.Common.{inl, inr, ℕ, ◌+◌, ◌≤◌, ◌^◌, List, arith}
use Rattle.tw_world.specs.Disk.{DiskModel, Tells, LeavesOnly}
use Rattle.tw_world.proofs.Moments.{OnlyNow, CountsNow, started, joined, weaker}
use Rattle.tw_journal.specs.Record.{IsLongerBy}
use Rattle.timew_store.proofs.Stays.{DiskMayStay}
use Rattle.timew_cli.specs.Run.{IsGrownBy}

module _ {D : Type 0} (n : DiskModel D) where
  -- where nothing was written nothing has grown
  pub nothing_grown : OnlyNow n → (d : D) (bytes : ℕ) → LeavesOnly n d d (IsGrownBy n d bytes)
  nothing_grown only_now d bytes = started n only_now d (IsGrownBy n d bytes) (λ c left. (c, left, omega arith))

  grown : DiskMayStay n → (d : D) (a b : ℕ) (c : List ℕ) → Tells n d → a ≤ b → IsLongerBy n d a c → IsGrownBy n d b c
  grown may_stay d a b c tells le (inl left) = (c, left, omega arith)
  grown may_stay d a b c tells le (inr long) = (n.seen d, may_stay d tells, omega (arith, long, le))

  -- a store that is not loaded
  pub load_grows : DiskMayStay n → (d0 d1 : D) → Tells n d0 → LeavesOnly n d0 d1 (IsLongerBy n d0 29) → LeavesOnly n d0 d1 (IsGrownBy n d0 (2 ^ 30 + 29))
  load_grows may_stay d0 d1 tells run = weaker n d0 d1 (IsLongerBy n d0 29) (IsGrownBy n d0 (2 ^ 30 + 29)) run (λ c has. grown may_stay d0 29 (2 ^ 30 + 29) c tells (omega arith) has)

  -- one that is loaded, and a record
  pub record_grows : DiskMayStay n → CountsNow n → (d0 d1 d2 : D) → Tells n d0 → Tells n d1 → LeavesOnly n d0 d1 (IsLongerBy n d0 29) → LeavesOnly n d1 d2 (IsLongerBy n d1 (2 ^ 30)) → LeavesOnly n d0 d2 (IsGrownBy n d0 (2 ^ 30 + 29))
  record_grows may_stay counts_now d0 d1 d2 tells tells_now first second =
      joined n d0 d1 d2 (IsGrownBy n d0 (2 ^ 30 + 29)) (load_grows may_stay d0 d1 tells first) (weaker n d1 d2 (IsLongerBy n d1 (2 ^ 30)) (IsGrownBy n d0 (2 ^ 30 + 29)) second after)
    where
      loaded : (c : List ℕ) → n.leaves d1 c → IsGrownBy n d0 29 c
      loaded c left = grown may_stay d0 29 29 c tells (omega arith) (first.each c (counts_now d1 (n.moment d0) c first.later left))

      after : (c : List ℕ) → IsLongerBy n d1 (2 ^ 30) c → IsGrownBy n d0 (2 ^ 30 + 29) c
      after c (inl left) = let from = loaded c left in (from.0, from.1, omega (arith, from.2))
      after c (inr long) = let from = loaded (n.seen d1) (may_stay d1 tells_now) in (from.0, from.1, omega (arith, from.2, long))
