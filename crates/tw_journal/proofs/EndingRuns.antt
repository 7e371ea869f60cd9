-- What a crash leaves while an upgrade goes on to its end.
use Rattle.std.specs.Int.{to_be_bytes, w64}
use Rattle.std.proofs.Common.{◌≡◌, inl, inr, ℕ, ◌≤◌, List, [], ◌∷◌, ◌++◌, length, subst, sym, arith}
use Rattle.tw_world.specs.Disk.{DiskModel, LeavesOnly, overwritten}
use Rattle.tw_world.proofs.Moments.{weaker, joined}
use Rattle.tw_journal.specs.Writes.{IsOldOr}
use Rattle.tw_journal.specs.Checkpoint.{IsSameBeside}
use Rattle.tw_journal.specs.Upgrade.{slotted, with_version, IsEnding}
use Rattle.tw_journal.proofs.Between.{overwritten_beside}

module _ {D : Type 0} (m : DiskModel D) (old : D) (version at : ℕ) (room : 29 ≤ length (m.seen old)) where
  abbrev Ending : List ℕ → Type 0
  Ending = IsEnding version at (m.seen old)

  slots_beside : IsSameBeside 13 29 (m.seen old) (slotted at (m.seen old))
  slots_beside = overwritten_beside 13 (to_be_bytes w64 at ++ to_be_bytes w64 0) (m.seen old) (omega (arith, room))

  pub after_slots : (a : D) → LeavesOnly m old a (IsSameBeside 13 29 (m.seen old)) → LeavesOnly m old a Ending
  after_slots a run = weaker m old a (IsSameBeside 13 29 (m.seen old)) Ending run (λ c same. inl same)

  with_slots : (c : List ℕ) → IsOldOr (overwritten 12 (version ∷ [])) (slotted at (m.seen old)) c → Ending c
  with_slots c (inl same) = inl (subst (IsSameBeside 13 29 (m.seen old)) (sym same) slots_beside)
  with_slots c (inr same) = inr (inl same)

  pub after_version : (a b : D) → LeavesOnly m old a Ending → m.seen a ≡ slotted at (m.seen old) → LeavesOnly m a b (IsOldOr (overwritten 12 (version ∷ [])) (m.seen a)) → LeavesOnly m old b Ending
  after_version a b so_far seen run =
      joined m old a b Ending so_far (weaker m a b (IsOldOr (overwritten 12 (version ∷ [])) (m.seen a)) Ending run (λ c has. with_slots c (subst (λ (s : List ℕ). IsOldOr (overwritten 12 (version ∷ [])) s c) seen has)))

  with_first : (c : List ℕ) → IsOldOr (overwritten 0 (2 ∷ [])) (with_version version (slotted at (m.seen old))) c → Ending c
  with_first c (inl same) = inr (inl same)
  with_first c (inr same) = inr (inr same)

  pub after_first : (b n : D) → LeavesOnly m old b Ending → m.seen b ≡ with_version version (slotted at (m.seen old)) → LeavesOnly m b n (IsOldOr (overwritten 0 (2 ∷ [])) (m.seen b)) → LeavesOnly m old n Ending
  after_first b n so_far seen run =
      joined m old b n Ending so_far (weaker m b n (IsOldOr (overwritten 0 (2 ∷ [])) (m.seen b)) Ending run (λ c has. with_first c (subst (λ (s : List ℕ). IsOldOr (overwritten 0 (2 ∷ [])) s c) seen has)))
