-- What a crash leaves while a record is written apart from those that count.
use Rattle.std.proofs.Common.{◌≡◌, inl, inr, ℕ, List, subst, sym}
use Rattle.tw_world.specs.Disk.{DiskModel, LeavesOnly}
use Rattle.tw_world.proofs.Moments.{weaker, joined}
use Rattle.tw_journal.specs.Writes.{IsOldOr}
use Rattle.tw_journal.specs.Checkpoint.{extended, IsSameBeside, IsCopying}
use Rattle.tw_journal.proofs.Between.{beside_itself}

module _ {D : Type 0} (m : DiskModel D) (old : D) (at to : ℕ) where
  abbrev Copying : List ℕ → Type 0
  Copying = IsCopying at to (m.seen old)

  roomed : (c : List ℕ) → IsOldOr (extended to) (m.seen old) c → Copying c
  roomed c (inl same) = inl same
  roomed c (inr same) = inr (subst (IsSameBeside at to (extended to (m.seen old))) (sym same) (beside_itself at to (extended to (m.seen old))))

  pub after_room : (a : D) → LeavesOnly m old a (IsOldOr (extended to) (m.seen old)) → LeavesOnly m old a Copying
  after_room a run = weaker m old a (IsOldOr (extended to) (m.seen old)) Copying run roomed

  pub after_record : (a b : D) (end : ℕ) → end ≡ to → LeavesOnly m old a Copying → m.seen a ≡ extended to (m.seen old) → LeavesOnly m a b (IsSameBeside at end (m.seen a)) → LeavesOnly m old b Copying
  after_record a b end is so_far seen run =
      joined m old a b Copying so_far (weaker m a b (IsSameBeside at end (m.seen a)) Copying run
      (λ c has. inr (subst (λ (s : List ℕ). IsSameBeside at to s c) seen (subst (λ (k : ℕ). IsSameBeside at k (m.seen a) c) is has))))
