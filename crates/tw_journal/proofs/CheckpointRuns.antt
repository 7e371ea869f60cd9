-- What a crash leaves while one record replaces all others.
use Rattle.std.specs.Int.{to_be_bytes, w64}
use Rattle.std.proofs.Common.{◌≡◌, ◌⊎◌, inl, inr, ℕ, ◌+◌, ◌<◌, ◌≤◌, ◌^◌, List, [], ◌∷◌, length, take, sym, ◌∙◌, ap, subst}
use Rattle.tw_world.specs.Disk.{DiskModel, Tells, IsStable, LeavesOnly, overwritten}
use Rattle.tw_world.proofs.Moments.{weaker, joined}
use Rattle.tw_journal.specs.Record.{IsRecordLength}
use Rattle.tw_journal.specs.Form.{version_in}
use Rattle.tw_journal.specs.Writes.{IsOldOr}
use Rattle.tw_journal.specs.Journal.{IsAtRest}
use Rattle.tw_journal.specs.Checkpoint.{checkpoint_offset, other_slot, other_selector, closed_record, extended, pointed, IsCopying, IsPointing, IsReplacing, IsSameBeside}
use Rattle.tw_journal.proofs.Between.{overwritten_beside}
use Rattle.tw_journal.proofs.Slots.{placed}
use Rattle.tw_journal.proofs.CheckpointFiles.{copying, pointing, cutting, rest_after, version_kept}

-- the record is written, the other slot counts, and the file is cut
module _ {D : Type 0} (m : DiskModel D) (old : D) (magic body : List ℕ) (bodies : List (List ℕ)) (start end at selector : ℕ) (rest : IsAtRest m magic selector start old bodies) (fits : IsRecordLength body) (long : length (m.seen old) ≡ end) (low : 29 ≤ start)
    (offset : at ≡ checkpoint_offset (length body + 5) start end) (small : at < 2 ^ 64) (plain : selector < 4) where
  abbrev Replacing : List ℕ → Type 0
  Replacing = IsReplacing magic (end + (length body + 7)) bodies body

  abbrev here : ((at ≡ 29) × (29 + (length body + 5) + 1 ≤ start)) ⊎ (at ≡ end + 1)
  here = placed (length body + 5) start end at offset

  pub after_copy : (a : D) → LeavesOnly m old a (IsCopying at (at + length body + 6) (m.seen old)) → LeavesOnly m old a Replacing
  after_copy a run = weaker m old a _ Replacing run (copying magic (m.seen old) body bodies start end at selector rest.form rest.selector_is rest.file rest.lengths fits long low here small plain)

  pub after_point : (a b : D) → LeavesOnly m old a Replacing → m.seen a ≡ overwritten at (closed_record body) (extended (at + length body + 6) (m.seen old)) → LeavesOnly m a b (IsPointing selector at (m.seen a)) → LeavesOnly m old b Replacing
  after_point a b so_far seen run =
      joined m old a b Replacing so_far (weaker m a b _ Replacing run (λ c has. pointing magic (m.seen old) body bodies start end at selector rest.form rest.selector_is rest.file rest.lengths fits long low here small plain c (subst (λ (s : List ℕ). IsPointing selector at s c) seen has)))

  pub after_end : (a b n : D) → LeavesOnly m old b Replacing → m.seen a ≡ overwritten at (closed_record body) (extended (at + length body + 6) (m.seen old)) → m.seen b ≡ pointed selector at (m.seen a)
      → LeavesOnly m b n (λ c. (c ≡ m.seen b) ⊎ (c ≡ take (at + length body + 5) (m.seen b))) → LeavesOnly m old n Replacing
  after_end a b n so_far seen two run =
      let is = two ∙ ap (pointed selector at) seen in
      joined m old b n Replacing so_far (weaker m b n _ Replacing run (λ c has. cutting magic (m.seen old) body bodies start end at selector rest.form rest.selector_is rest.file rest.lengths fits long low here small plain c (subst (λ (s : List ℕ). (c ≡ s) ⊎ (c ≡ take (at + length body + 5) s)) is has)))

  pub at_rest_then : (a b n : D) → m.seen a ≡ overwritten at (closed_record body) (extended (at + length body + 6) (m.seen old)) → m.seen b ≡ pointed selector at (m.seen a) → Tells m n → IsStable m n → m.seen n ≡ take (at + length body + 5) (m.seen b)
      → IsAtRest m magic (other_selector selector) at n (body ∷ []) × (version_in (m.seen n) ≡ version_in (m.seen old))
  at_rest_then a b n seen two tells settled three =
      let is = three ∙ ap (take (at + length body + 5)) (two ∙ ap (pointed selector at) seen) in (
        rest_after magic (m.seen old) body bodies start end at selector rest.form rest.selector_is rest.file rest.lengths fits long low here small plain m n tells settled is,
        ap version_in is ∙ version_kept magic (m.seen old) body bodies start end at selector rest.form rest.selector_is rest.file rest.lengths fits long low here small plain,
      )

-- the other slot is written, and then counts
module _ {D : Type 0} (m : DiskModel D) (old a n : D) (selector at slot byte : ℕ) (slot_is : slot ≡ other_slot selector) (byte_is : byte ≡ other_selector selector) (room : slot + 8 ≤ length (m.seen old)) where
  abbrev Pointing : List ℕ → Type 0
  Pointing = IsPointing selector at (m.seen old)

  beside : (c : List ℕ) → IsSameBeside slot (slot + 8) (m.seen old) c → Pointing c
  beside c same = inl (subst (λ (k : ℕ). IsSameBeside k (k + 8) (m.seen old) c) slot_is same)

  stands : IsSameBeside slot (slot + 8) (m.seen old) (overwritten slot (to_be_bytes w64 at) (m.seen old))
  stands = overwritten_beside slot (to_be_bytes w64 at) (m.seen old) room

  with_byte : m.seen a ≡ overwritten slot (to_be_bytes w64 at) (m.seen old) → (c : List ℕ) → IsOldOr (overwritten 0 (byte ∷ [])) (m.seen a) c → Pointing c
  with_byte seen c (inl same) = beside c (subst (IsSameBeside slot (slot + 8) (m.seen old)) (sym (same ∙ seen)) stands)
  with_byte seen c (inr same) = inr (same ∙ ap (λ (b : ℕ). overwritten 0 (b ∷ []) (m.seen a)) byte_is ∙ ap (overwritten 0 (other_selector selector ∷ [])) (seen ∙ ap (λ (k : ℕ). overwritten k (to_be_bytes w64 at) (m.seen old)) slot_is))

  pub slot_then_byte : LeavesOnly m old a (IsSameBeside slot (slot + 8) (m.seen old)) → m.seen a ≡ overwritten slot (to_be_bytes w64 at) (m.seen old) → LeavesOnly m a n (IsOldOr (overwritten 0 (byte ∷ [])) (m.seen a)) → LeavesOnly m old n Pointing
  slot_then_byte first seen second =
      joined m old a n Pointing (weaker m old a (IsSameBeside slot (slot + 8) (m.seen old)) Pointing first beside) (weaker m a n (IsOldOr (overwritten 0 (byte ∷ [])) (m.seen a)) Pointing second (with_byte seen))
