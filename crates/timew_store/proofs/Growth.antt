-- How much longer a change or an undo makes a file.
use Rattle.std.specs.Prelude.{min, slice_get}
use Rattle.std.proofs.Common.{◌≡◌, inl, inr, ⊎_elim, ℕ, ◌+◌, ◌≤◌, ◌^◌, List, [], ◌∷◌, length, Some, refl, sym, ap, subst, ◌∙◌, arith}
use Rattle.std.proofs.lemmas.List.{length-append}
use Rattle.std.specs.Int.{to_be_bytes, w32}
use Rattle.tw_world.specs.Disk.{DiskModel, Tells, LeavesOnly, Untouched}
use Rattle.tw_world.specs.Folder.{Files}
use Rattle.tw_world.proofs.Moments.{OnlyNow, started, joined, weaker}
use Rattle.tw_journal.specs.Record.{rows, behind_gate, IsLongerBy}
use Rattle.tw_journal.specs.Journal.{AppendRefused}
use Rattle.tw_journal.specs.declared.journal.Journal.{Journal}
use Rattle.tw_journal.specs.declared.error.AppendError.{AppendError}
use Rattle.tw_journal.specs.declared.error.AppendError.TheVariants as appends
use Rattle.timew_month.specs.Body.{FileChange, body_of}
use Rattle.timew_month.specs.Body.Step.{Change, Undo}
use Rattle.timew_month.specs.Changes.{changes_to}
use Rattle.timew_store.specs.History.{exchanged}
use Rattle.timew_store.specs.Store.{change_bodies}
use Rattle.timew_store.specs.StoreUndo.{undo_bodies}
use Rattle.timew_interval.specs.declared.interval.Interval.{Interval}
use Rattle.timew_store.proofs.Undoes.{top_of}

one_size : (body : List ℕ) → length (rows (body ∷ [])) ≡ length body + 5
one_size body = omega (arith, length-append (behind_gate body) [], length-append (to_be_bytes w32 (length body)) body)

bodies_size : (bodies : List (List ℕ)) (body : List ℕ) → bodies ≡ body ∷ [] → length (rows bodies) ≡ length body + 5
bodies_size bodies body is = ap (λ (b : List (List ℕ)). length (rows b)) is ∙ one_size body

-- the record of a change, and that of an undo
pub change_size : (changes : List FileChange) (body : List ℕ) → (length changes ≡ 0 → ⊥) → body ≡ body_of (Change changes) → (files : Files) (next : List Interval) → changes ≡ changes_to files next → length (rows (change_bodies (changes_to files next))) ≡ length body + 5
change_size changes body some body_is files next are = subst (λ (c : List FileChange). length (rows (change_bodies c)) ≡ length body + 5) are (by_case changes some body_is)
  where
    by_case : (c : List FileChange) → (length c ≡ 0 → ⊥) → body ≡ body_of (Change c) → length (rows (change_bodies c)) ≡ length body + 5
    by_case [] some is = absurd (some refl)
    by_case (f ∷ c) some is = bodies_size (change_bodies (f ∷ c)) body (ap (λ (b : List ℕ). b ∷ []) (sym is))

pub undo_size : (undoable : List (List FileChange)) (change changes : List FileChange) (body : List ℕ) → Some change ≡ slice_get undoable 0 → changes ≡ exchanged change → body ≡ body_of (Undo changes) → length (rows (undo_bodies undoable)) ≡ length body + 5
undo_size undoable change changes body top are is =
    bodies_size (undo_bodies undoable) body (ap undo_bodies (top_of undoable change top).1 ∙ ap (λ (b : List ℕ). b ∷ []) (sym (is ∙ ap (λ (c : List FileChange). body_of (Undo c)) are)))

module _ {D : Type 0} (n : DiskModel D) where
  -- where nothing was written nothing has grown
  pub nothing_grown : OnlyNow n → (d : D) (bytes : ℕ) → LeavesOnly n d d (IsLongerBy n d bytes)
  nothing_grown only_now d bytes = started n only_now d (IsLongerBy n d bytes) (λ c left. inl left)

  pub grows_within : (d0 d1 : D) (a b : ℕ) → a ≤ b → LeavesOnly n d0 d1 (IsLongerBy n d0 a) → LeavesOnly n d0 d1 (IsLongerBy n d0 b)
  grows_within d0 d1 a b le run = weaker n d0 d1 (IsLongerBy n d0 a) (IsLongerBy n d0 b) run (λ c has. ⊎_elim (λ left. inl left) (λ more. inr (omega (arith, more, le))) has)

  -- calls that only read, alone and before others
  pub reads_grow : (d0 d1 : D) (bytes : ℕ) → Untouched n d0 d1 → Tells n d0 → LeavesOnly n d0 d1 (IsLongerBy n d0 bytes)
  reads_grow d0 d1 bytes read tells = weaker n d0 d1 (n.leaves d0) (IsLongerBy n d0 bytes) (read.run tells) (λ c left. inl left)

  pub reads_then_grow : (d0 d1 d2 : D) (bytes : ℕ) → Untouched n d0 d1 → Tells n d0 → LeavesOnly n d1 d2 (IsLongerBy n d1 bytes) → LeavesOnly n d0 d2 (IsLongerBy n d0 bytes)
  reads_then_grow d0 d1 d2 bytes read tells run = joined n d0 d1 d2 (IsLongerBy n d0 bytes) (reads_grow d0 d1 bytes read tells)
      (weaker n d1 d2 (IsLongerBy n d1 bytes) (IsLongerBy n d0 bytes) run (λ c has. ⊎_elim (λ left. inl (read.images tells c left)) (λ more. inr (omega (arith, more, ap length (read.seen tells)))) has))

  -- a record that is refused
  pub append_grows : OnlyNow n → (old new : Journal) (d0 d1 : D) (size : ℕ) (e : AppendError) → AppendRefused n old new d0 d1 size e → LeavesOnly n d0 d1 (IsLongerBy n d0 size) → LeavesOnly n d0 d1 (IsLongerBy n d0 (min size (2 ^ 30)))
  append_grows only_now old new d0 d1 size appends.Disk r run = grows_within d0 d1 size (min size (2 ^ 30)) (omega (arith, r.3)) run
  append_grows only_now old new d0 d1 size appends.Closed r run = subst (λ (d : D). LeavesOnly n d0 d (IsLongerBy n d0 (min size (2 ^ 30)))) (sym r.2) (nothing_grown only_now d0 (min size (2 ^ 30)))
  append_grows only_now old new d0 d1 size (appends.TooLong bytes) r run = subst (λ (d : D). LeavesOnly n d0 d (IsLongerBy n d0 (min size (2 ^ 30)))) (sym r.4) (nothing_grown only_now d0 (min size (2 ^ 30)))
