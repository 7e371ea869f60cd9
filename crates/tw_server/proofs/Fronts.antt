-- The front of a body that is shorter than what a version has before its segment.
use Rattle.std.proofs.Common.{◌≡◌, ◌∙◌, ℕ, ◌+◌, ◌≤◌, Bool, true, false, nat_le, List, [], length, get_or, take, refl, sym, arith}
use Rattle.std.proofs.lemmas.Bool.Decides.{nat_tests}
use Rattle.std.proofs.lemmas.List.{take_all}
use Rattle.tw_world.specs.Disk.{DiskModel, Tells, Untouched}
use Rattle.tw_journal.specs.declared.journal.Journal.{Journal}
use Rattle.tw_journal.specs.declared.error.ReadError.{ReadError}
use Rattle.tw_journal.specs.declared.error.ReadError.TheVariants as reads
use Rattle.tw_journal.specs.Journal.{OnBody, ReadRefused}
use Rattle.tw_journal.proofs.Offsets.{still_open}

few : (l : ℕ) → (49 ≤ l → ⊥) → l ≤ 49
few l less = by (nat_le 49 l) refl
  where
    by : (t : Bool) → nat_le 49 l ≡ t → l ≤ 49
    by true e = absurd (less (grind (arith, nat_tests)))
    by false e = grind (arith, nat_tests)

module _ {D : Type 0} (m : DiskModel D) (journal : Journal) (before mid : D) (same : Untouched m before mid) where
  -- all of a short body was read
  pub short_front : (n : ℕ) (items : List ℕ) → (Tells m before → OnBody m journal before n (λ body. 0 + 49 ≤ length body → ⊥)) → OnBody m journal mid n (λ stored. items ≡ stored)
      → OnBody m journal before n (λ stored. items ≡ take 49 stored)
  short_front n items short whole = λ magic bodies on.
      let stored = get_or bodies n [] in
      whole magic bodies (still_open m magic journal before mid bodies same on) ∙ sym (take_all 49 stored (few (length stored) (short on.rest.tells magic bodies on)))

  -- it was not
  pub front_refused : (new : D) (e : ReadError) → ReadRefused m mid new journal e → ReadRefused m before new journal e
  front_refused new reads.Disk refused = let first = same.kept.faults in let then = refused in omega (arith, first, then)
  front_refused new reads.Closed refused = refused
  front_refused new (reads.Damaged offset) refused = λ tells magic bodies on. refused (same.kept.tells ∙ tells) magic bodies (still_open m magic journal before mid bodies same on)
  front_refused new reads.Memory refused = tt
