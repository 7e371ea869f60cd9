-- Nothing whole before the damage is left out.
use Rattle.std.specs.Prelude.{Some, None, unwrap_or}
use Rattle.std.proofs.Common.{◌≡◌, inl, inr, ◌<◌, ◌≤◌, ◌+◌, ◌-◌, ◌∙◌, ℕ, zero, suc, List, ◌∷◌, ◌++◌, length, take, drop, refl, sym, ap, subst, arith, length-append}
use Rattle.std.proofs.lemmas.List.{take_all, take-take, drop-take, length-drop, length-take}
use lib.Seq.{take-append-add}
use Rattle.tw_journal.specs.Record.{rows}
use Rattle.tw_journal.specs.Form.{Records, start_in, selector_in, offset_in, IsSameForm}
use Rattle.tw_journal.specs.Open.{IsBrokenAt, IsDamagedAt}
use Rattle.tw_journal.proofs.Forms.{start_bounds, start_front, tail_has_none}
use Rattle.tw_state.specs.State.{start}
use Rattle.tw_replica.specs.Replica.{magic, IsBadAt, IsNoStepAt}
use Rattle.tw_check.specs.declared.kind.Kind.{Kind}
use Rattle.tw_check.specs.declared.kind.Kind.TheVariants.{Tasks, Hours}
use Rattle.tw_check.specs.Kinds.{magic_of}
use Rattle.tw_check.specs.Rescue.{Cuts}
use Rattle.tw_check.specs.Whole.{RowsUpTo, LeadsUpTo, NothingWholeIsLeftOut, NoHoursAreLeftOut}
use Rattle.tw_check.proofs.Before.{before_broken, before_no_step}
use Rattle.tw_check.proofs.Inside.{bad_is_inside, damage_inside}

one_start : (kind : Kind) (file : List ℕ) (s t : ℕ) → start_in (magic_of kind) file ≡ Some s → start_in (magic_of kind) file ≡ Some t → s ≡ t
one_start kind file s t a b = let e : Some s ≡ Some t = sym a ∙ b in cc

none_some : (s : ℕ) → None ≡ Some s → ⊥
none_some s e = absurd (cc)

rows_inside : (kind : Kind) (file : List ℕ) (end : ℕ) → RowsUpTo kind file end → end ≤ length file
rows_inside kind file end l =
    omega (arith, l.ends, (start_bounds (magic_of kind) file l.start l.form).1, ap length l.split, length-append (rows l.bodies) l.rest, length-drop l.start file)

before_break : (kind : Kind) (file : List ℕ) (end offset : ℕ) → RowsUpTo kind file end → IsBrokenAt (magic_of kind) file offset → end ≤ offset
before_break kind file end offset l b =
    let same = one_start kind file b.start l.start b.form l.form in
    let le = before_broken l.bodies b.bodies l.rest b.rest l.lengths b.lengths b.broken (sym l.split ∙ ap (λ k. drop k file) (sym same) ∙ b.split) in
    omega (arith, same, le, l.ends, b.stands)

-- whole records end before the damage of a journal
before_damage : (kind : Kind) (file : List ℕ) (end offset : ℕ) → RowsUpTo kind file end → IsDamagedAt (magic_of kind) file offset → end ≤ offset
before_damage kind file end offset l (inl none) = absurd (none_some l.start (sym none.1.0 ∙ l.form))
before_damage kind file end offset l (inr broken) = before_break kind file end offset l broken

before_step : (file : List ℕ) (end offset : ℕ) → LeadsUpTo file end → (n : IsNoStepAt file offset) → Records magic file (n.bodies ++ n.body ∷ n.more) → end ≤ offset
before_step file end offset l n (inl has) =
    let same = one_start Tasks file has.start l.whole.start has.form l.whole.form in
    let at : offset_in magic file n.bodies (length n.bodies) ≡ has.start + length (rows n.bodies) =
    (λ i. unwrap_or (has.form i) 0 + length (rows (take_all (length n.bodies) n.bodies (omega arith) i))) in
    let le = before_no_step start l.state n.state l.whole.bodies n.bodies n.more n.body l.whole.rest has.image.tail l.whole.lengths has.image.lengths l.stands n.stands n.nowhere
    (sym l.whole.split ∙ ap (λ k. drop k file) (sym same) ∙ has.image.split) in
    omega (arith, same, le, l.whole.ends, n.at ∙ at)
before_step file end offset l n (inr none) = absurd (tail_has_none magic file l.whole.start none.1 l.whole.form)

before_bad : (file : List ℕ) (end offset : ℕ) → LeadsUpTo file end → IsBadAt file offset → end ≤ offset
before_bad file end offset l (inl damaged) = before_damage Tasks file end offset l.whole damaged
before_bad file end offset l (inr step) = before_step file end offset l step step.records

module _ (kind : Kind) (file : List ℕ) (end offset : ℕ) (plain : selector_in file < 4) (l : RowsUpTo kind file end) (le : end ≤ offset) (inside : offset ≤ length file) where
  cut_form : IsSameForm (magic_of kind) file (take offset file)
  cut_form = start_front (magic_of kind) file (take offset file) offset l.start l.form plain (take-take offset offset file (omega arith)) (inl (omega (arith, l.ends, le))) (omega (arith, l.ends, le, length-take offset file, inside))

  cut_split : (k : ℕ) → offset ≡ l.start + (length (rows l.bodies) + k) → drop l.start (take offset file) ≡ rows l.bodies ++ take k l.rest
  cut_split k is =
      ap (λ n. drop l.start (take n file)) is ∙ drop-take l.start (length (rows l.bodies) + k) file ∙ ap (take (length (rows l.bodies) + k)) l.split ∙ take-append-add (rows l.bodies) l.rest k

  rows_cut : RowsUpTo kind (take offset file) end
  rows_cut = record {
    start = l.start;
    form = cut_form.start ∙ l.form;
    bodies = l.bodies;
    rest = take (offset - end) l.rest;
    split = cut_split (offset - end) (omega (arith, le, l.ends));
    lengths = l.lengths;
    ends = l.ends;
  }

leads_cut : (file : List ℕ) (end offset : ℕ) → selector_in file < 4 → (l : LeadsUpTo file end) → end ≤ offset → offset ≤ length file → LeadsUpTo (take offset file) end
unfolding rows_cut
leads_cut file end offset plain l le inside =
    record { whole = rows_cut Tasks file end offset plain l.whole le inside; state = l.state; stands = l.stands }

kept : (times : ℕ) (file front : List ℕ) → selector_in file < 4 → Cuts Tasks times file front → (end : ℕ) → LeadsUpTo file end → end ≤ length front
kept zero file front plain same end l = omega (arith, rows_inside Tasks file end l.whole, ap length same)
kept (suc n) file front plain (offset, bad, cuts) end l =
    let le = before_bad file end offset l bad in
    let inside : offset ≤ length file = omega (arith, bad_is_inside file offset bad) in
    let form = cut_form Tasks file end offset plain l.whole le inside in
    kept n (take offset file) front (omega (arith, form.selector, plain)) cuts end (leads_cut file end offset plain l le inside)

pub nothing_left_out : NothingWholeIsLeftOut
nothing_left_out file front plain is end l = kept is.times file front plain is.cuts end l

kept_hours : (times : ℕ) (file front : List ℕ) → selector_in file < 4 → Cuts Hours times file front → (end : ℕ) → RowsUpTo Hours file end → end ≤ length front
kept_hours zero file front plain same end l = omega (arith, rows_inside Hours file end l, ap length same)
kept_hours (suc n) file front plain (offset, bad, cuts) end l =
    let le = before_damage Hours file end offset l bad in
    let inside : offset ≤ length file = omega (arith, damage_inside (magic_of Hours) file offset bad) in
    let form = cut_form Hours file end offset plain l le inside in
    kept_hours n (take offset file) front (omega (arith, form.selector, plain)) cuts end (rows_cut Hours file end offset plain l le inside)

pub no_hours_left_out : NoHoursAreLeftOut
no_hours_left_out file front plain is end l = kept_hours is.times file front plain is.cuts end l
