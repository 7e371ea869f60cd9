-- A file of the first version that becomes one of the second.
use Rattle.std.specs.Prelude.{not, nat_eq, nat_le, ◌||◌, if◌then◌else◌, take, drop, Option, Some, None}
use lib.Pointwise.{pointwise}
use Rattle.std.proofs.Common.{◌≡◌, ◌⊎◌, inl, inr, ℕ, zero, suc, ◌+◌, ◌^◌, ◌≤◌, Bool, true, false, cond, ◌&&◌, List, [], ◌∷◌, length, refl, sym, ap, subst, ◌∙◌, ⊎_elim, arith}
use Rattle.std.proofs.lemmas.Bool.{le-leb, and_parts}
use Rattle.std.proofs.lemmas.Option.{same_Some}
use Rattle.tw_world.specs.Disk.{DiskModel, Tells, LeavesOnly, FaultsRise, Untouched}
use Rattle.tw_world.proofs.Moments.{CountsNow, joined, weaker}
use Rattle.tw_journal.specs.Record.{IsTail, behind_gate}
use Rattle.tw_journal.specs.Form.{Records, selector_in, version_in, version_of, takes_version, has_magic, start_by, IsSameOrEnded}
use Rattle.tw_journal.specs.Upgrade.{upgraded, RecordsOrThose}
use Rattle.tw_journal.specs.Journal.{IsOpened, IsOpenOn, IsNewOrSame, can_checkpoint, journal_version}
use Rattle.tw_journal.specs.declared.journal.Journal.{Journal}
use Rattle.tw_journal.proofs.Offsets.{ended_areas, no_longer, open_records, still_open}
use Rattle.tw_journal.proofs.Unique.{one_records}
use Rattle.tw_bodies.specs.Body.{IsStep, body_of}
use Rattle.tw_state.specs.State.{State, Stands, checkpoint, start, replayed}
use Rattle.tw_replica.specs.Replica.{magic, is_old_row, OpensTo, RecordsAfter, KeepsRecords, CanBeRenewed, IsRowTooLong, OpeningRefused}
use Rattle.tw_replica.specs.Opening.{state_body, shortened_bodies, opened_bodies, is_on_old_row, renewed, replaced, AreMany, IsInPlace, IsAtMost, KeepsBodies}
use Rattle.tw_replica.specs.Opening.{ShorteningRefused, RenewingRefused, shortening_in_renewing, renewing_in_open}
use Rattle.tw_replica.specs.declared.open.shorten.ShorteningError.{ShorteningError}
use Rattle.tw_replica.specs.declared.open.shorten.ShorteningError.TheVariants.{Disk, Memory}
use Rattle.tw_replica.specs.declared.open.renew.RenewingError.{RenewingError}
use Rattle.tw_replica.specs.declared.open.renew.RenewingError.TheVariants as renewings
use Rattle.tw_state.proofs.Soundness.{stands_sound}
use Rattle.tw_replica.proofs.Replaying.{opens_as_before}
use Rattle.tw_replica.proofs.Shortening.{state_stands, too_few, not_longer, same_records}

-- ---- a number is 49 or not

equal : (a b : ℕ) → a ≡ b → nat_eq a b ≡ true
equal a b e = grind (arith, e)

unequal : (a b : ℕ) → (a ≡ b → ⊥) → nat_eq a b ≡ false
unequal a b e = by (nat_eq a b) refl
  where
    by : (t : Bool) → nat_eq a b ≡ t → nat_eq a b ≡ false
    by true e2 = absurd (e (grind (arith, e2)))
    by false e2 = e2

true_not_false : true ≡ false → ⊥
true_not_false e = absurd cc

tested : (b : Bool) (o : Option ℕ) (s : ℕ) → (if b then o else None) ≡ Some s → b ≡ true
tested true o s e = refl
tested false o s e = absurd cc

-- the magic takes no third version
of_two : (version : ℕ) → takes_version magic version ≡ true → (version ≡ 49 → ⊥) → version ≡ 50
of_two version takes other = by (nat_eq version 50) refl
  where
    by : (b : Bool) → nat_eq version 50 ≡ b → version ≡ 50
    by true e = grind (arith, e)
    by false e = absurd (true_not_false (sym takes ∙ ap (λ (b : Bool). b || (true && nat_eq version 49)) e ∙ unequal version 49 other))

pub only_second : {D : Type 0} (m : DiskModel D) (journal : Journal) (disk : D) (bodies : List (List ℕ)) → IsOpenOn m magic journal disk bodies → (journal_version journal ≡ 49 → ⊥) → journal_version journal ≡ 50
only_second m journal disk bodies on other =
    let file = m.seen disk in
    let has = tested (has_magic magic file) (start_by (selector_in file) file) journal.start on.rest.form in
    let text = pointwise nat_eq (take 11 (drop 1 file)) (take 11 (behind_gate magic)) in
    let takes = takes_version magic (version_in file) in
    sym on.version ∙ of_two (version_in file) (and_parts text takes (and_parts (nat_le 13 (length file)) (text && takes) has).1).1 (λ e. other (sym on.version ∙ e))

-- ---- what becomes of a journal's records

module _ (journal : Journal) where
  -- none of another version
  pub not_renewed : (journal_version journal ≡ 49 → ⊥) → is_on_old_row journal ≡ false
  not_renewed other = by (not (can_checkpoint journal)) (nat_eq (journal_version journal) 49) (unequal (journal_version journal) 49 other)
    where
      by : (a b : Bool) → b ≡ false → a && b ≡ false
      by true b e = e
      by false b e = refl

  pub kept_by_areas : can_checkpoint journal ≡ true → is_on_old_row journal ≡ false
  kept_by_areas e = ap (λ (b : Bool). not b && nat_eq (journal_version journal) 49) e

  pub old_by_row : can_checkpoint journal ≡ false → journal_version journal ≡ 49 → is_on_old_row journal ≡ true
  old_by_row e v = ap (λ (b : Bool). not b && nat_eq (journal_version journal) 49) e ∙ equal (journal_version journal) 49 v

  pub row_has_no_areas : is_on_old_row journal ≡ true → can_checkpoint journal ≡ false
  row_has_no_areas e = by (can_checkpoint journal) refl
    where
      by : (b : Bool) → can_checkpoint journal ≡ b → can_checkpoint journal ≡ false
      by true e2 = absurd (true_not_false (sym e ∙ kept_by_areas e2))
      by false e2 = e2

-- the body that is put in place of a row
pub body_of_row : (journal : Journal) (state : State) → can_checkpoint journal ≡ false → (if can_checkpoint journal then [] else state_body state) ≡ state_body state
body_of_row journal state e = ap (λ (b : Bool). if b then [] else state_body state) e

module _ (journal : Journal) (state : State) (bodies : List (List ℕ)) where
  pub stays : is_on_old_row journal ≡ false → renewed journal state bodies ≡ bodies
  stays e = ap (λ (b : Bool). cond b (state_body state ∷ []) bodies) e

  pub becomes_one : is_on_old_row journal ≡ true → renewed journal state bodies ≡ state_body state ∷ []
  becomes_one e = ap (λ (b : Bool). cond b (state_body state ∷ []) bodies) e

  -- an upgrade by the body that is put in place
  pub renewed_is : journal_version journal ≡ 49 → upgraded journal bodies (if can_checkpoint journal then [] else state_body state) ≡ renewed journal state bodies
  renewed_is v = by (can_checkpoint journal) refl
    where
      by : (b : Bool) → can_checkpoint journal ≡ b → upgraded journal bodies (if can_checkpoint journal then [] else state_body state) ≡ renewed journal state bodies
      by true e = ap (λ (b : Bool). if b then bodies else (if can_checkpoint journal then [] else state_body state) ∷ []) e ∙ sym (stays (kept_by_areas journal e))
      by false e =
          ap (λ (b : Bool). if b then bodies else (if can_checkpoint journal then [] else state_body state) ∷ []) e
          ∙ ap (λ (b : Bool). (if b then [] else state_body state) ∷ []) e
          ∙ sym (becomes_one (old_by_row journal e v))

  -- what stands for a state still does, if the body of a row is whole and not above the limit
  pub renewed_stands : Stands bodies state → (is_on_old_row journal ≡ true → IsStep (checkpoint state) × (length (state_body state) + 5 ≤ 2 ^ 30)) → Stands (renewed journal state bodies) state
  renewed_stands stands row = by (is_on_old_row journal) refl
    where
      by : (b : Bool) → is_on_old_row journal ≡ b → Stands (renewed journal state bodies) state
      by true e = let r = row e in subst (λ (l : List (List ℕ)). Stands l state) (sym (becomes_one e)) (state_stands state (stands_sound bodies state stands) r.0 (omega (arith, r.1)))
      by false e = subst (λ (l : List (List ℕ)). Stands l state) (sym (stays e)) stands

  -- the second step after the first
  pub replaced_is : (new : Journal) → (is_on_old_row journal ≡ false → can_checkpoint new ≡ can_checkpoint journal) → shortened_bodies (can_checkpoint new) state (renewed journal state bodies) ≡ replaced journal state bodies
  replaced_is new same = by (is_on_old_row journal) refl
    where
      by : (b : Bool) → is_on_old_row journal ≡ b → shortened_bodies (can_checkpoint new) state (renewed journal state bodies) ≡ replaced journal state bodies
      by true e =
          ap (shortened_bodies (can_checkpoint new) state) (becomes_one e) ∙ too_few (can_checkpoint new) state (state_body state ∷ []) refl
          ∙ sym (ap (λ (b : Bool). cond b (state_body state ∷ []) (shortened_bodies (can_checkpoint journal) state bodies)) e)
      by false e =
          ap (shortened_bodies (can_checkpoint new) state) (stays e) ∙ ap (λ (b : Bool). shortened_bodies b state bodies) (same e)
          ∙ sym (ap (λ (b : Bool). cond b (state_body state ∷ []) (shortened_bodies (can_checkpoint journal) state bodies)) e)

  -- many records are those from before
  pub many_stay : 1000 ≤ length (renewed journal state bodies) → is_on_old_row journal ≡ false
  many_stay many = by (is_on_old_row journal) refl
    where
      by : (b : Bool) → is_on_old_row journal ≡ b → is_on_old_row journal ≡ false
      by true e = absurd (omega (arith, many, ap length (becomes_one e)))
      by false e = e

-- ---- a journal and the file that it was opened on

tail_or_not : (file : List ℕ) → IsTail file ⊎ (IsTail file → ⊥)
tail_or_not [] = inl tt
tail_or_not (zero ∷ rest) = inl refl
tail_or_not (suc n ∷ rest) = inr (λ e. absurd cc)

no_row : (file : List ℕ) → IsTail file → is_old_row file ≡ false
no_row [] tail = refl
no_row (zero ∷ rest) tail = refl
no_row (suc n ∷ rest) tail = absurd cc

tail_by_first : (file : List ℕ) → selector_in file ≡ 0 → IsTail file
tail_by_first [] e = tt
tail_by_first (gate ∷ rest) e = e

-- without areas the first byte is 1, and then the version is that of before
row_by_first : (n v w : ℕ) → (n ≡ 0 → ⊥) → (n ≡ 1 → w ≡ v) → (not (nat_le 2 n) && nat_eq w 49) ≡ (nat_eq n 1 && nat_eq v 49)
row_by_first zero v w some same = absurd (some refl)
row_by_first (suc zero) v w some same = ap (λ (k : ℕ). nat_eq k 49) (same refl)
row_by_first (suc (suc n)) v w some same =
    ap (λ (b : Bool). not b && nat_eq w 49) (le-leb 2 (suc (suc n)) (omega arith))
    ∙ sym (ap (λ (b : Bool). b && nat_eq v 49) (unequal (suc (suc n)) 1 (λ e. absurd (omega (arith, e)))))

module _ (file c : List ℕ) (journal : Journal) (made : IsNewOrSame magic file c) (selector_is : selector_in c ≡ journal.selector) (version_is : version_in c ≡ journal.version) where
  new_version : IsTail file → journal.version ≡ 50
  new_version tail = sym version_is ∙ ap version_in (made.made tail)

  -- a file of the first version was there before
  pub first_was_there : journal_version journal ≡ 49 → IsSameOrEnded magic file c
  first_was_there v = ⊎_elim (λ tail. absurd (omega (arith, v, new_version tail))) made.same (tail_or_not file)

  pub same_row : is_on_old_row journal ≡ is_old_row file
  same_row = ⊎_elim new old (tail_or_not file)
    where
      new : IsTail file → is_on_old_row journal ≡ is_old_row file
      new tail = not_renewed journal (λ e. absurd (omega (arith, e, new_version tail))) ∙ sym (no_row file tail)

      old : (IsTail file → ⊥) → is_on_old_row journal ≡ is_old_row file
      old some =
          let same = made.same some in
          ap (λ (b : Bool). not b && nat_eq journal.version 49) (ap (nat_le 2) (sym selector_is ∙ same.selector) ∙ ended_areas (selector_in file))
          ∙ row_by_first (selector_in file) (version_in file) journal.version (λ e. some (tail_by_first file e))
          (λ e. sym version_is ∙ same.version ∙ ap (λ (n : ℕ). if nat_eq n 4 then version_of magic else version_in file) e)

-- a state to which a file opens is the only one
one_state : (file : List ℕ) (a b : State) → OpensTo file a → OpensTo file b → a ≡ b
one_state file a b first second =
    same_Some a b (sym first.stands ∙ ap (replayed start) (one_records magic file first.bodies second.bodies first.records second.records) ∙ second.stands)

pub fits_its_record : (file : List ℕ) (state : State) (bytes : ℕ) → OpensTo file state → CanBeRenewed file state → IsRowTooLong file bytes → ⊥
fits_its_record file state bytes opens can long =
    let same : length (body_of (checkpoint state)) ≡ length (body_of (checkpoint long.state)) = ap (λ (s : State). length (body_of (checkpoint s))) (one_state file state long.state opens long.opens) in
    absurd (omega (arith, can long.row, long.long.size, long.long.above, same))

module _ {D : Type 0} (m : DiskModel D) where
  -- the old records or those that became of them
  pub opens_renewed : (before after : D) (bodies those : List (List ℕ)) (state : State) → Stands bodies state → Stands those state → LeavesOnly m before after (RecordsOrThose magic bodies those) → LeavesOnly m before after (λ c. OpensTo c state)
  opens_renewed before after bodies those state stands still run =
      weaker m before after (RecordsOrThose magic bodies those) (λ c. OpensTo c state) run
      (λ c has. ⊎_elim (λ old. record { bodies = bodies; records = old; stands = stands }) (λ new. record { bodies = those; records = new; stands = still }) has)

  -- many records are where they were, and so is the file's end
  pub no_longer_still : (before mid : D) (old new : Journal) (state : State) (bodies : List (List ℕ)) (most : ℕ) → IsOpenOn m magic old before bodies → IsOpenOn m magic new mid (renewed old state bodies) → IsInPlace old new
      → ((journal_version old ≡ 49) ⊎ AreMany bodies → length (m.seen before) ≤ most) → AreMany (renewed old state bodies) → length (m.seen mid) ≤ most
  no_longer_still before mid old new state bodies most on now place le many =
      let kept = many_stay old state bodies many in
      omega (arith, now.end, on.end, place.end kept, le (inr (omega (arith, many, ap length (stays old state bodies kept)))))

  -- two steps after another
  pub grows_on : CountsNow m → (before mid after : D) (most a b : ℕ) → LeavesOnly m before mid (IsAtMost m before (most + a)) → LeavesOnly m mid after (IsAtMost m mid (most + b)) → b ≤ a → LeavesOnly m before after (IsAtMost m before (most + a))
  grows_on counts_now before mid after most a b first second le =
      joined m before mid after (IsAtMost m before (most + a)) first
      (weaker m mid after (IsAtMost m mid (most + b)) (IsAtMost m before (most + a)) second (λ c has.
      ⊎_elim (λ left. first.each c (counts_now mid (m.moment before) c first.later left)) (λ more. inr (omega (arith, more, le))) has))

  -- the records that an opening leaves of those in the file
  pub opened_is : (before mid : D) (journal : Journal) (state : State) (o : IsOpened m magic before mid journal) → IsNewOrSame magic (m.seen before) (m.seen mid) → replaced journal state o.bodies ≡ opened_bodies (m.seen before) state o.bodies
  opened_is before mid journal state o made =
      let file = m.seen before in
      ap (λ (b : Bool). cond b (state_body state ∷ []) (shortened_bodies (can_checkpoint journal) state o.bodies)) (same_row file (m.seen mid) journal made o.now.rest.selector_is o.now.version)
      ∙ ap (λ (l : List (List ℕ)). cond (is_old_row file) (state_body state ∷ []) l) (same_records m before mid journal state o)

  -- a file that is replaced was there, and is no longer than before
  pub not_longer_yet : (before mid : D) (journal : Journal) (o : IsOpened m magic before mid journal) → IsNewOrSame magic (m.seen before) (m.seen mid) → (journal_version journal ≡ 49) ⊎ AreMany o.bodies → length (m.seen mid) ≤ length (m.seen before)
  not_longer_yet before mid journal o made due =
      ⊎_elim (λ first. no_longer m magic before mid journal o (first_was_there (m.seen before) (m.seen mid) journal made o.now.rest.selector_is o.now.version first)) (λ many. not_longer m before mid journal o many) due

  -- ---- refusals

  pub not_shortened : (before mid after : D) (old new : Journal) (state : State) (e : ShorteningError) → FaultsRise m before mid → RecordsAfter m old new before mid (renewed old state) → ShorteningRefused m new mid after e → RenewingRefused m old before after state (shortening_in_renewing e)
  not_shortened before mid after old new state Disk kept records r = omega (arith, kept.faults, r)
  not_shortened before mid after old new state Memory kept records r = λ bodies on.
      let now = records bodies on in
      let many : 1000 ≤ length (renewed old state bodies) = omega (arith, r.1, now.count) in
      subst (λ (d : D). Records magic (m.seen d) bodies) (sym r.0)
      (subst (Records magic (m.seen mid)) (stays old state bodies (many_stay old state bodies many)) (open_records m magic new mid (renewed old state bodies) now))

  pub renewing_refused : (before first mid after : D) (journal : Journal) (state : State) (e : RenewingError) → FaultsRise m before mid
      → (Tells m before → IsOpened m magic before first journal) → (Tells m before → IsNewOrSame magic (m.seen before) (m.seen first)) → Untouched m first mid
      → ((bodies : List (List ℕ)) → IsOpenOn m magic journal first bodies → Stands bodies state)
      → RenewingRefused m journal mid after state e → OpeningRefused m before after (renewing_in_open e)
  renewing_refused before first mid after journal state e kept opened made same stands = by e
    where
      keeps : KeepsBodies m journal mid after → Tells m before → KeepsRecords (m.seen before) (m.seen after)
      keeps has tells = let o = opened tells in inr (o.bodies, o.records, has o.bodies (still_open m magic journal first mid o.bodies same o.now))

      by : (e : RenewingError) → RenewingRefused m journal mid after state e → OpeningRefused m before after (renewing_in_open e)
      by renewings.Disk r = omega (arith, kept.faults, r)
      by renewings.Memory r = λ tells. opens_as_before _ _ (keeps r tells)
      by (renewings.TooLong bytes) r = λ tells.
          let o = opened tells in (
            record {
              row = sym (same_row (m.seen before) (m.seen first) journal (made tells) o.now.rest.selector_is o.now.version) ∙ r.1;
              state = state;
              opens = record { bodies = o.bodies; records = o.records; stands = stands o.bodies o.now };
              long = r.2;
            },
            opens_as_before _ _ (keeps r.0 tells),
          )
