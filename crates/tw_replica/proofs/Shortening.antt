-- One record of the whole state in place of many records.
use Rattle.std.specs.Prelude.{nat_le}
use Rattle.std.proofs.Common.{◌≡◌, inl, inr, ℕ, ◌+◌, ◌^◌, ◌<◌, ◌≤◌, Bool, true, false, cond, ◌&&◌, List, [], ◌∷◌, length, refl, sym, ap, subst, ◌∙◌, ⊎_elim, arith}
use Rattle.std.proofs.lemmas.Bool.{leb-true}
use Rattle.tw_world.specs.Disk.{DiskModel, Rose, LeavesOnly}
use Rattle.tw_world.proofs.Moments.{CountsNow, OnlyNow, joined, weaker, started}
use Rattle.tw_journal.specs.Form.{Records, has_areas, selector_in, IsSameOrEnded}
use Rattle.tw_journal.specs.Open.{IsImageThen}
use Rattle.tw_journal.specs.Record.{IsLongerBy}
use Rattle.tw_journal.specs.Journal.{IsOpenOn, IsOpened, RecordsOrOne, AppendRefused, can_checkpoint, is_closed}
use Rattle.tw_journal.specs.declared.journal.Journal.{Journal}
use Rattle.tw_journal.specs.declared.error.AppendError.{AppendError}
use Rattle.tw_journal.specs.declared.error.AppendError.TheVariants as appends
use Rattle.tw_journal.proofs.Offsets.{left_records, ended_areas, no_longer}
use Rattle.tw_bodies.specs.Body.{IsStep}
use Rattle.tw_state.specs.State.{State, start, Stands, checkpoint}
use Rattle.tw_state.specs.Sound.{IsSound}
use Rattle.tw_replica.specs.Replica.{magic, OpensTo}
use Rattle.tw_replica.specs.Opening.{is_due, state_body, shortened_bodies, IsAtMost, IsOpening}
use Rattle.tw_bodies.proofs.StepAgain.{step_again}
use Rattle.tw_state.proofs.Soundness.{checkpoint_leads, stands_sound}

-- ---- whether it is due

and_none : (a : Bool) → a && false ≡ false
and_none true = refl
and_none false = refl

module _ (can : Bool) (state : State) (bodies : List (List ℕ)) where
  not_due : is_due can (length bodies) (length (state_body state)) ≡ false → shortened_bodies can state bodies ≡ bodies
  not_due e = ap (λ b. cond b (state_body state ∷ []) bodies) e

  pub in_rows : can ≡ false → shortened_bodies can state bodies ≡ bodies
  in_rows e = not_due (ap (λ b. b && (nat_le 1000 (length bodies) && nat_le (length (state_body state) + 5) (2 ^ 30))) e)

  pub too_few : nat_le 1000 (length bodies) ≡ false → shortened_bodies can state bodies ≡ bodies
  too_few e = not_due (ap (λ b. can && (b && nat_le (length (state_body state) + 5) (2 ^ 30))) e ∙ and_none can)

  pub too_long : nat_le (length (state_body state) + 5) (2 ^ 30) ≡ false → shortened_bodies can state bodies ≡ bodies
  too_long e = not_due (ap (λ b. can && (nat_le 1000 (length bodies) && b)) e ∙ ap (λ b. can && b) (and_none (nat_le 1000 (length bodies))) ∙ and_none can)

  pub now_due : can ≡ true → nat_le 1000 (length bodies) ≡ true → nat_le (length (state_body state) + 5) (2 ^ 30) ≡ true → shortened_bodies can state bodies ≡ state_body state ∷ []
  now_due a b e = rw (a, b, e) refl

-- ---- what it stands for

pub state_stands : (state : State) → IsSound state → IsStep (checkpoint state) → length (state_body state) < 2 ^ 32 → Stands (state_body state ∷ []) state
state_stands state sound is lt = rw (step_again (checkpoint state) is lt, checkpoint_leads start state sound) refl

-- the records after an opening stand for the state that those before stood for
pub still_stands : (can : Bool) (state : State) (bodies : List (List ℕ)) → Stands bodies state → IsStep (checkpoint state) → Stands (shortened_bodies can state bodies) state
still_stands can state bodies stands is = by (nat_le (length (state_body state) + 5) (2 ^ 30)) refl
  where
    either : (b : Bool) → Stands (state_body state ∷ []) state → Stands (cond b (state_body state ∷ []) bodies) state
    either true new = new
    either false new = stands

    by : (b : Bool) → nat_le (length (state_body state) + 5) (2 ^ 30) ≡ b → Stands (shortened_bodies can state bodies) state
    by true e = either _ (state_stands state (stands_sound bodies state stands) is (omega (arith, le_of e)))
      where
        le_of : nat_le (length (state_body state) + 5) (2 ^ 30) ≡ true → length (state_body state) + 5 ≤ 2 ^ 30
        le_of f = leb-true _ _ f
    by false e = subst (λ (l : List (List ℕ)). Stands l state) (sym (too_long can state bodies e)) stands

-- ---- one run after another

module _ {D : Type 0} (m : DiskModel D) where
  -- the records that were replaced were in the file as it was opened
  pub not_longer : (before mid : D) (journal : Journal) (o : IsOpened m magic before mid journal) → 1000 ≤ length o.bodies → length (m.seen mid) ≤ length (m.seen before)
  not_longer before mid journal o many = ⊎_elim (λ e. absurd (omega (arith, many, ap length e))) (λ form. no_longer m magic before mid journal o form) o.form

  pub opened_grows : CountsNow m → (before mid new : D) (n : ℕ) → LeavesOnly m before mid (IsLongerBy m before 29) → LeavesOnly m mid new (IsAtMost m mid (length (m.seen before) + n)) → 29 ≤ n → LeavesOnly m before new (IsLongerBy m before n)
  opened_grows counts_now before mid new n first second le =
      joined m before mid new (IsLongerBy m before n) (weaker m before mid (IsLongerBy m before 29) (IsLongerBy m before n) first wide)
      (weaker m mid new (IsAtMost m mid (length (m.seen before) + n)) (IsLongerBy m before n) second (λ c has.
      ⊎_elim (λ left. wide c (first.each c (counts_now mid (m.moment before) c first.later left))) (λ most. inr most) has))
    where
      wide : (c : List ℕ) → IsLongerBy m before 29 c → IsLongerBy m before n c
      wide c has = ⊎_elim (λ left. inl left) (λ most. inr (omega (arith, most, le))) has

  -- nothing was written
  pub opens_still : OnlyNow m → (journal : Journal) (disk : D) (bodies : List (List ℕ)) (state : State) → IsOpenOn m magic journal disk bodies → Stands bodies state → LeavesOnly m disk disk (λ c. OpensTo c state)
  opens_still only_now journal disk bodies state on stands = started m only_now disk (λ c. OpensTo c state) (λ c left. record { bodies = bodies; records = left_records m magic journal disk bodies on c left; stands = stands })

  pub grows_still : OnlyNow m → (disk : D) (bytes : ℕ) → LeavesOnly m disk disk (IsAtMost m disk bytes)
  grows_still only_now disk bytes = started m only_now disk (IsAtMost m disk bytes) (λ c left. inl left)

  -- the old records or the one of the state
  pub opens_either : (before after : D) (bodies : List (List ℕ)) (state : State) → Stands bodies state → IsStep (checkpoint state) → length (state_body state) + 5 ≤ 2 ^ 30 → LeavesOnly m before after (RecordsOrOne magic bodies (state_body state)) → LeavesOnly m before after (λ c. OpensTo c state)
  opens_either before after bodies state stands is le run =
      weaker m before after (RecordsOrOne magic bodies (state_body state)) (λ c. OpensTo c state) run
      (λ c has. ⊎_elim (λ old. record { bodies = bodies; records = old; stands = stands }) (λ new. record { bodies = state_body state ∷ []; records = new; stands = state_stands state (stands_sound bodies state stands) is (omega (arith, le)) }) has)

  pub grows_once : (before after : D) (bytes most limit : ℕ) → length (m.seen before) ≤ most → bytes ≤ limit → LeavesOnly m before after (IsLongerBy m before bytes) → LeavesOnly m before after (IsAtMost m before (most + limit))
  grows_once before after bytes most limit le fits run =
      weaker m before after (IsLongerBy m before bytes) (IsAtMost m before (most + limit)) run (λ c has. ⊎_elim (λ left. inl left) (λ more. inr (omega (arith, more, le, fits))) has)

  pub grows_more : (before after : D) (a b : ℕ) → a ≤ b → LeavesOnly m before after (IsLongerBy m before a) → LeavesOnly m before after (IsLongerBy m before b)
  grows_more before after a b le run = weaker m before after (IsLongerBy m before a) (IsLongerBy m before b) run (λ c has. ⊎_elim (λ left. inl left) (λ more. inr (omega (arith, more, le))) has)

  pub disk_failed : (old new : Journal) (before after : D) (size : ℕ) (e : AppendError) → is_closed old ≡ false → size ≤ 2 ^ 30 → AppendRefused m old new before after size e → Rose (m.faults before) (m.faults after)
  disk_failed old new before after size appends.Disk live le r = r.0
  disk_failed old new before after size appends.Closed live le r = absurd cc
  disk_failed old new before after size (appends.TooLong bytes) live le r = absurd (omega (arith, le, r.1))

  -- ---- opening

  pub same_records : (before mid : D) (journal : Journal) (state : State) (o : IsOpened m magic before mid journal) → shortened_bodies (can_checkpoint journal) state o.bodies ≡ shortened_bodies (has_areas (m.seen before)) state o.bodies
  same_records before mid journal state o = ⊎_elim none same o.form
    where
      few : o.bodies ≡ [] → nat_le 1000 (length o.bodies) ≡ false
      few e = ap (λ (l : List (List ℕ)). nat_le 1000 (length l)) e

      none : o.bodies ≡ [] → shortened_bodies (can_checkpoint journal) state o.bodies ≡ shortened_bodies (has_areas (m.seen before)) state o.bodies
      none e = too_few (can_checkpoint journal) state o.bodies (few e) ∙ sym (too_few (has_areas (m.seen before)) state o.bodies (few e))

      same : IsSameOrEnded magic (m.seen before) (m.seen mid) → shortened_bodies (can_checkpoint journal) state o.bodies ≡ shortened_bodies (has_areas (m.seen before)) state o.bodies
      same form = ap (λ (b : Bool). shortened_bodies b state o.bodies) (ap (nat_le 2) (sym o.now.rest.selector_is ∙ form.selector) ∙ ended_areas (selector_in (m.seen before)))

  pub shortened : (before mid new : D) (journal : Journal) (state : State) (bodies : List (List ℕ)) → Records magic (m.seen before) bodies → Stands bodies state → LeavesOnly m before mid (IsImageThen m before magic) → LeavesOnly m mid new (λ c. OpensTo c state) → LeavesOnly m before new (IsOpening m before)
  shortened before mid new journal state bodies records stands first second =
      joined m before mid new (IsOpening m before) (weaker m before mid (IsImageThen m before magic) (IsOpening m before) first (λ c has. inl has))
      (weaker m mid new (λ c. OpensTo c state) (IsOpening m before) second (λ c opens. inr (record { state = state; first = record { bodies = bodies; records = records; stands = stands }; second = opens })))
