-- How a run of calls on one object goes on, whatever the object.
use Rattle.std.proofs.Common.{◌≡◌, inl, inr, ⊎_elim, ℕ, ◌≤◌, arith, sym, subst, ◌∙◌}
use Rattle.tw_world.specs.Crash.{CrashModel, Tells, IsStable, Steps, Reads, LeavesOnly}

-- the laws that the rules below need
abbrev pub CountsNow : {O C : Type 0} → CrashModel O C → Type 0
CountsNow {O} {C} m = (object : O) (t : ℕ) (c : C) → t ≤ m.moment object → m.leaves object c → m.left_since object t c

abbrev pub OnlyNow : {O C : Type 0} → CrashModel O C → Type 0
OnlyNow {O} {C} m = (object : O) (c : C) → m.left_since object (m.moment object) c → m.leaves object c

module _ {O C : Type 0} (m : CrashModel O C) where
  -- before the first call
  pub started : OnlyNow m → (object : O) (P : C → Type 0) → ((c : C) → m.leaves object c → P c) → LeavesOnly m object object P
  started only_now object P here = record { later = omega arith; each = λ c left. here c (only_now object c left); before = λ t c le left. inl left }

  -- one call more: where each thing left so far has P, each one after its step has Q
  pub goes_on : CountsNow m → (old mid new : O) (P Q : C → Type 0) (step : C → C → Type 0) → LeavesOnly m old mid P → Tells m mid → Steps m step mid new
      → ((c : C) → P c → Q c) → ((d c : C) → P d → step d c → Q c) → LeavesOnly m old new Q
  goes_on counts_now old mid new P Q step so_far tells steps wide leads = record {
    later = omega (arith, so_far.later, steps.later);
    each = λ c left. ⊎_elim (λ past. wide c (so_far.each c past)) (now c) (steps.nothing_else tells (m.moment old) c so_far.later left);
    before = λ t c le left. ⊎_elim (λ past. ⊎_elim (λ first. inl first) (λ has. inr (wide c has)) (so_far.before t c le past)) (λ here. inr (now c here)) (steps.nothing_else tells t c (omega (arith, le, so_far.later)) left);
  }
    where
      now : (c : C) → m.leaves new c → Q c
      now c here =
          let from = steps.images tells c here in
          leads from.0 c (so_far.each from.0 (counts_now mid (m.moment old) from.0 so_far.later from.1)) from.2

  -- one call more that changes nothing
  pub stays : CountsNow m → (old mid new : O) (P : C → Type 0) → LeavesOnly m old mid P → Tells m mid → Steps m (λ d c. c ≡ d) mid new → LeavesOnly m old new P
  stays counts_now old mid new P so_far tells steps = goes_on counts_now old mid new P P (λ d c. c ≡ d) so_far tells steps (λ c has. has) (λ d c has same. subst P (sym same) has)

  -- two runs, one after the other
  pub joined : (old mid new : O) (P : C → Type 0) → LeavesOnly m old mid P → LeavesOnly m mid new P → LeavesOnly m old new P
  joined old mid new P first second = record {
    later = omega (arith, first.later, second.later);
    each = λ c left. ⊎_elim (first.each c) (λ has. has) (second.before (m.moment old) c first.later left);
    before = λ t c le left. ⊎_elim (first.before t c le) (λ has. inr has) (second.before t c (omega (arith, le, first.later)) left);
  }

  pub weaker : (old new : O) (P Q : C → Type 0) → LeavesOnly m old new P → ((c : C) → P c → Q c) → LeavesOnly m old new Q
  weaker old new P Q run wide = record {
    later = run.later;
    each = λ c left. wide c (run.each c left);
    before = λ t c le left. ⊎_elim (λ past. inl past) (λ has. inr (wide c has)) (run.before t c le left);
  }

  -- what is read of a settled object is all that a read leaves, too
  pub still_settled : (old new : O) → Tells m old → IsStable m old → Reads m old new → IsStable m new
  still_settled old new tells settled call = λ c left.
      let from = call.steps.images tells c left in
      from.2 ∙ settled from.0 from.1 ∙ sym (call.seen tells)
