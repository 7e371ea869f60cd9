-- Calls that only read, one after another.
use Rattle.std.proofs.Common.{◌≡◌, inl, inr, ⊎_elim, ℕ, ◌≤◌, refl, arith, sym, subst, ◌∙◌}
use Rattle.tw_world.specs.Crash.{CrashModel, Tells, Steps, Reads}
use Rattle.tw_world.specs.Turns.{InTurns}
use Rattle.tw_world.specs.Turns.InTurns.{at_rest, first, second}
use Rattle.tw_world.proofs.Crashes.{CountsNow, OnlyNow, started, stays}
use Rattle.tw_world.proofs.TurnRules.{ends_first}

module _ {O C : Type 0} (m : CrashModel O C) where
  -- no call
  pub none_read : (object : O) → Reads m object object
  none_read object = record {
    steps = record { faults = omega arith; tells = refl; later = omega arith; images = λ tells c left. (c, left, refl); nothing_else = λ tells t c le left. inl left; keeps = λ tells t c le left. left };
    seen = λ tells. refl;
  }

  -- two calls that only read
  pub reads_joined : CountsNow m → (old mid new : O) → Reads m old mid → Reads m mid new → Reads m old new
  reads_joined counts_now old mid new front back = record {
    steps = record {
      faults = omega (arith, front.steps.faults, back.steps.faults);
      tells = back.steps.tells ∙ front.steps.tells;
      later = omega (arith, front.steps.later, back.steps.later);
      images = λ tells c left. let between = back.steps.images (told tells) c left in let from = front.steps.images tells between.0 between.1 in (from.0, from.1, between.2 ∙ from.2);
      nothing_else = λ tells t c le left. ⊎_elim
          (λ past. ⊎_elim (λ before. inl before) (λ here. inl (stayed tells t c le here)) (front.steps.nothing_else tells t c le past))
          (λ here. inr here) (back.steps.nothing_else (told tells) t c (omega (arith, le, front.steps.later)) left);
      keeps = λ tells t c le left. back.steps.keeps (told tells) t c (omega (arith, le, front.steps.later)) (front.steps.keeps tells t c le left);
    };
    seen = λ tells. back.seen (told tells) ∙ front.seen tells;
  }
    where
      told : Tells m old → Tells m mid
      told tells = front.steps.tells ∙ tells

      stayed : Tells m old → (t : ℕ) (c : C) → t ≤ m.moment old → m.leaves mid c → m.left_since old t c
      stayed tells t c le here = let from = front.steps.images tells c here in subst (m.left_since old t) (sym from.2) (counts_now old t from.0 le from.1)

module _ {A B X Y : Type 0} (m : CrashModel A X) (n : CrashModel B Y) where
  -- a run of two objects, and then calls that only read the first of them
  pub turns_then_reads : CountsNow m → OnlyNow m → (P : X → Y → Type 0) (a : A) (b : B) (c : A) (d : B) (e : A) → InTurns m n P a b c d → Tells m c → Steps m (λ x y. y ≡ x) c e → InTurns m n P a b e d
  turns_then_reads counts_now only_now P _ _ _ _ e (at_rest a b here) tells steps =
      let Q : X → Type 0 = λ x. (y : Y) → n.leaves b y → P x y in
      ends_first m n counts_now P a e b (stays m counts_now a a e Q (started m only_now a Q (λ x left y left'. here x y left left')) tells steps)
  turns_then_reads counts_now only_now P _ _ _ _ e (first a mid b c d run rest) tells steps = first a mid b e d run (turns_then_reads counts_now only_now P mid b c d e rest tells steps)
  turns_then_reads counts_now only_now P _ _ _ _ e (second a b mid c d run rest) tells steps = second a b mid e d run (turns_then_reads counts_now only_now P a mid c d e rest tells steps)
