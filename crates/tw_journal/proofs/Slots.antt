-- The offset of a checkpoint, and the two slots.
use Rattle.std.specs.Prelude.{◌==◌, nat_le, if◌then◌else◌, Bool, true, false}
use Rattle.std.proofs.Common.{◌≡◌, ◌⊎◌, inl, inr, ℕ, suc, ◌+◌, ◌<◌, ◌≤◌, List, [], ◌∷◌, drop, refl, arith}
use Rattle.std.proofs.lemmas.List.{drop_all}
use Rattle.std.proofs.lemmas.Bool.Decides.{nat_tests}
use Rattle.tw_journal.specs.Form.{slot_in, if_inside, start_by}
use Rattle.tw_journal.specs.Checkpoint.{checkpoint_offset, slot_of, other_slot, other_selector}

pub placed : (size start end at : ℕ) → at ≡ checkpoint_offset size start end → ((at ≡ 29) × (29 + size + 1 ≤ start)) ⊎ (at ≡ end + 1)
placed size start end at is = by (nat_le (29 + size + 1) start) refl is
  where
    by : (b : Bool) → nat_le (29 + size + 1) start ≡ b → at ≡ (if b then 29 else end + 1) → ((at ≡ 29) × (29 + size + 1 ≤ start)) ⊎ (at ≡ end + 1)
    by true test e = inl (e, grind (arith, nat_tests))
    by false test e = inr e

pub slots_apart : (selector : ℕ) → (slot_of selector + 8 ≤ other_slot selector) ⊎ (other_slot selector + 8 ≤ slot_of selector)
slots_apart selector = by (selector == 2)
  where
    by : (b : Bool) → ((if b then 13 else 21) + 8 ≤ (if b then 21 else 13)) ⊎ ((if b then 21 else 13) + 8 ≤ (if b then 13 else 21))
    by true = inl (omega arith)
    by false = inr (omega arith)

pub slot_low : (selector : ℕ) → 13 ≤ other_slot selector
slot_low selector = by (selector == 2)
  where
    by : (b : Bool) → 13 ≤ (if b then 21 else 13)
    by true = omega arith
    by false = omega arith

pub slot_high : (selector : ℕ) → other_slot selector + 8 ≤ 29
slot_high selector = by (selector == 2)
  where
    by : (b : Bool) → (if b then 21 else 13) + 8 ≤ 29
    by true = omega arith
    by false = omega arith

pub other_counts : (selector : ℕ) (file : List ℕ) → start_by (other_selector selector) file ≡ if_inside 29 (slot_in (other_slot selector) file) file
other_counts selector file = by (selector == 2)
  where
    by : (b : Bool) → start_by (if b then 3 else 2) file ≡ if_inside 29 (slot_in (if b then 21 else 13) file) file
    by true = refl
    by false = refl

pub other_low : (selector : ℕ) → other_selector selector < 4
other_low selector = by (selector == 2)
  where
    by : (b : Bool) → (if b then 3 else 2) < 4
    by true = omega arith
    by false = omega arith

pub drop_more_first : (k : ℕ) (l : List ℕ) → drop k (drop 1 l) ≡ drop (suc k) l
drop_more_first k [] = drop_all k [] (omega arith)
drop_more_first k (x ∷ l) = refl
