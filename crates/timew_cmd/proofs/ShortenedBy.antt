-- An interval is shortened by a length that is counted up to a greatest number.
use Rattle.std.specs.Prelude.{min, nat_le}
use Rattle.std.proofs.Common.{◌≡◌, ℕ, ◌+◌, ◌*◌, ◌<◌, Bool, false, cond, ◌==◌, List, Option, Ok, Err, refl, sym, ap, ◌∙◌, inl, inr, arith}
use Rattle.std.proofs.lemmas.Bool.{cond-false, cases_lt}
use Rattle.std.proofs.lemmas.Bool.Decides.{nat_tests}
use Rattle.tw_time.specs.declared.length.Length.{Length}
use Rattle.timew_interval.specs.declared.interval.Interval.{Interval}
use Rattle.timew_interval.specs.Interval.{limit}
use Rattle.timew_interval.specs.Placing.{spanning}
use Rattle.timew_cmd.specs.declared.error.TimewError.TheVariants.{Range}
use Rattle.timew_cmd.specs.Replacing.{replaced, closed_end, seconds_of}
use Rattle.timew_cmd.specs.Numbers.{row_at}
use Rattle.timew_cmd.specs.Commands.Shorten.{shorter, shortened}

later : (word start end seconds : ℕ) → end < start + seconds → shorter word start end seconds ≡ Err (Range word)
later word start end seconds h = cond-false _ _ _ (lt-leb h)
  where
    lt-leb : end < start + seconds → nat_le (start + seconds) end ≡ false
    lt-leb h = grind (arith, nat_tests)

capped_shorter : (word start end seconds : ℕ) → end < limit → shorter word start end seconds ≡ shorter word start end (min seconds 18_446_744_073_709_551_615)
capped_shorter word start end seconds small = elim (cases_lt seconds 18_446_744_073_709_551_616) [
  | inl few ↦
      let same : seconds ≡ min seconds 18_446_744_073_709_551_615 = omega arith in
      ap (λ (n : ℕ). shorter word start end n) same
  | inr many ↦ later word start end seconds (omega arith) ∙ sym (later word start end (min seconds 18_446_744_073_709_551_615) (omega arith))
]

-- an interval that is shortened by a length without months
pub shortened_is : (id word : ℕ) (l : Length) (adjust : Bool) (rows : List Interval) (r : Interval) (end : ℕ) (less : Option ℕ)
    → row_at id rows ≡ Ok r → closed_end word r.end ≡ Ok end → l.months ≡ 0 → end < limit
    → shorter word r.start end (min (l.seconds + l.days * 86400) 18_446_744_073_709_551_615) ≡ Ok less
    → shortened id word l adjust rows ≡ replaced word id adjust (spanning r.start less r) rows
shortened_is id word l adjust rows r end less found closed months small is =
    let seconds : seconds_of word l ≡ Ok (l.seconds + l.days * 86400) = ap (λ (m : ℕ). cond (m == 0) (Ok (l.seconds + l.days * 86400)) (Err (Range word))) months in
    let cut : shorter word r.start end (l.seconds + l.days * 86400) ≡ Ok less = capped_shorter word r.start end (l.seconds + l.days * 86400) small ∙ is in
    rw (found, closed, seconds, cut) refl
