-- A text of a form is ASCII where the form is.
use Rattle.std.proofs.Common.{◌≡◌, ℕ, ◌^◌, ◌/◌, ◌<◌, List, [], ◌∷◌, true, Option, Some, None, arith, nat_lt}
use Rattle.std.specs.List.{list_all}
use Rattle.std.specs.Str.{IsAscii}
use Rattle.std.proofs.lemmas.Nat.{mod_below}
use Rattle.std.proofs.lemmas.Bool.{and_parts, ltb-true}
use Rattle.std.proofs.lemmas.Str.Ascii.{IsAscii-nil, IsAscii-cons}
use Rattle.tw_time.specs.declared.form.Parts.{Parts}
use Rattle.tw_time.specs.Forms.{number_at, places, printed_at, printed}

cell_small : (l : ℕ) (n : Option ℕ) (k : ℕ) → l < 128 → printed_at l n k < 128
cell_small l None k small = small
cell_small l (Some n) k small = omega (arith, mod_below (n / 10 ^ k) 10 (omega arith))

pub printed-ascii : (form : List ℕ) (p : Parts) → list_all (λ l. nat_lt l 128) form ≡ true → IsAscii (printed form p)
printed-ascii [] p h = IsAscii-nil
printed-ascii (l ∷ form) p h =
    let parts = and_parts (nat_lt l 128) (list_all (λ m. nat_lt m 128) form) h in
    IsAscii-cons (printed_at l (number_at l p) (places l form)) (printed form p) (cell_small l (number_at l p) (places l form) (ltb-true l 128 parts.0)) (printed-ascii form p parts.1)
