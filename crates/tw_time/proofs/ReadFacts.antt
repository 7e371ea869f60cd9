-- A text of the basic form is the one that is printed with its numbers.
use Rattle.std.proofs.Common.{◌≡◌, ℕ, ◌≤◌, ◌==◌, List, [], ◌∷◌, Bool, true, false, not, ◌&&◌, Option, Some, None, option_and_then, if◌then◌else◌, codes, refl, ap, sym, ◌∙◌, arith}
use Rattle.std.proofs.lemmas.Bool.Decides.{nat_tests}
use Rattle.std.specs.Char.{is_ascii_digit}
use Rattle.tw_time.specs.declared.form.Parts.{Parts}
use Rattle.tw_time.specs.Forms.{put, put_digit, is_digit_letter, filled, filled_after, with_digit, digit_at, printed}

-- a digit's code
record IsDigit (c : ℕ) : Type 0 where
  pub low : 48 ≤ c
  pub high : c ≤ 57

is_digit : (c : ℕ) → is_ascii_digit c ≡ true → IsDigit c
is_digit c e = record { low = grind (arith, nat_tests); high = grind (arith, nat_tests) }

-- a text that goes on with a digit, to which the parts before it are made more
record Digit (text form : List ℕ) (next : ℕ → Parts) (p : Parts) : Type 0 where
  pub c : ℕ
  pub rest : List ℕ
  pub is : text ≡ c ∷ rest
  pub digit : IsDigit c
  pub left : filled_after (next c) form rest ≡ Some p

-- a text that goes on with a mark
record Mark (text : List ℕ) (l : ℕ) (form : List ℕ) (q p : Parts) : Type 0 where
  pub rest : List ℕ
  pub is : text ≡ l ∷ rest
  pub left : filled_after q form rest ≡ Some p

by_test : (t : Bool) (o : Option Parts) (f : Parts → Option Parts) (p : Parts) → option_and_then f (if t then o else None) ≡ Some p → (t ≡ true) × (option_and_then f o ≡ Some p)
by_test true o f p e = (refl, e)
by_test false o f p e = absurd (cc)

by_mark : (t same : Bool) (q : Parts) (f : Parts → Option Parts) (p : Parts)
    → option_and_then f (if t then None else (if same && true then Some q else None)) ≡ Some p → (same ≡ true) × (f q ≡ Some p)
by_mark true same q f p e = absurd (cc)
by_mark false true q f p e = (refl, e)
by_mark false false q f p e = absurd (cc)

digit_only : (t same : Bool) (o : Option Parts) (q : Parts) (f : Parts → Option Parts) (p : Parts)
    → option_and_then f (if t then o else (if same && false then Some q else None)) ≡ Some p → (t ≡ true) × (option_and_then f o ≡ Some p)
digit_only true same o q f p e = (refl, e)
digit_only false true o q f p e = absurd (cc)
digit_only false false o q f p e = absurd (cc)

same_number : (l c : ℕ) → (l == c) ≡ true → l ≡ c
same_number l c e = grind (arith, nat_tests)

digit_step : (l : ℕ) (form text : List ℕ) (q p : Parts) (next : ℕ → Parts) → is_digit_letter l ≡ true → ((c : ℕ) → put_digit l c q ≡ Some (next c))
    → filled_after q (l ∷ form) text ≡ Some p → Digit text form next p
unfolding put filled_after
digit_step l form [] q p next place more e = absurd (cc)
digit_step l form (c ∷ text) q p next place more e =
    let f = λ (m : Parts). filled_after m form text in
    let by : option_and_then f (if is_ascii_digit c then put_digit l c q else (if (l == c) && false then Some q else None)) ≡ Some p =
    ap (λ b. option_and_then f (if is_ascii_digit c then put_digit l c q else (if (l == c) && not b then Some q else None))) (sym place) ∙ e in
    let k = digit_only (is_ascii_digit c) (l == c) (put_digit l c q) q f p by in
    record { c = c; rest = text; is = refl; digit = is_digit c k.0; left = ap (option_and_then f) (sym (more c)) ∙ k.1 }

mark_step : (l : ℕ) (form text : List ℕ) (q p : Parts) → is_digit_letter l ≡ false → ((c : ℕ) → put_digit l c q ≡ None)
    → filled_after q (l ∷ form) text ≡ Some p → Mark text l form q p
unfolding put filled_after
mark_step l form [] q p place more e = absurd (cc)
mark_step l form (c ∷ text) q p place more e =
    let f = λ (m : Parts). filled_after m form text in
    let by : option_and_then f (if is_ascii_digit c then None else (if (l == c) && true then Some q else None)) ≡ Some p =
    (λ i. option_and_then f (if is_ascii_digit c then sym (more c) i else (if (l == c) && not (sym place i) then Some q else None))) ∙ e in
    let k = by_mark (is_ascii_digit c) (l == c) q f p by in
    record { rest = text; is = ap (λ x. x ∷ text) (sym (same_number l c k.0)); left = k.1 }

end_step : (text : List ℕ) (q p : Parts) → filled_after q [] text ≡ Some p → (text ≡ []) × (q ≡ p)
unfolding filled_after
end_step [] q p e = (refl, cc)
end_step (c ∷ text) q p e = absurd (cc)

abbrev four_of : ℕ → ℕ → ℕ → ℕ → ℕ
four_of a b c d = with_digit (with_digit (with_digit (with_digit 0 a) b) c) d

abbrev two_of : ℕ → ℕ → ℕ
two_of a b = with_digit (with_digit 0 a) b

four_digits : (a b c d : ℕ) → IsDigit a → IsDigit b → IsDigit c → IsDigit d
    → (a ≡ digit_at (four_of a b c d) 1000) × (b ≡ digit_at (four_of a b c d) 100) × (c ≡ digit_at (four_of a b c d) 10) × (d ≡ digit_at (four_of a b c d) 1)
four_digits a b c d ha hb hc hd = (omega arith, omega arith, omega arith, omega arith)

two_digits : (a b : ℕ) → IsDigit a → IsDigit b → (a ≡ digit_at (two_of a b) 10) × (b ≡ digit_at (two_of a b) 1)
two_digits a b ha hb = (omega arith, omega arith)

-- a text that goes on with a number of two digits, for which the parts are those of `set`
record Two (text form : List ℕ) (set : ℕ → Parts) (p : Parts) : Type 0 where
  pub n : ℕ
  pub rest : List ℕ
  pub is : text ≡ digit_at n 10 ∷ digit_at n 1 ∷ rest
  pub left : filled_after (set n) form rest ≡ Some p

-- and of four
record Four (text form : List ℕ) (set : ℕ → Parts) (p : Parts) : Type 0 where
  pub n : ℕ
  pub rest : List ℕ
  pub is : text ≡ digit_at n 1000 ∷ digit_at n 100 ∷ digit_at n 10 ∷ digit_at n 1 ∷ rest
  pub left : filled_after (set n) form rest ≡ Some p

two_step : (l : ℕ) (form text : List ℕ) (set : ℕ → Parts) (p : Parts) → is_digit_letter l ≡ true
    → ((n c : ℕ) → put_digit l c (set n) ≡ Some (set (with_digit n c))) → filled_after (set 0) (l ∷ l ∷ form) text ≡ Some p → Two text form set p
two_step l form text set p place more e =
    let a = digit_step l (l ∷ form) text (set 0) p (λ (c : ℕ). set (with_digit 0 c)) place (more 0) e in
    let b = digit_step l form a.rest (set (with_digit 0 a.c)) p (λ (c : ℕ). set (with_digit (with_digit 0 a.c) c)) place (more (with_digit 0 a.c)) a.left in
    let k = two_digits a.c b.c a.digit b.digit in
    record {
      n = two_of a.c b.c;
      rest = b.rest;
      is = a.is ∙ ap (λ x. a.c ∷ x) b.is ∙ (λ i. k.0 i ∷ k.1 i ∷ b.rest);
      left = b.left;
    }

four_step : (l : ℕ) (form text : List ℕ) (set : ℕ → Parts) (p : Parts) → is_digit_letter l ≡ true
    → ((n c : ℕ) → put_digit l c (set n) ≡ Some (set (with_digit n c))) → filled_after (set 0) (l ∷ l ∷ l ∷ l ∷ form) text ≡ Some p → Four text form set p
four_step l form text set p place more e =
    let a = digit_step l (l ∷ l ∷ l ∷ form) text (set 0) p (λ (x : ℕ). set (with_digit 0 x)) place (more 0) e in
    let b = digit_step l (l ∷ l ∷ form) a.rest (set (with_digit 0 a.c)) p (λ (x : ℕ). set (with_digit (with_digit 0 a.c) x)) place (more (with_digit 0 a.c)) a.left in
    let c = digit_step l (l ∷ form) b.rest (set (two_of a.c b.c)) p (λ (x : ℕ). set (with_digit (two_of a.c b.c) x)) place (more (two_of a.c b.c)) b.left in
    let d = digit_step l form c.rest (set (with_digit (two_of a.c b.c) c.c)) p (λ (x : ℕ). set (with_digit (with_digit (two_of a.c b.c) c.c) x)) place (more (with_digit (two_of a.c b.c) c.c)) c.left in
    let k = four_digits a.c b.c c.c d.c a.digit b.digit c.digit d.digit in
    record {
      n = four_of a.c b.c c.c d.c;
      rest = d.rest;
      is = a.is ∙ ap (λ x. a.c ∷ x) (b.is ∙ ap (λ x. b.c ∷ x) (c.is ∙ ap (λ x. c.c ∷ x) d.is)) ∙ (λ i. k.0 i ∷ k.1 i ∷ k.2 i ∷ k.3 i ∷ d.rest);
      left = d.left;
    }

abbrev parts : ℕ → ℕ → ℕ → ℕ → ℕ → ℕ → Parts
parts y m d h n s = record { year = y; month = m; day = d; hour = h; minute = n; second = s }

-- what is left of a text is printed with the parts, of which those before it are known
from_second : (text : List ℕ) (y m d h n : ℕ) (p : Parts) → filled_after (parts y m d h n 0) (codes "ssZ") text ≡ Some p
    → (text ≡ printed (codes "ssZ") p) × (parts y m d h n p.second ≡ p)
from_second text y m d h n p e =
    let k = two_step 115 (codes "Z") text (λ (s : ℕ). parts y m d h n s) p refl (λ s c. refl) e in
    let z = mark_step 90 [] k.rest (parts y m d h n k.n) p refl (λ c. refl) k.left in
    let end = end_step z.rest (parts y m d h n k.n) p z.left in
    let same : k.n ≡ p.second = ap (λ x. x.second) end.1 in
    (k.is ∙ (λ i. digit_at (same i) 10 ∷ digit_at (same i) 1 ∷ (z.is ∙ ap (λ x. 90 ∷ x) end.0) i), (λ i. parts y m d h n (sym same i)) ∙ end.1)

from_minute : (text : List ℕ) (y m d h : ℕ) (p : Parts) → filled_after (parts y m d h 0 0) (codes "mmssZ") text ≡ Some p
    → (text ≡ printed (codes "mmssZ") p) × (parts y m d h p.minute p.second ≡ p)
from_minute text y m d h p e =
    let k = two_step 109 (codes "ssZ") text (λ (n : ℕ). parts y m d h n 0) p refl (λ n c. refl) e in
    let after = from_second k.rest y m d h k.n p k.left in
    let same : k.n ≡ p.minute = ap (λ x. x.minute) after.1 in
    (k.is ∙ (λ i. digit_at (same i) 10 ∷ digit_at (same i) 1 ∷ after.0 i), (λ i. parts y m d h (sym same i) p.second) ∙ after.1)

from_hour : (text : List ℕ) (y m d : ℕ) (p : Parts) → filled_after (parts y m d 0 0 0) (codes "ThhmmssZ") text ≡ Some p
    → (text ≡ printed (codes "ThhmmssZ") p) × (parts y m d p.hour p.minute p.second ≡ p)
from_hour text y m d p e =
    let t = mark_step 84 (codes "hhmmssZ") text (parts y m d 0 0 0) p refl (λ c. refl) e in
    let k = two_step 104 (codes "mmssZ") t.rest (λ (h : ℕ). parts y m d h 0 0) p refl (λ h c. refl) t.left in
    let after = from_minute k.rest y m d k.n p k.left in
    let same : k.n ≡ p.hour = ap (λ x. x.hour) after.1 in
    (t.is ∙ ap (λ x. 84 ∷ x) (k.is ∙ (λ i. digit_at (same i) 10 ∷ digit_at (same i) 1 ∷ after.0 i)), (λ i. parts y m d (sym same i) p.minute p.second) ∙ after.1)

from_day : (text : List ℕ) (y m : ℕ) (p : Parts) → filled_after (parts y m 0 0 0 0) (codes "DDThhmmssZ") text ≡ Some p
    → (text ≡ printed (codes "DDThhmmssZ") p) × (parts y m p.day p.hour p.minute p.second ≡ p)
from_day text y m p e =
    let k = two_step 68 (codes "ThhmmssZ") text (λ (d : ℕ). parts y m d 0 0 0) p refl (λ d c. refl) e in
    let after = from_hour k.rest y m k.n p k.left in
    let same : k.n ≡ p.day = ap (λ x. x.day) after.1 in
    (k.is ∙ (λ i. digit_at (same i) 10 ∷ digit_at (same i) 1 ∷ after.0 i), (λ i. parts y m (sym same i) p.hour p.minute p.second) ∙ after.1)

from_month : (text : List ℕ) (y : ℕ) (p : Parts) → filled_after (parts y 0 0 0 0 0) (codes "MMDDThhmmssZ") text ≡ Some p
    → (text ≡ printed (codes "MMDDThhmmssZ") p) × (parts y p.month p.day p.hour p.minute p.second ≡ p)
from_month text y p e =
    let k = two_step 77 (codes "DDThhmmssZ") text (λ (m : ℕ). parts y m 0 0 0 0) p refl (λ m c. refl) e in
    let after = from_day k.rest y k.n p k.left in
    let same : k.n ≡ p.month = ap (λ x. x.month) after.1 in
    (k.is ∙ (λ i. digit_at (same i) 10 ∷ digit_at (same i) 1 ∷ after.0 i), (λ i. parts y (sym same i) p.day p.hour p.minute p.second) ∙ after.1)

pub printed-basic : (text : List ℕ) (p : Parts) → filled (codes "YYYYMMDDThhmmssZ") text ≡ Some p → text ≡ printed (codes "YYYYMMDDThhmmssZ") p
printed-basic text p e =
    let k = four_step 89 (codes "MMDDThhmmssZ") text (λ (y : ℕ). parts y 0 0 0 0 0) p refl (λ y c. refl) e in
    let after = from_month k.rest k.n p k.left in
    let same : k.n ≡ p.year = ap (λ x. x.year) after.1 in
    k.is ∙ (λ i. digit_at (same i) 1000 ∷ digit_at (same i) 100 ∷ digit_at (same i) 10 ∷ digit_at (same i) 1 ∷ after.0 i)
