-- What is read of a line is what its bytes spell.
use Rattle.std.proofs.Common.{◌≡◌, ℕ, Bool, true, false, cond, ◌&&◌, ◌==◌, List, [], ◌∷◌, ◌++◌, length, take, drop, codes, Option, Some, None, refl, sym, ap, subst, ◌∙◌, arith, append_assoc}
use Rattle.std.proofs.lemmas.List.{take_at, drop_at, take-append-drop}
use Rattle.std.proofs.lemmas.Bool.Decides.{nat_tests}
use Rattle.tw_world.specs.Folder.{same_bytes}
use Rattle.tw_time.specs.Basic.{basic_moment}
use Rattle.timew_interval.specs.declared.interval.Interval.{Interval}
use Rattle.timew_month.specs.Body.{◌>>=◌}
use Rattle.timew_month.specs.Tail.{marked, tail_of}
use Rattle.timew_month.specs.Line.{after, moment_at, end_behind, end_at, is_end, row_with, row_of}
use Rattle.timew_month.specs.Spelled.{SpellEnd, SpellTail, SpellLine, LinesAreSpelled}
use Rattle.timew_interval.proofs.SameBytes.{same_bytes_exact}
use Rattle.timew_interval.proofs.Tests.{both}
use Rattle.timew_month.proofs.DayMoments.{moment_size}
use Rattle.timew_month.proofs.LineReadBack.{after_front}
use Rattle.timew_month.proofs.SpelledTails.{tails_are_spelled}

abbrev Tail : Type 0
Tail = List (List ℕ) × List ℕ

-- what was found, if all that is asked of it was
some_before : {A B : Type 0} (o : Option A) (f : A → Option B) (b : B) → (o >>= f) ≡ Some b → (a : A) × (o ≡ Some a) × (f a ≡ Some b)
some_before None f b is = absurd (cc)
some_before (Some a) f b is = (a, refl, is)

-- ---- what is read is spelled

if_so : {A : Type 0} (c : Bool) (v a : A) → cond c (Some v) None ≡ Some a → (c ≡ true) × (v ≡ a)
if_so true v a is = (refl, cc)
if_so false v a is = absurd (cc)

front_is : (front bytes rest : List ℕ) → after front bytes ≡ Some rest → bytes ≡ front ++ rest
front_is front bytes rest is =
    let s = if_so (same_bytes (take (length front) bytes) front) (drop (length front) bytes) rest is in
    sym (take-append-drop (length front) bytes) ∙ ap (λ (l : List ℕ). l ++ drop (length front) bytes) (same_bytes_exact (take (length front) bytes) front s.0) ∙ ap (λ (l : List ℕ). front ++ l) s.1

record IsMoment (bytes : List ℕ) (m : ℕ × List ℕ) : Type 0 where
  pub text : List ℕ
  pub parts : bytes ≡ text ++ m.1
  pub is : basic_moment text ≡ Some m.0

moment_is : (bytes : List ℕ) (m : ℕ × List ℕ) → moment_at bytes ≡ Some m → IsMoment bytes m
moment_is bytes m is =
    let s = some_before (basic_moment (take 16 bytes)) (λ (at : ℕ). Some (at, drop 16 bytes)) m is in
    let same : (s.0, drop 16 bytes) ≡ m = cc in
    record {
      text = take 16 bytes;
      parts = sym (take-append-drop 16 bytes) ∙ ap (λ (m : ℕ × List ℕ). take 16 bytes ++ m.1) same;
      is = s.1 ∙ ap (λ (m : ℕ × List ℕ). Some m.0) same;
    }

record IsEndAt (bytes : List ℕ) (m : Option ℕ × List ℕ) : Type 0 where
  pub text : List ℕ
  pub parts : bytes ≡ text ++ m.1
  pub is : SpellEnd text m.0

end_is : (bytes : List ℕ) (m : Option ℕ × List ℕ) → end_at bytes ≡ Some m → IsEndAt bytes m
end_is bytes m is = by_case (after (codes " - ") bytes) refl is
  where
    by_case : (o : Option (List ℕ)) → after (codes " - ") bytes ≡ o → end_behind o bytes ≡ Some m → IsEndAt bytes m
    by_case None found is = let same : (None, bytes) ≡ m = cc in subst (IsEndAt bytes) same (record { text = []; parts = refl; is = refl })
    by_case (Some rest) found is =
        let s = some_before (moment_at rest) (λ (at : ℕ × List ℕ). Some (Some at.0, at.1)) m is in
        let same : (Some s.0.0, s.0.1) ≡ m = cc in
        let at = moment_is rest s.0 s.1 in
        subst (IsEndAt bytes) same (record {
          text = codes " - " ++ at.text;
          parts = front_is (codes " - ") bytes rest found ∙ ap (λ (l : List ℕ). codes " - " ++ l) at.parts ∙ sym (append_assoc (codes " - ") at.text s.0.1);
          is = (at.text, refl, at.is);
        })

is_number : (b n : ℕ) → (b == n) ≡ true → b ≡ n
is_number b n is = grind (arith, nat_tests)

tail_is : (bytes : List ℕ) (tail : Tail) → tail_of bytes ≡ Some tail → SpellTail bytes tail
tail_is [] tail is = let same : ([], []) ≡ tail = cc in sym same
tail_is (a ∷ []) tail is = absurd (cc)
tail_is (a ∷ b ∷ []) tail is = absurd (cc)
tail_is (a ∷ b ∷ c ∷ rest) tail is = by_case ((a == 32) && (b == 35) && (c == 32)) refl is
  where
    by_case : (w : Bool) → (a == 32) && (b == 35) && (c == 32) ≡ w → cond w (marked rest) None ≡ Some tail → SpellTail (a ∷ b ∷ c ∷ rest) tail
    by_case false _ is = absurd (cc)
    by_case true all is =
        let p = both ((a == 32) && (b == 35)) (c == 32) all in
        let q = both (a == 32) (b == 35) p.0 in
        (rest, ap (λ (k : ℕ). k ∷ b ∷ c ∷ rest) (is_number a 32 q.0) ∙ ap (λ (k : ℕ). 32 ∷ k ∷ c ∷ rest) (is_number b 35 q.1) ∙ ap (λ (k : ℕ). 32 ∷ 35 ∷ k ∷ rest) (is_number c 32 p.1), (tails_are_spelled rest tail).0 is)

line_is : (line : List ℕ) (r : Interval) → row_of line ≡ Some r → SpellLine line r
unfolding row_of
line_is line r is =
    let inc = some_before (after (codes "inc ") line) (λ (rest : List ℕ). moment_at rest >>= λ start. end_at start.1 >>= λ end. row_with start.0 end.0 end.1) r is in
    let start = some_before (moment_at inc.0) (λ (start : ℕ × List ℕ). end_at start.1 >>= λ end. row_with start.0 end.0 end.1) r inc.2 in
    let end = some_before (end_at start.0.1) (λ (end : Option ℕ × List ℕ). row_with start.0.0 end.0 end.1) r start.2 in
    let row : Tail → Interval = λ tail. record { start = start.0.0; end = end.0.0; tags = tail.0; annotation = tail.1 } in
    let tail = some_before (tail_of end.0.1) (λ (tail : Tail). cond (is_end start.0.0 end.0.0) (Some (row tail)) None) r end.2 in
    let order = if_so (is_end start.0.0 end.0.0) (row tail.0) r tail.2 in
    let s = moment_is inc.0 start.0 start.1 in
    let e = end_is start.0.1 end.0 end.1 in
    subst (SpellLine line) order.1 (record {
      start_text = s.text;
      end_text = e.text;
      tail_text = end.0.1;
      text = front_is (codes "inc ") line inc.0 inc.1 ∙ ap (λ (l : List ℕ). codes "inc " ++ l) (s.parts ∙ ap (λ (l : List ℕ). s.text ++ l) e.parts);
      starts = s.is;
      ends = e.is;
      in_order = order.0;
      tail = tail_is end.0.1 tail.0 tail.1;
    })

-- ---- what is spelled is read

moment_read : (text rest : List ℕ) (at : ℕ) → basic_moment text ≡ Some at → moment_at (text ++ rest) ≡ Some (at, rest)
moment_read text rest at is =
    let size = moment_size text at is in
    ap (λ (l : List ℕ). basic_moment l >>= λ n. Some (n, drop 16 (text ++ rest))) (take_at text rest 16 size)
    ∙ ap (λ (o : Option ℕ). o >>= λ n. Some (n, drop 16 (text ++ rest))) is
    ∙ ap (λ (l : List ℕ). Some (at, l)) (drop_at text rest 16 size)

-- what is after the moments doesn't look like an end
no_end : (bytes : List ℕ) (tail : Tail) → SpellTail bytes tail → after (codes " - ") bytes ≡ None
no_end [] tail is = refl
no_end (b ∷ bytes) tail is = ap (λ (l : List ℕ). after (codes " - ") l) is.1

end_read : (text bytes : List ℕ) (end : Option ℕ) (tail : Tail) → SpellEnd text end → SpellTail bytes tail → end_at (text ++ bytes) ≡ Some (end, bytes)
end_read text bytes None tail is behind = ap (λ (l : List ℕ). end_at (l ++ bytes)) is ∙ ap (λ (o : Option (List ℕ)). end_behind o bytes) (no_end bytes tail behind)
end_read text bytes (Some end) tail is behind =
    ap (λ (l : List ℕ). end_at l) (ap (λ (l : List ℕ). l ++ bytes) is.1 ∙ append_assoc (codes " - ") is.0 bytes)
    ∙ ap (λ (o : Option (List ℕ)). end_behind o (codes " - " ++ (is.0 ++ bytes))) (after_front (codes " - ") (is.0 ++ bytes))
    ∙ ap (λ (o : Option (ℕ × List ℕ)). o >>= λ m. Some (Some m.0, m.1)) (moment_read is.0 bytes end is.2)

tail_read : (bytes : List ℕ) (tail : Tail) → SpellTail bytes tail → tail_of bytes ≡ Some tail
tail_read [] tail is = ap (λ (t : Tail). Some t) (sym is)
tail_read (b ∷ bytes) tail is = ap (λ (l : List ℕ). tail_of l) is.1 ∙ (tails_are_spelled is.0 tail).1 is.2

line_read : (line : List ℕ) (r : Interval) → SpellLine line r → row_of line ≡ Some r
unfolding row_of
line_read line r s =
    ap (λ (l : List ℕ). after (codes "inc ") l >>= λ rest. moment_at rest >>= λ start. end_at start.1 >>= λ end. row_with start.0 end.0 end.1) s.text
    ∙ ap (λ (o : Option (List ℕ)). o >>= λ rest. moment_at rest >>= λ start. end_at start.1 >>= λ end. row_with start.0 end.0 end.1) (after_front (codes "inc ") (s.start_text ++ (s.end_text ++ s.tail_text)))
    ∙ ap (λ (o : Option (ℕ × List ℕ)). o >>= λ start. end_at start.1 >>= λ end. row_with start.0 end.0 end.1) (moment_read s.start_text (s.end_text ++ s.tail_text) r.start s.starts)
    ∙ ap (λ (o : Option (Option ℕ × List ℕ)). o >>= λ end. row_with r.start end.0 end.1) (end_read s.end_text s.tail_text r.end (r.tags, r.annotation) s.ends s.tail)
    ∙ ap (λ (o : Option Tail). o >>= λ tail. cond (is_end r.start r.end) (Some (record { start = r.start; end = r.end; tags = tail.0; annotation = tail.1 })) None) (tail_read s.tail_text (r.tags, r.annotation) s.tail)
    ∙ ap (λ b. cond b (Some r) None) s.in_order

pub lines_are_spelled : LinesAreSpelled
lines_are_spelled line r = (line_is line r, line_read line r)
