-- What others add, and what it leaves of a chain.
use Rattle.std.proofs.Common.{◌≡◌, ◌∙◌, Bool, true, false, ◌&&◌, nat_le, ℕ, ◌+◌, ◌<◌, ◌≤◌, List, [], ◌∷◌, ◌++◌, length, take, map, get_or, refl, sym, ap, subst, arith}
use Rattle.std.proofs.lemmas.List.{take_more}
use Rattle.std.proofs.lemmas.List.{get_or-map, length-map}
use Rattle.std.proofs.lemmas.List.Elements.{All-get_or, All-nil, All-cons, All-head, All-tail}
use Rattle.std.specs.List.{list_all}
use Rattle.std.proofs.lemmas.Bool.{and_parts, true≢false}
use Rattle.std.proofs.lemmas.Bool.Decides.{nat_tests}
use Rattle.std.proofs.lemmas.Option.{slice_get_past, slice_get_read}
use Rattle.tw_http.specs.Messages.{max_body}
use Rattle.tw_server.specs.declared.memory.script.LinkStep.{LinkStep}
use Rattle.tw_server.specs.Memory.Script.{AllFit, OthersFit, segments_of, step_fits, others_in, others_at}
use Rattle.tw_server.specs.Memory.Holding.{Holding, after_other, after_others}

others_push : (client : List ℕ) (h : Holding) (segments : List (List ℕ)) (s : List ℕ) → after_others client h (segments ++ s ∷ []) ≡ after_other client (after_others client h segments) s
others_push client h [] s = refl
others_push client h (x ∷ segments) s = others_push client (after_other client h x) segments s

-- one segment more
pub others_more : (client : List ℕ) (h now next : Holding) (segments : List (List ℕ)) (i : ℕ) (s : List ℕ) → i < length segments → s ≡ get_or segments i s → now ≡ after_others client h (take i segments) → next ≡ after_other client now s
    → next ≡ after_others client h (take (i + 1) segments)
others_more client h now next segments i s lt here before after =
    after ∙ ap (λ n. after_other client n s) before ∙ sym (others_push client h (take i segments) s)
    ∙ ap (after_others client h) (ap (λ x. take i segments ++ x ∷ []) here ∙ sym (take_more segments i s lt))

-- the segment at an index of a list whose items are read as bytes
module _ {V : Type 0} (f : V → List ℕ) (xs ys : List V) (i : ℕ) (v : V) (now : List ℕ) (same : xs ≡ ys) (lt : i < length xs) (at : v ≡ get_or xs i v) (read : now ≡ f v) where
  inside : i < length (map f ys)
  inside = let a = ap length same in let b = length-map ys f in omega (arith, lt, a, b)

  pub segment_here : (d : List ℕ) → now ≡ get_or (map f ys) i d
  segment_here d =
      let within : i < length ys = let a = ap length same in omega (arith, lt, a) in
      read ∙ ap f (at ∙ ap (λ zs. get_or zs i v) same) ∙ sym (get_or-map f ys i v d within)

  pub segment_inside : i < length (map f ys)
  segment_inside = inside

  pub segment_fits : AllFit (map f ys) → length now ≤ max_body
  segment_fits all = subst (λ s. length s ≤ max_body) (sym (segment_here [])) (All-get_or (λ (s : List ℕ). length s ≤ max_body) (map f ys) i [] inside all)

-- the test of a script
short : (n : ℕ) → nat_le n max_body ≡ true → n ≤ max_body
short n e = grind (arith, nat_tests)

long : (n : ℕ) → nat_le n max_body ≡ false → n ≤ max_body → ⊥
long n e le = let more : max_body < n = grind (arith, nat_tests) in omega (arith, more, le)

module _ {V : Type 0} (f : V → List ℕ) where
  all_fit : (vs : List V) → list_all (λ v. nat_le (length (f v)) max_body) vs ≡ true → AllFit (map f vs)
  all_fit [] e = All-nil (λ (s : List ℕ). length s ≤ max_body)
  all_fit (v ∷ vs) e =
      let parts = and_parts (nat_le (length (f v)) max_body) (list_all (λ v. nat_le (length (f v)) max_body) vs) e in
      All-cons (λ (s : List ℕ). length s ≤ max_body) (f v) (map f vs) (short (length (f v)) parts.0) (all_fit vs parts.1)

  not_all_fit : (vs : List V) → list_all (λ v. nat_le (length (f v)) max_body) vs ≡ false → AllFit (map f vs) → ⊥
  not_all_fit [] e all = true≢false e
  not_all_fit (v ∷ vs) e all = by (nat_le (length (f v)) max_body) refl e (not_all_fit vs)
    where
      by : (t : Bool) → nat_le (length (f v)) max_body ≡ t → (t && list_all (λ v. nat_le (length (f v)) max_body) vs) ≡ false → (list_all (λ v. nat_le (length (f v)) max_body) vs ≡ false → AllFit (map f vs) → ⊥) → ⊥
      by true t e rest = rest e (All-tail (λ (s : List ℕ). length s ≤ max_body) (f v) (map f vs) all)
      by false t e rest = long (length (f v)) t (All-head (λ (s : List ℕ). length s ≤ max_body) (f v) (map f vs) all)

pub script_fits : (script : List LinkStep) → list_all step_fits script ≡ true → OthersFit script
script_fits [] e = All-nil (λ (step : LinkStep). AllFit (segments_of step))
script_fits (step ∷ script) e =
    let parts = and_parts (step_fits step) (list_all step_fits script) e in
    All-cons (λ (step : LinkStep). AllFit (segments_of step)) step script (all_fit (λ v. v.items) step.others.items parts.0) (script_fits script parts.1)

pub script_does_not_fit : (script : List LinkStep) → list_all step_fits script ≡ false → OthersFit script → ⊥
script_does_not_fit [] e all = true≢false e
script_does_not_fit (step ∷ script) e all = by (step_fits step) refl e (script_does_not_fit script)
  where
    by : (t : Bool) → step_fits step ≡ t → (t && list_all step_fits script) ≡ false → (list_all step_fits script ≡ false → OthersFit script → ⊥) → ⊥
    by true t e rest = rest e (All-tail (λ (step : LinkStep). AllFit (segments_of step)) step script all)
    by false t e rest = not_all_fit (λ v. v.items) step.others.items t (All-head (λ (step : LinkStep). AllFit (segments_of step)) step script all)

-- what the script says of an exchange
pub no_step : (xs script : List LinkStep) (n : ℕ) → xs ≡ script → length xs ≤ n → others_at script n ≡ []
no_step xs script n same past = ap (λ zs. others_at zs n) (sym same) ∙ ap others_in (slice_get_past xs n past)

pub step_here : (xs script : List LinkStep) (n : ℕ) (step : LinkStep) → xs ≡ script → n < length xs → step ≡ get_or xs n step → others_at script n ≡ segments_of step
step_here xs script n step same lt at = ap (λ zs. others_at zs n) (sym same) ∙ ap others_in (slice_get_read xs (length xs) n step refl lt at)
