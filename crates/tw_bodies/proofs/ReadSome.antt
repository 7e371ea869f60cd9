-- Reading some of many, and then the others.
use Rattle.std.proofs.Common.{◌≡◌, ℕ, zero, suc, ◌-◌, ◌+◌, ◌<◌, ◌≤◌, List, [], ◌∷◌, ◌++◌, length, Option, Some, None, refl, sym, ap, ◌∙◌, append_assoc, arith}
use Rattle.std.proofs.lemmas.List.{append-nil}
use Rattle.std.proofs.lemmas.Option.{same_Some}
use Rattle.tw_fields.specs.declared.read.ReadError.{ReadError}
use Rattle.tw_fields.specs.Reading.{◌>>=◌, Fails, many_at}
use Rattle.tw_fields.proofs.ReadLoop.{with_front, goes_on, ends}
use Rattle.tw_fields.proofs.FieldsSpelled.{bind_some}

module _ {A : Type 0} (one : List ℕ → Option (A × List ℕ)) where
  whole : (read : Option (List A × List ℕ)) → read ≡ with_front [] read
  whole (Some x) = refl
  whole None = refl

  with_both : (front : List A) (x : A) (read : Option (List A × List ℕ)) → (with_front front read >>= λ r. Some (x ∷ r.0, r.1)) ≡ with_front (x ∷ front) read
  with_both front x (Some r) = refl
  with_both front x None = refl

  abbrev put_first : A → List A × List ℕ → Option (List A × List ℕ)
  put_first x o = Some (x ∷ o.0, o.1)

  -- so many and more are these and then the others
  many_join : (a b : ℕ) (bytes : List ℕ) → many_at one (a + b) bytes ≡ (many_at one a bytes >>= λ x. with_front x.0 (many_at one b x.1))
  unfolding many_at
  many_join zero b bytes = let same : zero + b ≡ b = omega arith in ap (λ n. many_at one n bytes) same ∙ whole (many_at one b bytes)
  many_join (suc a) b bytes = let next : suc a + b ≡ suc (a + b) = omega arith in ap (λ n. many_at one n bytes) next ∙ by (one bytes) (λ rest. many_join a b rest)
    where
      each : (x : A) (r : Option (List A × List ℕ)) → ((r >>= λ y. with_front y.0 (many_at one b y.1)) >>= put_first x) ≡ ((r >>= put_first x) >>= λ y. with_front y.0 (many_at one b y.1))
      each x None = refl
      each x (Some y) = with_both y.0 x (many_at one b y.1)

      by : (first : Option (A × List ℕ)) → ((rest : List ℕ) → many_at one (a + b) rest ≡ (many_at one a rest >>= λ x. with_front x.0 (many_at one b x.1)))
          → (first >>= λ f. many_at one (a + b) f.1 >>= put_first f.0) ≡ ((first >>= λ f. many_at one a f.1 >>= put_first f.0) >>= λ x. with_front x.0 (many_at one b x.1))
      by None join = refl
      by (Some f) join = ap (λ (r : Option (List A × List ℕ)). r >>= put_first f.0) (join f.1) ∙ each f.0 (many_at one a f.1)

  with_front_twice : (front more : List A) (read : Option (List A × List ℕ)) → with_front front (with_front more read) ≡ with_front (front ++ more) read
  with_front_twice front more None = refl
  with_front_twice front more (Some x) = ap (λ (xs : List A). Some (xs, x.1)) (simp append_assoc)

  split : (some left : ℕ) (bytes : List ℕ) → some ≤ left → many_at one left bytes ≡ (many_at one some bytes >>= λ x. with_front x.0 (many_at one (left - some) x.1))
  split some left bytes inside = ap (λ n. many_at one n bytes) (omega (arith, inside)) ∙ many_join some (left - some) bytes

  pub some_on : (front ops : List A) (some left : ℕ) (bytes after : List ℕ) (total : Option (List A × List ℕ)) → some ≤ left → many_at one some bytes ≡ Some (ops, after)
      → with_front front (many_at one left bytes) ≡ total → with_front (front ++ ops) (many_at one (left - some) after) ≡ total
  some_on front ops some left bytes after total inside read so_far =
      sym (ap (with_front front) (split some left bytes inside ∙ ap (λ (r : Option (List A × List ℕ)). r >>= λ x. with_front x.0 (many_at one (left - some) x.1)) read) ∙ with_front_twice front ops (many_at one (left - some) after)) ∙ so_far

  pub some_fail : (front : List A) (some left : ℕ) (bytes : List ℕ) (total : Option (List A × List ℕ)) → some ≤ left → many_at one some bytes ≡ None
      → with_front front (many_at one left bytes) ≡ total → total ≡ None
  some_fail front some left bytes total inside read so_far =
      sym so_far ∙ ap (with_front front) (split some left bytes inside ∙ ap (λ (r : Option (List A × List ℕ)). r >>= λ x. with_front x.0 (many_at one (left - some) x.1)) read)

  pub all_read : (front : List A) (left : ℕ) (bytes : List ℕ) (total : Option (List A × List ℕ)) → left ≡ 0 → with_front front (many_at one left bytes) ≡ total → total ≡ Some (front, bytes)
  unfolding many_at
  all_read front left bytes total none so_far = sym so_far ∙ ap (λ n. with_front front (many_at one n bytes)) none ∙ ap (λ (xs : List A). Some (xs, bytes)) (append-nil front)

  pub one_on : (front : List A) (left : ℕ) (bytes : List ℕ) (x : A) (after : List ℕ) (total : Option (List A × List ℕ)) → 0 < left → one bytes ≡ Some (x, after)
      → with_front front (many_at one left bytes) ≡ total → with_front (front ++ x ∷ []) (many_at one (left - 1) after) ≡ total
  one_on front left bytes x after total lt h so_far = goes_on one front left 0 bytes x after total lt h (ap (λ k. with_front front (many_at one k bytes)) {x = left - 0} {y = left} (omega arith) ∙ so_far)

  pub one_fails : (e : ReadError) (front : List A) (left : ℕ) (bytes : List ℕ) (total : Option (List A × List ℕ)) → 0 < left → Fails e (one bytes) → with_front front (many_at one left bytes) ≡ total → Fails e total
  one_fails e front left bytes total lt h so_far = ends one e front left 0 bytes total lt h (ap (λ k. with_front front (many_at one k bytes)) {x = left - 0} {y = left} (omega arith) ∙ so_far)

  -- so many are read
  pub so_many : (n : ℕ) (bytes : List ℕ) (r : List A × List ℕ) → many_at one n bytes ≡ Some r → length r.0 ≡ n
  unfolding many_at
  so_many zero bytes r e = ap (λ (q : List A × List ℕ). length q.0) (sym (same_Some _ r e))
  so_many (suc n) bytes r e =
      let f = bind_some (one bytes) _ r e in
      let o = bind_some (many_at one n f.0.1) _ r f.2 in
      ap (λ (q : List A × List ℕ). length q.0) (sym (same_Some _ r o.2)) ∙ ap suc (so_many n f.0.1 o.0 o.1)

pub front_none : {A : Type 0} (read : Option (List A × List ℕ)) → with_front [] read ≡ read
front_none None = refl
front_none (Some r) = refl

-- what was read before is in front of the others
pub after_front : {A : Type 0} (front all : List A) (rest : List ℕ) (read : Option (List A × List ℕ)) → with_front front read ≡ Some (all, rest) → (others : List A) × (read ≡ Some (others, rest)) × (all ≡ front ++ others)
after_front front all rest None e = absurd cc
after_front front all rest (Some r) e =
    let same = same_Some (front ++ r.0, r.1) (all, rest) e in
    (r.0, ap (λ (l : List ℕ). Some (r.0, l)) (ap (λ q. q.1) same), ap (λ q. q.0) (sym same))
