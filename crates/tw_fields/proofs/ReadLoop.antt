-- Reading one after the other, as a loop does.
use Rattle.std.proofs.Common.{◌≡◌, ℕ, suc, ◌-◌, ◌+◌, ◌≤◌, ◌<◌, List, [], ◌∷◌, ◌++◌, Option, Some, None, refl, sym, ap, ◌∙◌, append_assoc, arith}
use Rattle.std.proofs.lemmas.List.{append-nil}
use Rattle.tw_fields.specs.declared.read.ReadError.{ReadError}
use Rattle.tw_fields.specs.declared.read.ReadError.TheVariants.{Memory, Malformed}
use Rattle.std.proofs.lemmas.Option.{same_Some}
use Rattle.tw_fields.specs.Reading.{◌>>=◌, Fails, with_last, many_at}
pub use Rattle.tw_fields.specs.Reading.{with_front}

module _ {A : Type 0} (one : List ℕ → Option (A × List ℕ)) where
  regroup : (front : List A) (n : A) (read : Option (List A × List ℕ)) → with_front front (read >>= λ x. Some (n ∷ x.0, x.1)) ≡ with_front (front ++ n ∷ []) read
  regroup front n (Some x) = ap (λ (ns : List A). Some (ns, x.1)) (simp append_assoc)
  regroup front n None = refl

  pub goes_on : (front : List A) (count i : ℕ) (bytes : List ℕ) (n : A) (after : List ℕ) (total : Option (List A × List ℕ)) → i < count → one bytes ≡ Some (n, after)
      → with_front front (many_at one (count - i) bytes) ≡ total → with_front (front ++ n ∷ []) (many_at one (count - (i + 1)) after) ≡ total
  unfolding many_at
  goes_on front count i bytes n after total lt h so_far =
      let k : count - i ≡ suc (count - (i + 1)) = omega arith in
      let here : with_front front (many_at one (count - i) bytes) ≡ with_front (front ++ n ∷ []) (many_at one (count - (i + 1)) after) = rw (k, h) (regroup front n (many_at one (count - (i + 1)) after)) in
      sym here ∙ so_far

  pub ends : (e : ReadError) (front : List A) (count i : ℕ) (bytes : List ℕ) (total : Option (List A × List ℕ)) → i < count → Fails e (one bytes)
      → with_front front (many_at one (count - i) bytes) ≡ total → Fails e total
  unfolding many_at
  ends Memory front count i bytes total lt h so_far = tt
  ends Malformed front count i bytes total lt h so_far =
      let k : count - i ≡ suc (count - (i + 1)) = omega arith in
      let here : with_front front (many_at one (count - i) bytes) ≡ None = rw (k, h) refl in
      sym so_far ∙ here

  pub is_done : (front : List A) (count i : ℕ) (bytes : List ℕ) (total : Option (List A × List ℕ)) → count ≤ i → with_front front (many_at one (count - i) bytes) ≡ total → total ≡ Some (front, bytes)
  unfolding many_at
  is_done front count i bytes total le so_far =
      let k : count - i ≡ 0 = omega arith in
      let here : with_front front (many_at one (count - i) bytes) ≡ Some (front, bytes) = rw k (ap (λ (ns : List A). Some (ns, bytes)) (append-nil front)) in
      sym so_far ∙ here

  -- what was read after others is the last of them
  pub last_read : (front : List A) (bytes : List ℕ) (r : List A × List ℕ) → with_last front (one bytes) ≡ Some r → (x : A) × (one bytes ≡ Some (x, r.1)) × (r.0 ≡ front ++ x ∷ [])
  last_read front bytes r e = by (one bytes) e
    where
      by : (read : Option (A × List ℕ)) → with_last front read ≡ Some r → (x : A) × (read ≡ Some (x, r.1)) × (r.0 ≡ front ++ x ∷ [])
      by None f = absurd cc
      by (Some y) f =
          let same : (front ++ y.0 ∷ [], y.1) ≡ r = same_Some _ r f in
          (y.0, ap (λ (l : List ℕ). Some (y.0, l)) (ap (λ (q : List A × List ℕ). q.1) same), ap (λ (q : List A × List ℕ). q.0) (sym same))

  pub last_fails : (e : ReadError) (front : List A) (bytes : List ℕ) → Fails e (with_last front (one bytes)) → Fails e (one bytes)
  last_fails Memory front bytes f = tt
  last_fails Malformed front bytes f = by (one bytes) f
    where
      by : (read : Option (A × List ℕ)) → with_last front read ≡ None → read ≡ None
      by None g = refl
      by (Some y) g = absurd cc
