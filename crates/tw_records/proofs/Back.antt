-- What bodies lead to, read from the end, and by the kinds of a body.
use Rattle.std.proofs.Common.{◌≡◌, ℕ, Bool, true, false, cond, ◌&&◌, ◌==◌, nat_le, List, [], ◌∷◌, ◌++◌, length, reverse, Option, Some, None, option_and_then, refl, sym, ap, subst, ◌∙◌}
use Rattle.std.proofs.lemmas.Bool.{true≢false, and_parts, eqb-true}
use Rattle.std.proofs.lemmas.List.{reverse-append}
use Rattle.tw_records.specs.Bodies.{is_kind, follows, is_snapshot_body, is_stored}
use Rattle.tw_records.specs.Reading.{Reading, nothing_read, with_version, with_block, with_snapshot, read_body, read_from, is_block}

-- ---- reading from the end

abbrev pub read_back : List (List ℕ) → Option Reading
read_back [] = Some nothing_read
read_back (body ∷ earlier) = option_and_then (λ r. read_body r body) (read_back earlier)

pub and_some : (o : Option Reading) → option_and_then (λ r. Some r) o ≡ o
and_some None = refl
and_some (Some r) = refl

pub read_push : (r : Reading) (xs : List (List ℕ)) (x : List ℕ) → read_from r (xs ++ x ∷ []) ≡ option_and_then (λ q. read_body q x) (read_from r xs)
read_push r [] x = and_some (read_body r x)
read_push r (y ∷ ys) x = by (read_body r y) (λ q. read_push q ys x)
  where
    by : (o : Option Reading) → ((q : Reading) → read_from q (ys ++ x ∷ []) ≡ option_and_then (λ p. read_body p x) (read_from q ys)) → option_and_then (λ q. read_from q (ys ++ x ∷ [])) o ≡ option_and_then (λ q. read_body q x) (option_and_then (λ q. read_from q ys) o)
    by None f = refl
    by (Some q) f = f q

pub back_is : (back : List (List ℕ)) → read_from nothing_read (reverse back) ≡ read_back back
back_is [] = refl
back_is (body ∷ earlier) = ap (read_from nothing_read) (reverse-append (body ∷ []) earlier) ∙ read_push nothing_read (reverse earlier) body ∙ ap (option_and_then (λ r. read_body r body)) (back_is earlier)

pub some_from : (f : Reading → Option Reading) (o : Option Reading) (r : Reading) → option_and_then f o ≡ Some r → (q : Reading) × (o ≡ Some q) × (f q ≡ Some r)
some_from f None r e = absurd (cc)
some_from f (Some q) r e = (q, refl, e)

-- ---- the three kinds of body

abbrev pub the : Reading → Option Reading → Reading
the r None = r
the r (Some q) = q

pub same_reading : (q r : Reading) → Some q ≡ Some r → q ≡ r
same_reading q r e = ap (the q) e

pub by_kind : (P : Reading → Type 0) (q r : Reading) (body : List ℕ) → read_body q body ≡ Some r
    → (follows q.log.versions body ≡ true → P (with_version q body)) → (is_block q body ≡ true → P (with_block q)) → (is_stored q.log body ≡ true → P (with_snapshot q body)) → P r
by_kind P q r body e first second third = by (follows q.log.versions body) (is_block q body) (is_stored q.log body) refl refl refl e
  where
    by : (t u w : Bool) → follows q.log.versions body ≡ t → is_block q body ≡ u → is_stored q.log body ≡ w → cond t (Some (with_version q body)) (cond u (Some (with_block q)) (cond w (Some (with_snapshot q body)) None)) ≡ Some r → P r
    by true u w a b c e = subst P (same_reading (with_version q body) r e) (first a)
    by false true w a b c e = subst P (same_reading (with_block q) r e) (second b)
    by false false true a b c e = subst P (same_reading (with_snapshot q body) r e) (third c)
    by false false false a b c e = absurd (cc)

-- the three tests of a snapshot's body
pub snapshot_tests : (body : List ℕ) (t : Bool) → is_snapshot_body body && t ≡ true → (is_kind 3 body ≡ true) × (nat_le 33 (length body) ≡ true) × (t ≡ true)
snapshot_tests body t e =
    let one = and_parts (is_snapshot_body body) t e in
    let two = and_parts (is_kind 3 body) (nat_le 33 (length body)) one.0 in
    (two.0, two.1, one.1)

pub both : (a b : Bool) → a ≡ true → b ≡ true → a && b ≡ true
both true b p q = q
both false b p q = absurd (true≢false (sym p))

pub third_kind : (body : List ℕ) → is_kind 3 body ≡ true → (is_kind 1 body ≡ false) × (is_kind 2 body ≡ false)
third_kind [] e = absurd (true≢false (sym e))
third_kind (kind ∷ fields) e = let three : kind ≡ 3 = eqb-true kind 3 e in (ap (λ k. k == 1) three, ap (λ k. k == 2) three)
