-- The first 49 bytes of a body tell whether it may come next.
use Rattle.std.proofs.Common.{◌≡◌, ℕ, zero, suc, ◌+◌, ◌<◌, ◌≤◌, Bool, true, false, ◌&&◌, nat_le, List, [], ◌∷◌, length, take, drop, refl, sym, ap, subst, ◌∙◌, arith}
use Rattle.std.proofs.lemmas.Bool.Decides.{nat_tests}
use Rattle.std.proofs.lemmas.List.{drop-take, length-take}
use Rattle.tw_protocol.specs.Chain.{IsUuid}
use Rattle.tw_records.specs.Log.{Accepted, HasUuids, Log}
use Rattle.tw_records.specs.Bodies.{is_kind, is_body, entry_of, accepted_in, is_next_entry, follows}
use Rattle.tw_records.specs.Bodies.{snapshot_in, image_of, is_next_image, is_stored}

-- the front of a list has so many elements if the list has
long_front : (n k : ℕ) (xs : List ℕ) → n ≤ k → nat_le n (length (take k xs)) ≡ nat_le n (length xs)
long_front n k xs few = by (nat_le n (length xs)) refl
  where
    by : (t : Bool) → nat_le n (length xs) ≡ t → nat_le n (length (take k xs)) ≡ nat_le n (length xs)
    by true e =
        let many : n ≤ length xs = grind (arith, nat_tests) in
        let all : n ≤ length (take k xs) = let l = length-take k xs in omega (arith, l, many, few) in
        let yes : nat_le n (length (take k xs)) ≡ true = grind (arith, nat_tests) in
        yes ∙ sym e
    by false e =
        let less : length xs < n = grind (arith, nat_tests) in
        let all : length (take k xs) ≡ length xs = let l = length-take k xs in omega (arith, l, less, few) in
        ap (nat_le n) all

take_front : (k n : ℕ) (xs : List ℕ) → take k (take (k + n) xs) ≡ take k xs
take_front zero n xs = refl
take_front (suc k) n [] = let on : suc k + n ≡ suc (k + n) = omega arith in ap (λ j. take (suc k) (take {A = ℕ} j [])) on
take_front (suc k) n (x ∷ xs) = let on : suc k + n ≡ suc (k + n) = omega arith in ap (λ j. take (suc k) (take j (x ∷ xs))) on ∙ ap (λ l. x ∷ l) (take_front k n xs)

pub kind_front : (kind : ℕ) (xs : List ℕ) → is_kind kind (take 49 xs) ≡ is_kind kind xs
kind_front kind [] = refl
kind_front kind (x ∷ xs) = refl

module _ (body : List ℕ) where
  abbrev front : List ℕ
  front = take 49 body

  client_front : take 16 (drop 1 front) ≡ take 16 (drop 1 body)
  client_front = ap (take 16) (drop-take 1 48 body) ∙ take_front 16 32 (drop 1 body)

  id_front : take 16 (drop 17 front) ≡ take 16 (drop 17 body)
  id_front = ap (take 16) (drop-take 17 32 body) ∙ take_front 16 16 (drop 17 body)

  parent_front : take 16 (drop 33 front) ≡ take 16 (drop 33 body)
  parent_front = ap (take 16) (drop-take 33 16 body) ∙ take_front 16 0 (drop 33 body)

  pub front_is_body : is_body front ≡ is_body body
  front_is_body = λ i. kind_front 1 body i && long_front 49 49 body (omega arith) i

  pub front_entry : entry_of (accepted_in front) ≡ entry_of (accepted_in body)
  front_entry = λ i. record { client = client_front i; id = id_front i; parent = parent_front i }

  pub front_follows : (log : List Accepted) → follows log front ≡ follows log body
  front_follows log = λ i. front_is_body i && is_next_entry log (front_entry i)

  pub front_uuids : HasUuids (accepted_in front) → HasUuids (accepted_in body)
  front_uuids h = record {
    client = ap length (sym client_front) ∙ h.client;
    id = subst IsUuid id_front h.id;
    parent = subst IsUuid parent_front h.parent;
  }

  -- ---- a snapshot

  pub front_image : image_of (snapshot_in front) ≡ image_of (snapshot_in body)
  front_image = λ i. record { client = client_front i; version = id_front i }

  pub front_stored : (log : Log) → is_stored log front ≡ is_stored log body
  front_stored log = λ i. (kind_front 3 body i && long_front 33 49 body (omega arith) i) && is_next_image log (front_image i)
