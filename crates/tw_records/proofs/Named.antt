-- What a block names.
use Rattle.std.proofs.Common.{◌≡◌, ℕ, zero, suc, ◌+◌, ◌*◌, ◌<◌, ◌≤◌, true, List, [], ◌∷◌, ◌++◌, length, get_or, take, drop, map, refl, sym, ap, ◌∙◌, append_assoc, arith}
use Rattle.std.specs.Prelude.{⊤, flat_map}
use Rattle.std.proofs.lemmas.List.{length-append, length-take, length-drop, drop-drop, drop_at, take_at}
use Rattle.tw_records.specs.declared.entry.Entry.{Entry}
use Rattle.tw_records.specs.Log.{Accepted}
use Rattle.tw_records.specs.Bodies.{entry_of, accepted_in, is_body, named, block_of}
use Rattle.tw_records.specs.Table.{entry_at}
use Rattle.tw_records.proofs.Spelled.{long_body}

-- three uuids of sixteen bytes
pub record IsLong (a : Accepted) : Type 0 where
  pub client : length a.client ≡ 16
  pub id : length a.version.id ≡ 16
  pub parent : length a.version.parent ≡ 16

abbrev pub AreLong : List Accepted → Type 0
AreLong [] = ⊤
AreLong (a ∷ log) = IsLong a × AreLong log

pub long_more : (log : List Accepted) (a : Accepted) → AreLong log → IsLong a → AreLong (log ++ a ∷ [])
long_more [] a all is = (is, tt)
long_more (x ∷ log) a all is = (all.0, long_more log a all.1 is)

pub long_last : (n : ℕ) (log : List Accepted) → AreLong log → AreLong (drop n log)
long_last zero log all = all
long_last (suc n) [] all = tt
long_last (suc n) (a ∷ log) all = long_last n log all.1

pub fields_long : (body : List ℕ) → is_body body ≡ true → IsLong (accepted_in body)
fields_long body e =
    let within : 49 ≤ length body = long_body body e in
    record {
      client = omega (arith, length-take 16 (drop 1 body), length-drop 1 body, within);
      id = omega (arith, length-take 16 (drop 17 body), length-drop 17 body, within);
      parent = omega (arith, length-take 16 (drop 33 body), length-drop 33 body, within);
    }

-- a version's name, and what comes after it
module _ (a : Accepted) (rest : List ℕ) (l : IsLong a) where
  abbrev c : List ℕ
  c = a.client

  abbrev i : List ℕ
  i = a.version.id

  abbrev p : List ℕ
  p = a.version.parent

  abbrev all : List ℕ
  all = (c ++ (i ++ p)) ++ rest

  apart : all ≡ c ++ (i ++ (p ++ rest))
  apart = append_assoc c (i ++ p) rest ∙ ap (λ l. c ++ l) (append_assoc i p rest)

  one : drop 16 all ≡ i ++ (p ++ rest)
  one = ap (drop 16) apart ∙ drop_at c (i ++ (p ++ rest)) 16 l.client

  two : drop 32 all ≡ p ++ rest
  two = sym (drop-drop 16 16 all) ∙ ap (drop 16) one ∙ drop_at i (p ++ rest) 16 l.id

  pub three : drop 48 all ≡ rest
  three = sym (drop-drop 16 32 all) ∙ ap (drop 16) two ∙ drop_at p rest 16 l.parent

  pub first_named : entry_at zero (2 ∷ all) ≡ entry_of a
  first_named =
      let client : take 16 all ≡ c = ap (take 16) apart ∙ take_at c (i ++ (p ++ rest)) 16 l.client in
      let id : take 16 (drop 16 all) ≡ i = ap (take 16) one ∙ take_at i (p ++ rest) 16 l.id in
      let parent : take 16 (drop 32 all) ≡ p = ap (take 16) two ∙ take_at p rest 16 l.parent in
      λ j. record { client = client j; id = id j; parent = parent j }

-- one place on
later : (o j : ℕ) (xs rest : List ℕ) → drop 48 xs ≡ rest → drop (suc o + 48 * suc j) (2 ∷ xs) ≡ drop (suc o + 48 * j) (2 ∷ rest)
later o j xs rest e =
    let there : suc o + 48 * suc j ≡ suc (48 + (o + 48 * j)) = omega arith in
    let here : suc o + 48 * j ≡ suc (o + 48 * j) = omega arith in
    ap (λ n. drop n (2 ∷ xs)) there ∙ sym (drop-drop (o + 48 * j) 48 xs) ∙ ap (drop (o + 48 * j)) e ∙ ap (λ n. drop n (2 ∷ rest)) (sym here)

pub named_at : (log : List Accepted) → AreLong log → (j : ℕ) (d : Entry) → j < length log → entry_at j (block_of (map entry_of log)) ≡ get_or (map entry_of log) j d
named_at [] all j d lt = absurd (omega (arith, lt))
named_at (a ∷ log) all zero d lt = first_named a (flat_map named (map entry_of log)) all.0
named_at (a ∷ log) all (suc j) d lt =
    let rest = flat_map named (map entry_of log) in
    let on = three a rest all.0 in
    (λ k. record { client = take 16 (later 0 j (named (entry_of a) ++ rest) rest on k); id = take 16 (later 16 j (named (entry_of a) ++ rest) rest on k); parent = take 16 (later 32 j (named (entry_of a) ++ rest) rest on k) })
    ∙ named_at log all.1 j d (omega (arith, lt))

pub block_length : (log : List Accepted) → AreLong log → length (block_of (map entry_of log)) ≡ 1 + 48 * length log
block_length [] all = refl
block_length (a ∷ log) all =
    let rest = flat_map named (map entry_of log) in
    omega (arith, length-append (named (entry_of a)) rest, length-append a.client (a.version.id ++ a.version.parent), length-append a.version.id a.version.parent, all.0.client, all.0.id, all.0.parent, block_length log all.1)
