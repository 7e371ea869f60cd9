-- What an index says, as entries are added, and what a walk along a bucket finds.
use Rattle.std.proofs.Common.{◌≡◌, ◌⊎◌, inl, inr, ◌∙◌, ℕ, zero, suc, ◌+◌, ◌-◌, ◌<◌, ◌≤◌, ◌==◌, Bool, true, false, not, cond, Option, Some, None, List, [], ◌∷◌, ◌++◌, length, map, get_or, set, take, replicate, refl, sym, ap, subst, arith, nat_lt}
use Rattle.std.specs.List.{position, position_or_len}
use Rattle.std.specs.Int.{from_be_bytes, w128}
use Rattle.std.proofs.lemmas.Nat.{mod_below}
use Rattle.std.proofs.lemmas.Bool.{cases_eq}
use Rattle.std.proofs.lemmas.Bool.Decides.{nat_tests}
use Rattle.std.proofs.lemmas.List.{length-append, length-set, length-take-le as length-take, get_or_append_left, get_or-replicate, get_or-set_same, get_or-set_other, get_or_past}
use Rattle.std.proofs.Math.Seq.{take-suc, get_or-append_seam}
use Rattle.std.proofs.lemmas.List.{take_all}
use Rattle.std.proofs.lemmas.List.Folds.{position_or_len_push}
use Rattle.std.proofs.lemmas.List.Sums.{prefix_len-le-length}
use Rattle.std.proofs.lemmas.Bool.{false≢true}
use lib.Dec.{eqb}
use Rattle.std.proofs.lemmas.Bool.{and_parts}
use Rattle.std.proofs.lemmas.List.{map-append, length-map}
use Rattle.tw_protocol.specs.Chain.{same_id}
use Rattle.tw_protocol.proofs.Chains.{same_id_exact}
use Rattle.tw_records.specs.declared.entry.Entry.{Entry}
use Rattle.tw_server.specs.Index.{AreBuckets, bucket_of, bucket_at, is_in, last_below, key_of, keys_of}
use Rattle.tw_server.specs.Versions.{is_keyed}

-- ---- the last number that passes

same_below : (p q : ℕ → Bool) (n : ℕ) → ((k : ℕ) → k < n → p k ≡ q k) → last_below p n ≡ last_below q n
same_below p q zero same = refl
same_below p q (suc n) same = λ i. cond (same n (omega arith) i) (suc n) (same_below p q n (λ k lt. same k (omega (arith, lt))) i)

pub few_below : (p : ℕ → Bool) (n : ℕ) → last_below p n ≤ n
few_below p zero = omega arith
few_below p (suc n) = by (p n) (few_below p n)
  where
    by : (t : Bool) → last_below p n ≤ n → cond t (suc n) (last_below p n) ≤ suc n
    by true few = omega arith
    by false few = omega (arith, few)

pub passes_last : (p : ℕ → Bool) (n : ℕ) → 0 < last_below p n → p (last_below p n - 1) ≡ true
passes_last p zero some = absurd (omega (arith, some))
passes_last p (suc n) some = by (p n) refl some (passes_last p n)
  where
    by : (t : Bool) → p n ≡ t → 0 < cond t (suc n) (last_below p n) → (0 < last_below p n → p (last_below p n - 1) ≡ true) → p (cond t (suc n) (last_below p n) - 1) ≡ true
    by true e some rest = let same : suc n - 1 ≡ n = omega arith in ap p same ∙ e
    by false e some rest = rest some

-- ---- one key more

pub bucket_inside : (size : ℕ) (key : List ℕ) → 0 < size → bucket_of size key < size
unfolding bucket_of
bucket_inside size key some = mod_below (from_be_bytes w128 key) size some

pub is_equal : (a b : ℕ) → (a == b) ≡ true → a ≡ b
is_equal a b e = grind (arith, nat_tests)

is_other : (a b : ℕ) → (a ≡ b → ⊥) → (a == b) ≡ false
is_other a b ne = grind (arith, nat_tests)

is_same : (a b : ℕ) → a ≡ b → (a == b) ≡ true
is_same a b e = grind (arith, nat_tests)

module _ (size : ℕ) (keys : List (List ℕ)) (key : List ℕ) where
  bucket_before : (k : ℕ) → k < length keys → bucket_at size (keys ++ key ∷ []) k ≡ bucket_at size keys k
  bucket_before k lt = ap (bucket_of size) (get_or_append_left keys (key ∷ []) [] k lt)

  bucket_last : bucket_at size (keys ++ key ∷ []) (length keys) ≡ bucket_of size key
  bucket_last = ap (bucket_of size) (get_or-append_seam keys key [] [])

  same_bucket : (b n : ℕ) → n ≤ length keys → last_below (is_in size (keys ++ key ∷ []) b) n ≡ last_below (is_in size keys b) n
  same_bucket b n few = same_below (is_in size (keys ++ key ∷ []) b) (is_in size keys b) n (λ k lt. ap (λ x. x == b) (bucket_before k (omega (arith, lt, few))))

pub nothing_in : AreBuckets 0 [] [] []
nothing_in = record {
  wide = refl;
  last = λ b lt. absurd (omega (arith, lt));
  long = refl;
  earlier = λ n lt. absurd (omega (arith, lt));
  some = λ lt. absurd (omega (arith, lt));
}

pub empty_buckets : (size : ℕ) (ends before : List ℕ) → ends ≡ replicate size 0 → length ends ≡ size → before ≡ [] → AreBuckets size ends before []
empty_buckets size ends before zeros wide none = record {
  wide = wide;
  last = λ b lt. ap (λ l. get_or l b 0) zeros ∙ get_or-replicate size b 0 0 lt;
  long = ap length none;
  earlier = λ n lt. absurd (omega (arith, lt));
  some = λ lt. absurd (omega (arith, lt));
}

module _ (size : ℕ) (ends before : List ℕ) (keys : List (List ℕ)) (key : List ℕ) (is : AreBuckets size ends before keys) where
  -- the last one in the bucket of a uuid
  pub last_of : get_or ends (bucket_of size key) 0 ≡ last_below (is_in size keys (bucket_of size key)) (length keys)
  last_of = by (cases_eq size 0)
    where
      none : size ≡ 0 → (n : ℕ) → length keys ≡ n → last_below (is_in size keys (bucket_of size key)) n ≡ 0
      none e zero long = refl
      none e (suc n) long = let some = is.some (omega (arith, long)) in absurd (omega (arith, some, e))

      by : (size ≡ 0) ⊎ (size ≡ 0 → ⊥) → get_or ends (bucket_of size key) 0 ≡ last_below (is_in size keys (bucket_of size key)) (length keys)
      by (inl e) = get_or_past ends (bucket_of size key) 0 (let wide = is.wide in omega (arith, wide, e)) ∙ sym (none e (length keys) refl)
      by (inr ne) = is.last (bucket_of size key) (bucket_inside size key (omega (arith, ne)))

  pub key_more : (c n : ℕ) → c ≡ bucket_of size key → c < size → n ≡ length before + 1 → AreBuckets size (set ends c n) (before ++ get_or ends c 0 ∷ []) (keys ++ key ∷ [])
  key_more c n at inside number = record {
    wide = length-set ends c n ∙ is.wide;
    last = λ b lt. last b lt (cases_eq b c) ∙ ap (last_below (is_in size more b)) (sym long);
    long = length-append before (get_or ends c 0 ∷ []) ∙ ap (λ k. k + 1) is.long ∙ sym (length-append keys (key ∷ []));
    earlier = λ k lt. earlier k (cases_eq k (length keys)) lt;
    some = λ lt. omega (arith, inside);
  }
    where
      more : List (List ℕ)
      more = keys ++ key ∷ []

      long : length more ≡ suc (length keys)
      long = length-append keys (key ∷ []) ∙ omega arith

      is_n : n ≡ suc (length keys)
      is_n = let k = is.long in omega (arith, k, number)

      here : (b : ℕ) → last_below (is_in size more b) (suc (length keys)) ≡ cond (c == b) (suc (length keys)) (last_below (is_in size keys b) (length keys))
      here b = λ i. cond ((bucket_last size keys key ∙ sym at) i == b) (suc (length keys)) (same_bucket size keys key b (length keys) (omega arith) i)

      last : (b : ℕ) → b < size → (b ≡ c) ⊎ (b ≡ c → ⊥) → get_or (set ends c n) b 0 ≡ last_below (is_in size more b) (suc (length keys))
      last b lt (inl e) =
          ap (λ k. get_or (set ends c n) k 0) e ∙ get_or-set_same ends c n 0 (let w = is.wide in omega (arith, w, inside)) ∙ is_n
          ∙ sym (here b ∙ ap (λ t. cond t (suc (length keys)) (last_below (is_in size keys b) (length keys))) (is_same c b (sym e)))
      last b lt (inr ne) =
          get_or-set_other ends c b n 0 ne ∙ is.last b lt
          ∙ sym (here b ∙ ap (λ t. cond t (suc (length keys)) (last_below (is_in size keys b) (length keys))) (is_other c b (λ e. ne (sym e))))

      earlier : (k : ℕ) → (k ≡ length keys) ⊎ (k ≡ length keys → ⊥) → k < length more → get_or (before ++ get_or ends c 0 ∷ []) k 0 ≡ last_below (is_in size more (bucket_at size more k)) k
      earlier k (inl e) lt =
          ap (λ j. get_or (before ++ get_or ends c 0 ∷ []) j 0) (e ∙ sym is.long) ∙ get_or-append_seam before (get_or ends c 0) [] 0
          ∙ is.last c inside
          ∙ sym (ap (λ j. last_below (is_in size more (bucket_at size more j)) j) e
          ∙ ap (λ b. last_below (is_in size more b) (length keys)) (bucket_last size keys key ∙ sym at)
          ∙ same_bucket size keys key c (length keys) (omega arith))
      earlier k (inr ne) lt =
          let less : k < length keys = omega (arith, lt, ne, long) in
          get_or_append_left before (get_or ends c 0 ∷ []) 0 k (let l = is.long in omega (arith, less, l)) ∙ is.earlier k less
          ∙ sym (ap (λ b. last_below (is_in size more b) k) (bucket_before size keys key k less) ∙ same_bucket size keys key (bucket_at size keys k) k (omega (arith, less)))

-- ---- the first entry that passes

-- the first number that was found, or else this one
abbrev pub first_of : Option ℕ → ℕ → Option ℕ
first_of None n = Some n
first_of (Some k) n = Some k

abbrev pub or_else : Option ℕ → Option ℕ → Option ℕ
or_else None o = o
or_else (Some k) o = Some k

pub or_none : (o : Option ℕ) → or_else o None ≡ o
or_none None = refl
or_none (Some k) = refl

place_by : (k n m l : ℕ) (t : Bool) → k ≤ n → m ≡ cond (eqb k n) (n + cond t 0 1) k → l ≡ n + 1
    → cond (nat_lt m l) (Some m) None ≡ cond t (first_of (cond (nat_lt k n) (Some k) None) n) (cond (nat_lt k n) (Some k) None)
place_by k n m l true few is long = by (cases_eq k n)
  where
    by : (k ≡ n) ⊎ (k ≡ n → ⊥) → cond (nat_lt m l) (Some m) None ≡ first_of (cond (nat_lt k n) (Some k) None) n
    by (inl e) = let at : m ≡ n = grind (arith, nat_tests) in grind (arith, nat_tests)
    by (inr ne) = let at : m ≡ k = grind (arith, nat_tests) in let less : k < n = omega arith in grind (arith, nat_tests)
place_by k n m l false few is long = by (cases_eq k n)
  where
    by : (k ≡ n) ⊎ (k ≡ n → ⊥) → cond (nat_lt m l) (Some m) None ≡ cond (nat_lt k n) (Some k) None
    by (inl e) = let at : m ≡ n + 1 = grind (arith, nat_tests) in grind (arith, nat_tests)
    by (inr ne) = let at : m ≡ k = grind (arith, nat_tests) in let less : k < n = omega arith in grind (arith, nat_tests)

position_push : {X : Type 0} (p : X → Bool) (xs : List X) (y : X) → position p (xs ++ y ∷ []) ≡ cond (p y) (first_of (position p xs) (length xs)) (position p xs)
position_push p xs y = place_by (position_or_len p xs) (length xs) (position_or_len p (xs ++ y ∷ [])) (length (xs ++ y ∷ [])) (p y) (prefix_len-le-length (λ x. not (p x)) xs) (position_or_len_push p xs y) (length-append xs (y ∷ []))

-- a walk over the numbers that q has, among them all whose entries p has
module _ {X : Type 0} (p : X → Bool) (q : ℕ → Bool) (xs : List X) (d : X) (among : (k : ℕ) → k < length xs → p (get_or xs k d) ≡ true → q k ≡ true) where
  one_further : (m : ℕ) → m < length xs → position p (take (suc m) xs) ≡ cond (p (get_or xs m d)) (first_of (position p (take m xs)) m) (position p (take m xs))
  one_further m lt =
      ap (position p) (take-suc xs m d lt) ∙ position_push p (take m xs) (get_or xs m d)
      ∙ ap (λ k. cond (p (get_or xs m d)) (first_of (position p (take m xs)) k) (position p (take m xs))) (length-take m xs (omega (arith, lt)))

  passed_over : (m : ℕ) → m ≤ length xs → position p (take m xs) ≡ position p (take (last_below q m) xs)
  passed_over zero few = refl
  passed_over (suc m) few = by (q m) refl (passed_over m (omega (arith, few)))
    where
      fails : (t : Bool) → p (get_or xs m d) ≡ t → q m ≡ false → p (get_or xs m d) ≡ false
      fails true e out = absurd (false≢true (sym out ∙ among m (omega (arith, few)) e))
      fails false e out = e

      by : (t : Bool) → q m ≡ t → position p (take m xs) ≡ position p (take (last_below q m) xs) → position p (take (suc m) xs) ≡ position p (take (cond t (suc m) (last_below q m)) xs)
      by true e rest = refl
      by false e rest = one_further m (omega (arith, few)) ∙ ap (λ t. cond t (first_of (position p (take m xs)) m) (position p (take m xs))) (fails (p (get_or xs m d)) refl e) ∙ rest

  pub begun : or_else (position p (take (last_below q (length xs)) xs)) None ≡ position p xs
  begun = or_none (position p (take (last_below q (length xs)) xs)) ∙ sym (passed_over (length xs) (omega arith)) ∙ ap (position p) (take_all (length xs) xs (omega arith))

  -- one entry of the bucket after another
  pub one_earlier : (after n : ℕ) (found : Option ℕ) → 0 < after → n ≡ after - 1 → after ≤ length xs
      → or_else (position p (take (last_below q n) xs)) (cond (p (get_or xs n d)) (Some n) found) ≡ or_else (position p (take after xs)) found
  one_earlier after n found some is few =
      ap (λ o. or_else o (cond (p (get_or xs n d)) (Some n) found)) (sym (passed_over n (omega (arith, is, few))))
      ∙ by (p (get_or xs n d)) (position p (take n xs))
      ∙ ap (λ o. or_else o found) (sym (ap (λ k. position p (take k xs)) at ∙ one_further n (omega (arith, is, some, few))))
    where
      at : after ≡ suc n
      at = omega (arith, is, some)

      by : (t : Bool) (o : Option ℕ) → or_else o (cond t (Some n) found) ≡ or_else (cond t (first_of o n) o) found
      by true None = refl
      by true (Some k) = refl
      by false None = refl
      by false (Some k) = refl

-- ---- the keys of entries

pub keys_further : (by_parent : Bool) (es : List Entry) (n : ℕ) (e : Entry) → n < length es → e ≡ get_or es n e → keys_of by_parent (take (suc n) es) ≡ keys_of by_parent (take n es) ++ key_of by_parent e ∷ []
keys_further by_parent es n e lt is =
    ap (keys_of by_parent) (take-suc es n e lt ∙ ap (λ x. take n es ++ x ∷ []) (sym is)) ∙ map-append (key_of by_parent) (take n es) (e ∷ [])

-- an entry with this key is in its bucket
pub among_keys : (size : ℕ) (by_parent : Bool) (client key : List ℕ) (es : List Entry) (d : Entry) (k : ℕ) → k < length es → is_keyed by_parent client key (get_or es k d) ≡ true
    → is_in size (keys_of by_parent es) (bucket_of size key) k ≡ true
among_keys size by_parent client key es d k lt has =
    is_same (bucket_at size (keys_of by_parent es) k) (bucket_of size key)
    (ap (bucket_of size) (key_at by_parent es d k lt ∙ same_id_exact (key_of by_parent (get_or es k d)) key (and_parts (same_id (get_or es k d).client client) (same_id (key_of by_parent (get_or es k d)) key) has).1))
  where
    key_at : (by_parent : Bool) (es : List Entry) (d : Entry) (k : ℕ) → k < length es → get_or (keys_of by_parent es) k [] ≡ key_of by_parent (get_or es k d)
    key_at by_parent [] d k lt = absurd (omega (arith, lt))
    key_at by_parent (e ∷ es) d zero lt = refl
    key_at by_parent (e ∷ es) d (suc k) lt = key_at by_parent es d k (omega (arith, lt))

-- ---- a walk from the last entry of a bucket back

-- the first entry is one of those that are left, or else the one that was found last
pub record IsWalk (size : ℕ) (by_parent : Bool) (client key : List ℕ) (es : List Entry) (after : ℕ) (found : Option ℕ) : Type 0 where
  pub few : after ≤ length es
  pub first : or_else (position (is_keyed by_parent client key) (take after es)) found ≡ position (is_keyed by_parent client key) es
  pub bucket : 0 < after → bucket_at size (keys_of by_parent es) (after - 1) ≡ bucket_of size key

module _ (size : ℕ) (ends before : List ℕ) (by_parent : Bool) (client key : List ℕ) (es : List Entry) (is : AreBuckets size ends before (keys_of by_parent es)) where
  abbrev keys : List (List ℕ)
  keys = keys_of by_parent es

  abbrev q : ℕ → Bool
  q = is_in size keys (bucket_of size key)

  abbrev p : Entry → Bool
  p = is_keyed by_parent client key

  bucket_is : (n after : ℕ) → after ≡ last_below q n → 0 < after → bucket_at size keys (after - 1) ≡ bucket_of size key
  bucket_is n after at some =
      ap (λ k. bucket_at size keys (k - 1)) at ∙ is_equal (bucket_at size keys (last_below q n - 1)) (bucket_of size key) (passes_last q n (subst (λ k. 0 < k) at some))

  pub walk_begun : (after : ℕ) → after ≡ get_or ends (bucket_of size key) 0 → IsWalk size by_parent client key es after None
  walk_begun after read =
      let at : after ≡ last_below q (length es) = read ∙ last_of size ends before keys key is ∙ ap (last_below q) (length-map es (key_of by_parent)) in
      let d : Entry = record { client = []; id = []; parent = [] } in
      record {
        few = subst (λ k. k ≤ length es) (sym at) (few_below q (length es));
        first = ap (λ k. or_else (position p (take k es)) None) at ∙ begun p q es d (among_keys size by_parent client key es d);
        bucket = bucket_is (length es) after at;
      }

  walk_lower : (after n next : ℕ) (found : Option ℕ) → IsWalk size by_parent client key es after found → 0 < after → n ≡ after - 1 → next ≡ get_or before n 0 → next ≡ last_below q n
  walk_lower after n next found walk some minus read =
      let few = walk.few in
      let long = length-map es (key_of by_parent) in
      let bucket = ap (bucket_at size keys) minus ∙ walk.bucket some in
      read ∙ is.earlier n (omega (arith, few, some, minus, long)) ∙ ap (λ b. last_below (is_in size keys b) n) bucket

  -- it goes down
  pub walk_goes_down : (after n next : ℕ) (found : Option ℕ) → IsWalk size by_parent client key es after found → 0 < after → n ≡ after - 1 → next ≡ get_or before n 0 → next < after
  walk_goes_down after n next found walk some minus read =
      let at = walk_lower after n next found walk some minus read in
      let less = subst (λ k. k ≤ n) (sym at) (few_below q n) in
      omega (arith, less, some, minus)

  pub walk_further : (after n next : ℕ) (found : Option ℕ) (e : Entry) → IsWalk size by_parent client key es after found → 0 < after → n ≡ after - 1 → e ≡ get_or es n e → next ≡ get_or before n 0
      → IsWalk size by_parent client key es next (cond (p e) (Some n) found)
  walk_further after n next found e walk some minus there read =
      let few = walk.few in
      let inside : n < length es = omega (arith, few, some, minus) in
      let at = walk_lower after n next found walk some minus read in
      record {
        few = let less = subst (λ k. k ≤ n) (sym at) (few_below q n) in omega (arith, less, inside);
        first =
            (λ i. or_else (position p (take (at i) es)) (cond (p (there i)) (Some n) found))
            ∙ one_earlier p q es e (among_keys size by_parent client key es e) after n found some minus few ∙ walk.first;
        bucket = bucket_is n next at;
      }

  pub walk_ended : (after : ℕ) (found : Option ℕ) → IsWalk size by_parent client key es after found → after ≡ 0 → found ≡ position p es
  walk_ended after found walk none = sym (ap (λ k. or_else (position p (take k es)) found) none) ∙ walk.first
