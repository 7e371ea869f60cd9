-- A loop over the members of an object: what has been put in, and what is left.
use Rattle.std.proofs.Common.{◌≡◌, ℕ, zero, suc, ◌-◌, ◌<◌, ◌≤◌, List, [], length, Option, Some, None, option_map, option_and_then, refl, ap, ◌∙◌, arith}
use Rattle.json.specs.Token.{Token}
use Rattle.json.specs.Json.{Json, Members, member, Parse, parse_map, read_key, members_step, members, value}
use Rattle.json.proofs.Grammar.{left, read_key-shorter, skip_value-shorter, members_end, members_no_key, members_more}
use Rattle.tw_snapshot.specs.Snapshot.{put_members}
use Rattle.tw_snapshot.specs.Reading.{converted}

-- a value that was read and converted
abbrev value_in : {B : Type 0} → B → Option (B × List Token) → B
value_in b None = b
value_in b (Some p) = p.0

abbrev rest_in : {B : Type 0} → Option (B × List Token) → List Token
rest_in None = []
rest_in (Some p) = p.1

found : {B : Type 0} (b : B) (r s : List Token) (o : Option B) → option_map {U = B × List Token} (λ x. (x, s)) o ≡ Some (b, r) → (s ≡ r) × (o ≡ Some b)
found b r s None e = absurd (cc)
found b r s (Some x) e = (ap rest_in e, ap (λ o. Some (value_in x o)) e)

pub converted_some : {A B : Type 0} (f : A → Option B) (o : Option (A × List Token)) (b : B) (r : List Token) → converted f o ≡ Some (b, r) → (a : A) × (o ≡ Some (a, r)) × (f a ≡ Some b)
converted_some f None b r e = absurd (cc)
converted_some f (Some p) b r e = let both = found b r p.1 (f p.0) e in (p.0, ap (λ s. Some (p.0, s)) both.0, both.1)

refused : {B : Type 0} (r : List Token) (x : Option B) → option_map {U = B × List Token} (λ y. (y, r)) x ≡ None → x ≡ None
refused r None e = refl
refused r (Some y) e = absurd (cc)

-- a value that was read and converted took a token
pub converted-shorter : {B : Type 0} (f : Json → Option B) (d : ℕ) (ts r : List Token) (b : B) → converted f (value d ts) ≡ Some (b, r) → length r < length ts
converted-shorter f d ts r b e = skip_value-shorter d ts r (ap left (converted_some f (value d ts) b r e).1)

module _ {A : Type 0} (put : A → List ℕ → Json → Option A) where
  with_member : (a b : A) (k : List ℕ) (j : Json) → put a k j ≡ Some b → (o : Option (Members × List Token)) → converted (put_members put a) (parse_map (member k j) o) ≡ converted (put_members put b) o
  with_member a b k j e None = refl
  with_member a b k j e (Some p) = ap (λ x. option_map (λ c. (c, p.1)) (option_and_then (λ c. put_members put c p.0) x)) e

  without_member : (a : A) (k : List ℕ) (j : Json) → put a k j ≡ None → (o : Option (Members × List Token)) → converted (put_members put a) (parse_map (member k j) o) ≡ None
  without_member a k j e None = refl
  without_member a k j e (Some p) = ap (λ x. option_map (λ c. (c, p.1)) (option_and_then (λ c. put_members put c p.0) x)) e

  module _ (p : Parse Json) (a : A) where
    member_put : (n : ℕ) (k : List ℕ) (ts s r : List Token) (b : A) → 0 < n → read_key ts ≡ Some (Some k, s) → converted (put a k) (p s) ≡ Some (b, r)
        → converted (put_members put a) (members p n ts) ≡ converted (put_members put b) (members p (n - 1) r)
    member_put n k ts s r b some key e =
        let j = converted_some (put a k) (p s) b r e in
        ap (converted (put_members put a)) (members_more p n k ts s r j.0 some key j.1) ∙ with_member a b k j.0 j.2 _

    no_member : (k : List ℕ) (more : Parse Members) (o : Option (Json × List Token)) → converted (put a k) o ≡ None
        → converted (put_members put a) (option_and_then (λ q. parse_map (member k q.0) (more q.1)) o) ≡ None
    no_member k more None e = refl
    no_member k more (Some q) e = without_member a k q.0 (refused q.1 (put a k q.0) e) (more q.1)

    member_refused : (n : ℕ) (k : List ℕ) (ts s : List Token) → read_key ts ≡ Some (Some k, s) → converted (put a k) (p s) ≡ None → converted (put_members put a) (members p n ts) ≡ None
    unfolding members
    member_refused zero k ts s key e = refl
    member_refused (suc n) k ts s key e =
        ap (λ o. converted (put_members put a) (option_and_then (λ q. members_step p (members p n) q.0 q.1) o)) key ∙ no_member k (members p n) (p s) e

-- after the members that lead from one value to another the tokens are left
pub record HasPut {A : Type 0} (put : A → List ℕ → Json → Option A) (depth : ℕ) (all left : List Token) (first now : A) : Type 0 where
  pub fuel : ℕ
  pub enough : length left ≤ fuel
  pub so_far : converted (put_members put first) (members (value depth) (length all) all) ≡ converted (put_members put now) (members (value depth) fuel left)

module _ {A : Type 0} (put : A → List ℕ → Json → Option A) (depth : ℕ) (all : List Token) (first : A) where
  pub none_yet : HasPut put depth all all first first
  none_yet = record { fuel = length all; enough = omega arith; so_far = refl }

  module _ (left : List Token) (now : A) (h : HasPut put depth all left first now) where
    -- the key and the value after it took tokens
    pub less_left : (k : List ℕ) (s r : List Token) (b : A) → read_key left ≡ Some (Some k, s) → converted (put now k) (value depth s) ≡ Some (b, r) → length r < length left
    less_left k s r b key e = omega (arith, read_key-shorter left (Some k) s key, converted-shorter (put now k) depth s r b e)

    pub one_more : (k : List ℕ) (s r : List Token) (b : A) → read_key left ≡ Some (Some k, s) → converted (put now k) (value depth s) ≡ Some (b, r) → HasPut put depth all r first b
    one_more k s r b key e =
        let less = less_left k s r b key e in record {
          fuel = h.fuel - 1;
          enough = omega (arith, h.enough, less);
          so_far = h.so_far ∙ member_put put (value depth) now h.fuel k left s r b (omega (arith, h.enough, less)) key e;
        }

    pub not_one_more : (k : List ℕ) (s : List Token) → read_key left ≡ Some (Some k, s) → converted (put now k) (value depth s) ≡ None → converted (put_members put first) (members (value depth) (length all) all) ≡ None
    not_one_more k s key e = h.so_far ∙ member_refused put (value depth) now h.fuel k left s key e

    pub no_key : read_key left ≡ None → converted (put_members put first) (members (value depth) (length all) all) ≡ None
    no_key e = h.so_far ∙ ap (converted (put_members put now)) (members_no_key (value depth) h.fuel left e)

    pub all_put : (r : List Token) → read_key left ≡ Some (None, r) → converted (put_members put first) (members (value depth) (length all) all) ≡ Some (now, r)
    all_put r e = h.so_far ∙ ap (converted (put_members put now)) (members_end (value depth) h.fuel left r h.enough e)
