-- A loop over the items of an array or the members of an object: what was read, and what is left.
use Rattle.std.proofs.Common.{◌≡◌, ℕ, ◌-◌, ◌<◌, ◌≤◌, List, [], ◌∷◌, ◌++◌, length, Some, None, refl, ap, sym, subst, ◌∙◌, arith}
use Rattle.json.specs.Token.{Token}
use Rattle.json.specs.Json.{parse_map, after_end_array, read_key, items, members, value}
use Rattle.json.proofs.Grammar.{read_key-shorter}
use Rattle.serde_json.specs.Data.{Data, no_items, Members, no_members, put}
use Rattle.serde_json.specs.Read.{of_items, of_members, converted}
use Rattle.tw_import.specs.Passing.{value_at, items_at, members_at}
use Rattle.tw_import.proofs.GrammarLoops.{item_read, item_refused, items_over, member_read, member_refused, key_refused, members_over}
use Rattle.tw_import.proofs.LoopTurns.{items_after, one_more_item, none_yet}

-- after these items the tokens are left
pub record HasItems (depth : ℕ) (all left : List Token) (ds : List Data) : Type 0 where
  pub fuel : ℕ
  pub enough : length left ≤ fuel
  pub so_far : items_at depth all ≡ parse_map (items_after ds) (converted of_items (items (value depth) fuel left))
  pub shorter : length left ≤ length all

-- after these members the tokens are left
pub record HasMembers (depth : ℕ) (all left : List Token) (ms : Members) : Type 0 where
  pub fuel : ℕ
  pub enough : length left ≤ fuel
  pub so_far : members_at depth all ≡ converted (λ more. of_members more ms) (members (value depth) fuel left)
  pub shorter : length left ≤ length all

module _ (depth : ℕ) (all : List Token) where
  pub no_items_yet : HasItems depth all all []
  no_items_yet = record { fuel = length all; enough = omega arith; so_far = none_yet (items_at depth all); shorter = omega arith }

  pub no_members_yet : HasMembers depth all all no_members
  no_members_yet = record { fuel = length all; enough = omega arith; so_far = refl; shorter = omega arith }

  module _ (left : List Token) (ds : List Data) (h : HasItems depth all left ds) where
    pub one_more : (same rest : List Token) (d : Data) → (after_end_array left ≡ None) × (same ≡ left) → value_at depth same ≡ Some (d, rest) → length rest < length same → HasItems depth all rest (ds ++ d ∷ [])
    one_more same rest d going there less =
        let less_left : length rest < length left = subst (λ ts. length rest < length ts) going.1 less in
        let turn = item_read (value depth) h.fuel left rest d (omega (arith, h.enough, less_left)) going.0 (ap (value_at depth) (sym going.1) ∙ there) in record {
          fuel = h.fuel - 1;
          enough = omega (arith, h.enough, less_left);
          so_far = h.so_far ∙ ap (parse_map (items_after ds)) turn ∙ one_more_item ds d (converted of_items (items (value depth) (h.fuel - 1) rest));
          shorter = omega (arith, h.shorter, less_left);
        }

    pub not_one_more : (same : List Token) → (after_end_array left ≡ None) × (same ≡ left) → value_at depth same ≡ None → items_at depth all ≡ None
    not_one_more same going none = h.so_far ∙ ap (parse_map (items_after ds)) (item_refused (value depth) h.fuel left going.0 (ap (value_at depth) (sym going.1) ∙ none))

    pub all_items : (rest : List Token) → after_end_array left ≡ Some rest → items_at depth all ≡ Some (items_after ds no_items, rest)
    all_items rest over = h.so_far ∙ ap (parse_map (items_after ds)) (items_over (value depth) h.fuel left rest h.enough over)

  module _ (left : List Token) (ms : Members) (h : HasMembers depth all left ms) where
    pub one_more_member : (k : List ℕ) (s rest : List Token) (d : Data) → read_key left ≡ Some (Some k, s) → value_at depth s ≡ Some (d, rest) → length rest < length s → HasMembers depth all rest (put k d ms)
    one_more_member k s rest d key there less =
        let less_left : length s < length left = read_key-shorter left (Some k) s key in record {
          fuel = h.fuel - 1;
          enough = omega (arith, h.enough, less_left, less);
          so_far = h.so_far ∙ member_read (value depth) ms h.fuel k left s rest d (omega (arith, h.enough, less_left)) key there;
          shorter = omega (arith, h.shorter, less_left, less);
        }

    pub not_one_more_member : (k : List ℕ) (s : List Token) → read_key left ≡ Some (Some k, s) → value_at depth s ≡ None → members_at depth all ≡ None
    not_one_more_member k s key none = h.so_far ∙ member_refused (value depth) ms h.fuel k left s key none

    pub no_key : read_key left ≡ None → members_at depth all ≡ None
    no_key none = h.so_far ∙ key_refused (value depth) ms h.fuel left none

    pub all_members : (rest : List Token) → read_key left ≡ Some (None, rest) → members_at depth all ≡ Some (ms, rest)
    all_members rest over = h.so_far ∙ members_over (value depth) ms h.fuel left rest h.enough over
