-- Tags and intervals in order.
use Rattle.std.proofs.Common.{◌≡◌, ℕ, ◌≤◌, Bool, true, false, ◌&&◌, List, [], ◌∷◌, length, Option, Some, None, refl, ap, ◌∙◌, arith}
use Rattle.std.proofs.lemmas.Bool.{leb-true}
use Rattle.std.specs.List.{list_all, AllByRecursion}
use Rattle.std.specs.declared.cmp.Ordering.{Ordering}
use Rattle.std.specs.declared.cmp.Ordering.TheVariants.{Less, Equal, Greater}
use Rattle.std.specs.Ordering.{is_lt, ordering_reverse}
use Rattle.std.specs.FinMap.Entries.{by_order}
use Rattle.std.proofs.lemmas.Cmp.{nat_list_cmp_total}
use Rattle.tw_world.specs.Folder.{bytes_cmp, add_name as add_tag}
use Rattle.timew_interval.specs.declared.interval.Interval.{Interval}
use Rattle.timew_interval.specs.Interval.{IsRow, AreRows, EndsBy, is_tag, tags_rise, tags_rise_from, ends_by, in_order}
use Rattle.timew_interval.proofs.Tests.{both_true}

abbrev pub AreTags : List (List ℕ) → Type 0
AreTags tags = (list_all is_tag tags ≡ true) × (tags_rise tags ≡ true)

turned : (o : Ordering) → ordering_reverse o ≡ Less → o ≡ Greater
turned Less e = absurd (cc)
turned Equal e = absurd (cc)
turned Greater e = refl

less_back : (a b : List ℕ) → bytes_cmp a b ≡ Greater → bytes_cmp b a ≡ Less
less_back a b is = nat_list_cmp_total.antisymm b a ∙ ap ordering_reverse is

lt_is : (o : Ordering) → o ≡ Less → is_lt o ≡ true
lt_is o e = ap is_lt e

pub parts : (a b : Bool) → a && b ≡ true → (a ≡ true) × (b ≡ true)
parts true b e = (refl, e)
parts false b e = absurd (cc)

rise_from : (u t : List ℕ) (tags : List (List ℕ)) → bytes_cmp u t ≡ Less → tags_rise_from u tags ≡ true → tags_rise_from u (add_tag t tags) ≡ true
rise_from u t [] below rise = both_true _ true (lt_is _ below) refl
rise_from u t (v ∷ tags) below rise =
    let p = parts _ _ rise in
    by_case (bytes_cmp t v) refl p (λ after. rise_from v t tags (less_back t v after) p.1)
  where
    by_case : (o : Ordering) → bytes_cmp t v ≡ o → (is_lt (bytes_cmp u v) ≡ true) × (tags_rise_from v tags ≡ true) → (bytes_cmp t v ≡ Greater → tags_rise_from v (add_tag t tags) ≡ true) → tags_rise_from u (by_order o (t ∷ v ∷ tags) (v ∷ tags) (v ∷ add_tag t tags)) ≡ true
    by_case Less is p rest = both_true _ _ (lt_is _ below) (both_true _ _ (lt_is _ is) p.1)
    by_case Equal is p rest = both_true _ _ p.0 p.1
    by_case Greater is p rest = both_true _ _ p.0 (rest is)

rise_added : (t : List ℕ) (tags : List (List ℕ)) → tags_rise tags ≡ true → tags_rise (add_tag t tags) ≡ true
rise_added t [] rise = refl
rise_added t (v ∷ tags) rise = by_case (bytes_cmp t v) refl
  where
    by_case : (o : Ordering) → bytes_cmp t v ≡ o → tags_rise (by_order o (t ∷ v ∷ tags) (v ∷ tags) (v ∷ add_tag t tags)) ≡ true
    by_case Less is = both_true _ _ (lt_is _ is) rise
    by_case Equal is = rise
    by_case Greater is = rise_from v t tags (less_back t v is) rise

all_added : (t : List ℕ) (tags : List (List ℕ)) → is_tag t ≡ true → list_all is_tag tags ≡ true → list_all is_tag (add_tag t tags) ≡ true
all_added t [] is all = both_true _ true is refl
all_added t (v ∷ tags) is all = by_case (bytes_cmp t v) (all_added t tags is (parts _ _ all).1)
  where
    by_case : (o : Ordering) → list_all is_tag (add_tag t tags) ≡ true → list_all is_tag (by_order o (t ∷ v ∷ tags) (v ∷ tags) (v ∷ add_tag t tags)) ≡ true
    by_case Less rest = both_true _ _ is all
    by_case Equal rest = all
    by_case Greater rest = both_true _ _ (parts _ _ all).0 rest

pub tags_added : (t : List ℕ) (tags : List (List ℕ)) → is_tag t ≡ true → AreTags tags → AreTags (add_tag t tags)
tags_added t tags is are = (all_added t tags is are.0, rise_added t tags are.1)

-- intervals, each of which ends before the next one starts
pub are_rows_in_order : (rows : List Interval) → AllByRecursion IsRow rows → in_order rows ≡ true → AreRows rows
are_rows_in_order [] all order = tt
are_rows_in_order (r ∷ []) all order = (all.0, tt, tt)
are_rows_in_order (r ∷ next ∷ rows) all order = let p = parts _ _ order in (all.0, ends r.end next.start p.0, are_rows_in_order (next ∷ rows) all.1 p.1)
  where
    ends : (end : Option ℕ) (start : ℕ) → ends_by end start ≡ true → EndsBy end start
    ends None start is = absurd (cc)
    ends (Some e) start is = leb-true e start is

pub short_in_order : (rows : List Interval) → length rows ≤ 1 → in_order rows ≡ true
short_in_order [] le = refl
short_in_order (r ∷ []) le = refl
short_in_order (r ∷ next ∷ rows) le = absurd (omega arith)
