-- The values of members, and the fields that they are.
use Rattle.std.specs.Prelude.{ℕ, List, [], ◌∷◌, map, Option, option_map}
use Rattle.std.specs.Ordering.{match_ordering}
use Rattle.std.specs.Global.{Vec}
use Rattle.tw_model.specs.Maps.{bytes_cmp}
use Rattle.tw_model.specs.Ops.{TaskValue}
use Rattle.tw_import.specs.Meanings.{Item, tag, dependency, annotation, Meaning, nothing, bad, identity, value, items}
use Rattle.tw_import.specs.Import.{with_items, Field}
use Rattle.tw_import.specs.declared.member_value.MemberValue.{MemberValue}
use Rattle.tw_import.specs.declared.member_value.MemberValue.TheVariants as member_value
use Rattle.tw_import.specs.declared.member_value.MemberItem.{MemberItem}
use Rattle.tw_import.specs.declared.member_value.MemberItem.TheVariants as member_item

abbrev pub item_in : MemberItem → Item
item_in (member_item.Tag text) = tag text
item_in (member_item.Dependency u) = dependency u
item_in (member_item.Annotation at text) = annotation at text

abbrev pub items_in : List MemberItem → List Item
items_in is = map item_in is

-- the items of a list, if there is one
abbrev pub list_in : Option (Vec MemberItem) → Option (List Item)
list_in found = option_map (λ v. items_in v.items) found

abbrev pub meaning_of : MemberValue → Meaning
meaning_of member_value.Nothing = nothing
meaning_of member_value.Bad = bad
meaning_of (member_value.Identity u) = identity u
meaning_of (member_value.Value text) = value text
meaning_of (member_value.Items v) = items (items_in v.items)

-- the fields of a map from names
abbrev pub fields_in : List (List ℕ × MemberValue) → List Field
fields_in entries = map (λ e. (e.0, meaning_of e.1)) entries

-- the fields, with that of a member in its place; of those with one name the last counts
abbrev pub with_field : List ℕ → Meaning → List Field → List Field
with_field k t [] = (k, t) ∷ []
with_field k t (f ∷ fs) = match_ordering (bytes_cmp k f.0) ((k, t) ∷ f ∷ fs) ((f.0, t) ∷ fs) (f ∷ with_field k t fs)

-- a task with the items of lists, one after another
abbrev pub with_each : TaskValue → List (Vec MemberItem) → TaskValue
with_each task [] = task
with_each task (v ∷ vs) = with_each (with_items task (items_in v.items)) vs
