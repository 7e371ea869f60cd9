-- The items of lists, one list after another.
use Rattle.std.proofs.Common.{◌≡◌, refl, List, [], ◌∷◌, ◌++◌}
use Rattle.std.specs.Global.{Vec}
use Rattle.tw_model.specs.Ops.{TaskValue}
use Rattle.tw_import.specs.Import.{with_items}
use Rattle.tw_import.specs.MemberValues.{items_in, with_each}
use Rattle.tw_import.specs.declared.member_value.MemberItem.{MemberItem}

-- a list more
pub with_each_push : (task : TaskValue) (vs : List (Vec MemberItem)) (v : Vec MemberItem) → with_each task (vs ++ v ∷ []) ≡ with_items (with_each task vs) (items_in v.items)
with_each_push task [] v = refl
with_each_push task (w ∷ vs) v = with_each_push (with_items task (items_in w.items)) vs v
