use Rattle.std.proofs.Common.{◌≡◌, ℕ, List, true, take}
use Rattle.std.specs.BTreeSet as tree
use Rattle.tw_model.specs.Maps.{bytes_cmp}
use Rattle.tw_numbers.specs.Numbering.{is_placed}
use Rattle.tw_numbers.specs.Assigned.{is_among}
use Rattle.tw_numbers.proofs.numbering.placed_among.Given as goal

abbrev pub invariant-loop-place : goal.invariant-loop-place
invariant-loop-place l = (u : List ℕ) → is_among l.touched.keys u ≡ true → tree.contains bytes_cmp l.placed u ≡ is_placed (take l.place-index l.numbers.items) u
