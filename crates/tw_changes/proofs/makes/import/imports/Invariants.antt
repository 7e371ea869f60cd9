-- the changes of what is left, after those so far, are all
use Rattle.std.proofs.Common.{◌≡◌, List, ℕ, []}
use Rattle.std.specs.BTreeSet as set
use Rattle.std.specs.Vec.Iter.{into_iter_items}
use Rattle.tw_model.specs.Maps.{bytes_cmp}
use Rattle.tw_changes.specs.Makes.Import.{is_changed, imports}
use Rattle.tw_changes.proofs.makes.import.imports.Given as goal

abbrev pub invariant-loop-element : goal.invariant-loop-element
invariant-loop-element l = record {
  so_far : imports l.ids l.tasks l.changes.items (into_iter_items l.element-iterator) ≡ imports l.fn.ids l.tasks [] l.fn.elements.items;
  uuids : (u : List ℕ) → set.contains bytes_cmp l.uuids u ≡ is_changed l.changes.items u;
}
