use Rattle.std.proofs.Common.{◌≡◌, ◌∙◌, ap, sym}
use Rattle.std.specs.Vec.Iter.{into_iter_items}
use Rattle.tw_changes.specs.Makes.Import.{imports}
use Rattle.tw_changes.proofs.makes.import.imports.Goals as goal

pub loop-element-preserved : goal.loop-element-preserved
loop-element-preserved c = record {
  so_far = sym (c.in_ok-uuid.ensures.goes_on c.in_default.is (into_iter_items c.next.new.self))
      ∙ ap (λ es. imports c.loop-element.ids c.args.tasks.now c.loop-element.changes.items es) (sym c.in-Some.ensures.steps.0) ∙ c.loop-element.invariant.so_far;
  uuids = c.in_ok-uuid.ensures.uuids c.in_default.is;
}
