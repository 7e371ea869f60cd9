use Rattle.std.proofs.Common.{◌≡◌, ◌+◌, ◌++◌, ◌∙◌, filter, length, ap, subst, sym, arith}
use Rattle.std.specs.FinMap.{entries, len-entries}
use Rattle.std.specs.Option.{option_copied}
use Rattle.tw_terms.specs.Scenes.{scene_of}
use Rattle.tw_filter.specs.Looked.{is_listed, keys_where}
use Rattle.tw_filter.specs.Selected.{holds}
use Rattle.tw_filter.proofs.Listed.{listed_few}
use Rattle.tw_filter.proofs.TaskEntries.{AreFound, entries_found}
use Rattle.tw_filter.proofs.filter.Filter.held.Goals as goal

pub loop-uuid-init : goal.loop-uuid-init
loop-uuid-init c =
    let scene = scene_of c.args.view.now in
    let p = is_listed (option_copied c.args.part) in
    let all : c.into_iter-uuid-iterator.result ≡ entries scene.tasks = c.into_iter-uuid-iterator.ensures.into_iter_gives ∙ c.iter-uuid-items.ensures.rest in
    let few = listed_few p (entries scene.tasks) in
    record {
      held = λ i. c.in_ok-uuids.ensures.items i ++ filter (holds scene c.args.self.now) (keys_where p (all i));
      counted = ap (λ es. c.args.looks.now + length (keys_where p es)) all;
      within = omega arith;
      few = omega (arith, few, len-entries scene.tasks, c.len.ensures);
      found = subst (AreFound scene.tasks) (sym all) (entries_found scene.tasks);
    }
