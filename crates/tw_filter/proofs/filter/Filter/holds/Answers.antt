use Rattle.tw_terms.specs.Scenes.{scene_of}
use Rattle.tw_filter.proofs.filter.Filter.holds.Goals as goal

pub all_hold-requires-clause-facts : goal.all_hold-requires-clause-facts
all_hold-requires-clause-facts c = c.none.ensures (scene_of c.args.view.now)
