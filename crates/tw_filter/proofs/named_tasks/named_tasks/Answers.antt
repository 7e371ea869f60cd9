use Rattle.std.proofs.Common.{◌∙◌, sym}
use Rattle.tw_terms.specs.Scenes.{scene_of}
use Rattle.tw_filter.specs.Selected.{holds}
use Rattle.tw_filter.proofs.FoundEntries.{found_keys}
use Rattle.tw_filter.proofs.NamedTasks.{if_ok_with, holds_named}
use Rattle.tw_filter.proofs.named_tasks.named_tasks.Goals as goal

pub returns : goal.returns
returns c =
    let scene = scene_of c.args.view.now in
    let tokens = c.args.tokens.now in
    let keys = c.in_ok-named.named.keys in
    if_ok_with c.there.result (λ uuids rising is.
    is ∙ found_keys scene.tasks (holds scene tokens) keys rising (λ u task at. c.in_ok-named.ensures u ∙ sym (holds_named scene tokens u task c.requires at))) c.there.ensures.rising c.there.ensures.there
