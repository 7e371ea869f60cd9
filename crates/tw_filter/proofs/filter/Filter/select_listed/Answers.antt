use Rattle.std.proofs.Common.{◌≡◌, ◌+◌, ◌∙◌, filter, length, ap, subst, IfOk, OnOk}
use Rattle.std.specs.Option.{option_copied}
use Rattle.tw_terms.specs.Scenes.{scene_of}
use Rattle.tw_filter.specs.Looked.{listed, listing_part}
use Rattle.tw_filter.specs.Selected.{holds}
use Rattle.tw_filter.proofs.Listed.{chosen_of_listed}
use Rattle.tw_filter.proofs.filter.Filter.select_listed.Goals as goal

pub returns-clause-selected : goal.returns-clause-selected
returns-clause-selected c =
    let scene = scene_of c.args.view.now in
    let tokens = c.args.self.now in
    let part : option_copied c.listing_part.result ≡ listing_part tokens = c.listing_part.ensures ∙ ap listing_part (c.deref-2.ensures.value ∙ c.self.view_is) in
    subst (λ us. IfOk c.held.result (λ uuids. uuids.items ≡ us)) (ap (λ o. filter (holds scene tokens) (listed o scene.tasks)) part ∙ chosen_of_listed scene tokens) c.held.ensures.held

pub returns-clause-counted : goal.returns-clause-counted
returns-clause-counted c =
    let part : option_copied c.listing_part.result ≡ listing_part c.args.self.now = c.listing_part.ensures ∙ ap listing_part (c.deref-2.ensures.value ∙ c.self.view_is) in
    subst (λ o. OnOk c.held.result (c.held.new.looks ≡ c.args.looks.now + length (listed o c.args.view.now.tasks.now))) part c.held.ensures.counted
