use Rattle.std.proofs.Common.{◌∙◌, sym, ap}
use Rattle.std.proofs.lemmas.List.{take_rest}
use Rattle.std.specs.Prelude.{option_map}
use Rattle.tw.specs.Asked.{after_client}
use Rattle.tw.proofs.Requests.{next_place}
use Rattle.tw.proofs.asked.client_of.Goals as goal

pub loop-at-preserved : goal.loop-at-preserved
loop-at-preserved c =
    let at = c.loop-at.at in
    let front = c.args.front.now in
    let none = ap after_client (sym (take_rest front at)) ∙ sym c.after_client.ensures ∙ ap (λ found. option_map (λ value. value.now) found) c.in-None.is in
    next_place at front none ∙ c.loop-at.invariant
