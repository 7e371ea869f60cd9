use Rattle.std.proofs.Common.{◌≡◌, ◌-◌, ◌||◌, false, length, take, get_or, ap, ◌∙◌, arith}
use Rattle.std.proofs.lemmas.List.{take_all}
use Rattle.std.specs.List.{list_any}
use Rattle.tw_model.specs.Places.{id_of}
use Rattle.tw_urgency.specs.Dependencies.{is_that}
use Rattle.tw_terms.specs.Holds.{passes}
use Rattle.tw_filter.specs.NamedTasks.{uuid_in}
use Rattle.tw_filter.proofs.NamedTasks.{flags_and_uuids}
use Rattle.tw_filter.proofs.named_tasks.named_uuids.Goals as goal

pub returns : goal.returns
returns c = λ u.
    let places = c.args.places.now.items in
    let tokens = c.args.tokens.now in
    let flags = c.in_ok-flags.flags.items in
    let long : length flags ≡ length places = omega (arith, c.in_ok-flags.ensures.as_many) in
    let all : take c.loop-token.token-index tokens ≡ tokens = take_all c.loop-token.token-index tokens (omega arith) in
    c.loop-token.invariant u
    ∙ ap (λ ts. passes (λ id. get_or flags (id - 1) false) (id_of u places) || list_any (λ t. is_that u (uuid_in t)) ts) all
    ∙ flags_and_uuids places u tokens flags long c.in_ok-flags.ensures.flags
