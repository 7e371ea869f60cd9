use Rattle.std.proofs.Common.{◌∙◌, ap, sym}
use Rattle.tw_numbers.specs.Numbering.{with_ranks}
use Rattle.tw_numbers.specs.Assigned.{vacated_all}
use Rattle.tw_numbers.proofs.Basics.{on_ok_map}
use Rattle.tw_numbers.proofs.AssignedByLooks.{looked, looked_once}
use Rattle.tw_numbers.proofs.VacatedPlaces.{look_on}
use Rattle.tw_numbers.proofs.indexed.assign_in.Goals as goal

pub loop-uuid-preserved : goal.loop-uuid-preserved
loop-uuid-preserved c =
    let so_far = c.loop-uuid.invariant in
    record {
      index = c.in_ok-look_at.ensures.index;
      places = ap (λ p. vacated_all c.args.tasks.now p c.next.new.self) c.in_ok-look_at.ensures.places ∙ ap (λ us. vacated_all c.args.tasks.now c.loop-uuid.places.items us) (sym c.in-Some.ensures.steps) ∙ so_far.places;
      ranks = look_on c.args.tasks.now c.loop-uuid.places.items c.look_at.new.places.items c.in-Some.uuid.now c.loop-uuid.ranks.keys c.look_at.new.ranks.keys c.next.new.self c.in_ok-look_at.ensures.places c.in_ok-look_at.ensures.ranks ∙ ap (λ us. with_ranks c.loop-uuid.places.items c.args.tasks.now c.loop-uuid.ranks.keys us) (sym c.in-Some.ensures.steps) ∙ so_far.ranks;
    }

pub push_places-requires-clause-once : goal.push_places-requires-clause-once
push_places-requires-clause-once c = looked_once c.args.places.now.items c.loop-uuid.places.items c.args.tasks.now c.args.touched.now.keys c.loop-uuid.ranks.keys c.requires.ready
    (ap (λ us. vacated_all c.args.tasks.now c.loop-uuid.places.items us) (sym c.in-None.ensures.steps.0) ∙ c.loop-uuid.invariant.places)
    (ap (λ us. with_ranks c.loop-uuid.places.items c.args.tasks.now c.loop-uuid.ranks.keys us) (sym c.in-None.ensures.steps.0) ∙ c.loop-uuid.invariant.ranks)

pub returns-clause-places : goal.returns-clause-places
returns-clause-places c = on_ok_map c.push_places.result c.push_places.ensures.places (λ e. e ∙ looked c.args.places.now.items c.loop-uuid.places.items c.args.tasks.now c.args.touched.now.keys c.loop-uuid.ranks.keys c.requires.ready
    (ap (λ us. vacated_all c.args.tasks.now c.loop-uuid.places.items us) (sym c.in-None.ensures.steps.0) ∙ c.loop-uuid.invariant.places)
    (ap (λ us. with_ranks c.loop-uuid.places.items c.args.tasks.now c.loop-uuid.ranks.keys us) (sym c.in-None.ensures.steps.0) ∙ c.loop-uuid.invariant.ranks))
