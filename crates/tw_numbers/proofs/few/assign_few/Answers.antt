use Rattle.std.proofs.Common.{◌∙◌, ap, sym, subst}
use Rattle.tw_numbers.specs.Numbering.{with_ranks}
use Rattle.tw_numbers.specs.Assigned.{IsOnce, vacated_all}
use Rattle.tw_numbers.proofs.Basics.{on_ok_map}
use Rattle.tw_numbers.proofs.AssignedByLooks.{looked}
use Rattle.tw_numbers.proofs.FoundByScan.{once_vacated}
use Rattle.tw_numbers.proofs.VacatedPlaces.{look_on}
use Rattle.tw_numbers.proofs.few.assign_few.Goals as goal

pub loop-uuid-preserved : goal.loop-uuid-preserved
loop-uuid-preserved c = λ once.
    let so_far = c.loop-uuid.invariant once in
    let places = c.in_ok-look_for.ensures.places so_far.once in
    let tasks = c.args.tasks.now in
    record {
      once = subst IsOnce (sym places) (once_vacated tasks c.loop-uuid.places.items c.in-Some.uuid.now so_far.once);
      places = ap (λ p. vacated_all tasks p c.next.new.self) places ∙ ap (λ us. vacated_all tasks c.loop-uuid.places.items us) (sym c.in-Some.ensures.steps) ∙ so_far.places;
      ranks = look_on tasks c.loop-uuid.places.items c.look_for.new.places.items c.in-Some.uuid.now c.loop-uuid.ranks.keys c.look_for.new.ranks.keys c.next.new.self places c.in_ok-look_for.ensures.ranks ∙ ap (λ us. with_ranks c.loop-uuid.places.items tasks c.loop-uuid.ranks.keys us) (sym c.in-Some.ensures.steps) ∙ so_far.ranks;
    }

pub returns : goal.returns
returns c = on_ok_map c.push_ranks.result c.push_ranks.ensures (λ e. λ ready.
    let so_far = c.loop-uuid.invariant ready.assigned.once in
    e ∙ looked c.args.places.now.items c.loop-uuid.places.items c.args.tasks.now c.args.touched.now.keys c.loop-uuid.ranks.keys ready
    (ap (λ us. vacated_all c.args.tasks.now c.loop-uuid.places.items us) (sym c.in-None.ensures.steps.0) ∙ so_far.places)
    (ap (λ us. with_ranks c.loop-uuid.places.items c.args.tasks.now c.loop-uuid.ranks.keys us) (sym c.in-None.ensures.steps.0) ∙ so_far.ranks))
