use Rattle.std.proofs.Common.{◌≡◌, ◌∙◌, [], List, ℕ, map, ap, subst, sym}
use Rattle.std.specs.FinMap.{entries}
use Rattle.tw_model.specs.Ops.{TaskValue}
use Rattle.tw_numbers.specs.Numbering.{with_ranks}
use Rattle.tw_numbers.proofs.FirstPlaces.{AreFound, entries_found, uuid_in}
use Rattle.tw_numbers.proofs.numbering.first_places.Goals as goal

pub loop-uuid-init : goal.loop-uuid-init
loop-uuid-init c =
    let all : c.into_iter-uuid-iterator.result ≡ entries c.args.tasks.now = c.into_iter-uuid-iterator.ensures.into_iter_gives ∙ c.iter-uuid-items.ensures.rest in (
      (λ i. with_ranks [] c.args.tasks.now (c.new-ranks.ensures.empty i) (map uuid_in (all i))),
      subst (AreFound c.args.tasks.now) (sym all) (entries_found c.args.tasks.now),
    )
