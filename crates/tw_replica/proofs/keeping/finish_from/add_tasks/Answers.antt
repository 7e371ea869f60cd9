use Rattle.std.proofs.Common.{◌||◌, ℕ, List, map, ap, sym, ◌∙◌}
use Rattle.std.specs.BTreeSet as set
use Rattle.std.specs.Cmp.Lexicographic.{texts_ties}
use Rattle.tw_model.specs.Maps.{bytes_cmp, same_bytes}
use Rattle.tw_model.specs.Ops.{TaskValue}
use Rattle.tw_numbers.specs.Assigned.{is_among}
use Rattle.tw_numbers.proofs.FirstPlaces.{uuid_in}
use Rattle.tw_replica.proofs.TakingOver.{among_keys, or_again, or_none}
use Rattle.tw_replica.proofs.keeping.finish_from.add_tasks.Goals as goal

pub loop-uuid-preserved : goal.loop-uuid-preserved
loop-uuid-preserved c = λ u.
    let had = set.contains bytes_cmp c.loop-uuid.touched u in
    let rest = is_among (map uuid_in c.next.new.self) u in
    ap (λ b. b || rest) (c.in_ok-add_uuid.ensures u)
    ∙ or_again had (same_bytes u c.in-Some.uuid.now) rest
    ∙ ap (λ b. had || (b || rest)) (texts_ties u c.in-Some.uuid.now)
    ∙ ap (λ (es : List (List ℕ × TaskValue)). had || is_among (map uuid_in es) u) (sym c.in-Some.ensures.steps)
    ∙ c.loop-uuid.invariant u

pub returns : goal.returns
returns c = λ u.
    let had = set.contains bytes_cmp c.loop-uuid.touched u in
    sym (or_none had)
    ∙ ap (λ (es : List (List ℕ × TaskValue)). had || is_among (map uuid_in es) u) (sym c.in-None.ensures.steps.0)
    ∙ c.loop-uuid.invariant u
    ∙ ap (λ b. set.contains bytes_cmp c.args.touched.now u || b) (among_keys c.args.tasks.now u)
