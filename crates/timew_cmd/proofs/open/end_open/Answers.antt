use Rattle.std.proofs.Common.{rules, ◌≡◌, List, [], ◌∷◌, ◌++◌, Some, ap, ◌∙◌, arith}
use Rattle.timew_interval.specs.declared.interval.Interval.{Interval}
use Rattle.timew_interval.specs.Placing.{spanning}
use Rattle.timew_cmd.specs.Open.{open_of, with_ended}
use Rattle.timew_cmd.proofs.PlacedAside.{front_is, has_last}
use Rattle.timew_cmd.proofs.open.end_open.Goals as goal

pub returns-in_ok-ending-in-Some-clause-ended : goal.returns-in_ok-ending-in-Some-clause-ended
returns-in_ok-ending-in-Some-clause-ended c =
    let rows = c.args.rows.now in
    let front = c.in-Some.front.now in
    let last = c.in-Some.open.now in
    let done : front ++ spanning last.start (Some c.args.at) last ∷ [] ≡ with_ended c.args.at rows (open_of rows) = search rules in
    ap (λ (l : List Interval). l ++ c.in_ok-ending-in-Some.field-0.items) (front_is front rows last c.in-Some.ensures.whole) ∙ ap (λ (l : List Interval). front ++ l) c.in_ok-ending-in-Some.ensures ∙ done

pub returns-in_ok-ending-in-Some-clause-inside : goal.returns-in_ok-ending-in-Some-clause-inside
returns-in_ok-ending-in-Some-clause-inside c = omega (arith, has_last c.in-Some.front.now c.args.rows.now c.in-Some.open.now c.in-Some.ensures.whole)
