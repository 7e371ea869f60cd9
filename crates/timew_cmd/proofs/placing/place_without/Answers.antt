use Rattle.std.proofs.Common.{◌≡◌, ℕ, Bool, List, Option, None, Ok, sym, ap, ◌∙◌}
use Rattle.timew_interval.specs.declared.interval.Interval.{Interval}
use Rattle.timew_interval.specs.Placing.{placed}
use Rattle.timew_cmd.specs.Numbers.{numbered, without, rows_in}
use Rattle.timew_cmd.specs.Placing.{overlapped, unless_overlapped, place}
use Rattle.timew_cmd.proofs.placing.place_without.Goals as goal

pub returns-clause-placed : goal.returns-clause-placed
returns-clause-placed c =
    let new = c.args.new in
    let rows = c.args.rows.now in
    let ids = c.args.ids.now.given.now in
    let those = without ids (numbered rows) in
    let none : overlapped new those ≡ None = sym c.in_default.ensures in
    ap (λ (b : Bool). place b new ids rows) c.if-adjust.false ∙ ap (λ (o : Option ℕ). unless_overlapped o (placed new (rows_in those))) none
    ∙ ap (λ (l : List Interval). Ok l) (sym c.in_ok-placed_edit-2.ensures.placed)
