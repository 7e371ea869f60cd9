use Rattle.std.proofs.Common.{sym, ap, ◌∙◌}
use Rattle.std.specs.Prelude.{option_map}
use Rattle.timew_month.specs.Exact.{read_of}
use Rattle.timew_month.proofs.GoodRows.{row_is}
use Rattle.timew_month.proofs.read.line.line_with.Goals as goal

pub returns-clause-is : goal.returns-clause-is
returns-clause-is c =
    let tail = c.in-Some.tail.now in
    row_is c.args.start c.args.end c.args.bytes.now tail.tags tail.annotation c.requires.start c.requires.end (sym (ap (option_map (λ t. read_of t.now)) (sym c.in-Some.is) ∙ c.in_ok-tail.ensures.value)) (sym c.is_end.ensures ∙ c.if-not-is_end.false)
