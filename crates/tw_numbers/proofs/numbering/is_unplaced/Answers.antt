use Rattle.std.proofs.Common.{◌∙◌, ap, sym, not, ◌&&◌}
use Rattle.tw_numbers.specs.Numbering.{is_open, is_placed}
use Rattle.tw_numbers.proofs.numbering.is_unplaced.Goals as goal

pub returns-then-is_open : goal.returns-then-is_open
returns-then-is_open c = λ places tasks same has. ap not (c.contains.ensures ∙ same) ∙ ap (λ b. b && not (is_placed places c.args.uuid)) (sym c.if-is_open.true ∙ c.is_open.ensures ∙ ap is_open has)

pub returns-else-is_open : goal.returns-else-is_open
returns-else-is_open c = λ places tasks same has. c.if-is_open.false ∙ ap (λ b. b && not (is_placed places c.args.uuid)) (sym c.if-is_open.false ∙ c.is_open.ensures ∙ ap is_open has)
