use Rattle.std.proofs.Common.{subst, List, ℕ}
use Rattle.tw_ending.specs.Lines.{GotLine}
use Rattle.tw_ending.proofs.Lined.{any_line, no_line}
use Rattle.tw_ending.proofs.line.put_line.Goals as goal

pub returns-then-not-is_empty : goal.returns-then-not-is_empty
returns-then-not-is_empty g c = any_line g.E.Sink.model c.args.err.now c.put_text.new.err c.args.line.now.bytes c.as_str-text.result.now c.is_empty.result c.as_str-text.ensures.value c.is_empty.ensures c.if-not-is_empty.true
    (subst (λ (text : List ℕ). GotLine g.E.Sink.model c.args.err.now c.put_text.new.err text) c.as_str-text.ensures.value c.put_text.ensures)

pub returns-else-not-is_empty : goal.returns-else-not-is_empty
returns-else-not-is_empty g c = no_line g.E.Sink.model c.args.err.now c.args.line.now.bytes c.as_str-text.result.now c.is_empty.result c.as_str-text.ensures.value c.is_empty.ensures c.if-not-is_empty.false
