use Rattle.std.proofs.Common.{◌++◌, sym, subst, codes, List, ℕ}
use Rattle.tw_ending.specs.Lines.{numbered, GotLine}
use Rattle.timew_cli.specs.Fault.{GotFault}
use Rattle.timew_cli.proofs.Unnamed.{is_short}
use Rattle.timew_cli.proofs.fault.put_fault.Goals as goal

pub returns-in-Edited : goal.returns-in-Edited
returns-in-Edited g c =
    subst (GotFault g.E.Sink.model c.args.err.now c.put_pieces.new.err) (sym c.in-Edited.is)
    (subst (λ (name : List ℕ). GotLine g.E.Sink.model c.args.err.now c.put_pieces.new.err (codes "timew: " ++ (name ++ codes " was edited\n"))) c.as_str.ensures c.put_pieces.ensures)

pub returns-in-BadLine : goal.returns-in-BadLine
returns-in-BadLine g c =
    subst (GotFault g.E.Sink.model c.args.err.now c.put_bad_line.new.err) (sym c.in-BadLine.is)
    (subst (λ (name : List ℕ). GotLine g.E.Sink.model c.args.err.now c.put_bad_line.new.err (numbered (codes "timew: line ") c.in-BadLine.line (codes " of ") ++ (name ++ codes " is no interval\n"))) c.as_str-in-BadLine.ensures c.put_bad_line.ensures)
