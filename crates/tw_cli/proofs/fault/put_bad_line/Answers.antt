use Rattle.std.proofs.Common.{◌∙◌, ◌++◌, subst, codes, List, ℕ}
use Rattle.tw_ending.specs.Lines.{GotLine}
use Rattle.tw_cli.proofs.fault.put_bad_line.Goals as goal

pub returns : goal.returns
returns g c =
    subst (λ (front : List ℕ). GotLine g.E.Sink.model c.args.err.now c.put_pieces.new.err (front ++ (c.args.file.now ++ codes " is no interval\n"))) (c.as_str.ensures.value ∙ c.numbered-front.ensures) c.put_pieces.ensures
