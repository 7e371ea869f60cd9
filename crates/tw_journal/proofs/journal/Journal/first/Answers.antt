use Rattle.std.proofs.Common.{◌∙◌, arith}
use Rattle.std.proofs.lemmas.Grind.{get_or_default_zero}
use Rattle.tw_journal.proofs.journal.Journal.first.Goals as goal

pub returns : goal.returns
returns g c = record {
  first = λ magic bodies on. c.index.ensures ∙ get_or_default_zero c.args.self.now.firsts.items c.args.n c.index.result.now (omega arith) ∙ on.firsts c.args.n (omega arith);
}
