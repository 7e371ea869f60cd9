use Rattle.std.proofs.Common.{is_some, rules}
use Rattle.std.proofs.lemmas.Fn.{filter_same}
use Rattle.tw_numbers.proofs.numbering.pack.Goals as goal

pub returns : goal.returns
returns c = filter_same _ is_some _ (λ x b f k. search rules) c.args.numbers.now.items c.retain.new.self.items c.retain.ensures.filtered
