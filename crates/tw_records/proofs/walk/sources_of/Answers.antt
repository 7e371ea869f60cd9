use Rattle.tw_records.proofs.Inside.{walked_inside, if_ok_weaker}
use Rattle.tw_records.proofs.walk.sources_of.Goals as goal

pub returns-clause-inside : goal.returns-clause-inside
returns-clause-inside c = if_ok_weaker c.walk_back.result (λ sources walked. walked_inside c.args.kinds.now sources.items walked) c.walk_back.ensures
