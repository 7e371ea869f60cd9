use Rattle.std.proofs.Common.{ap}
use Rattle.tw_terms.specs.Cuts.{round}
use Rattle.tw_settings.proofs.Newlines.{parted_at}
use Rattle.tw_settings.proofs.pair.parted_at_newline.Goals as goal

pub returns-in-Some : goal.returns-in-Some
returns-in-Some c = parted_at 10 c.args.text.now c.in-Some.at c.in-Some.ensures

pub returns-in-None : goal.returns-in-None
returns-in-None c = ap (round c.args.text.now) c.in-None.ensures
