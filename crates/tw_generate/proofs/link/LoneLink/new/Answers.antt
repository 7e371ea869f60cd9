use Rattle.std.proofs.Common.{rules}
use Rattle.tw_generate.proofs.Links.{new_without_script, new_is_alone}
use Rattle.tw_generate.proofs.link.LoneLink.new.Goals as goal

pub invariant_of-result : goal.invariant_of-result
invariant_of-result c = record { alone = new_is_alone c.args.client c.args.ids _ c.in_ok-link.link c.in_ok-link.ensures (search rules) }

pub returns : goal.returns
returns c = new_without_script c.args.client c.args.ids _ c.in_ok-link.link c.in_ok-link.ensures (search rules)
