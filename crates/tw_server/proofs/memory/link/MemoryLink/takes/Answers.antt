use Rattle.std.proofs.Common.{◌∙◌, sym}
use Rattle.tw_server.proofs.MemoryOthers.{script_fits, script_does_not_fit}
use Rattle.tw_server.proofs.memory.link.MemoryLink.takes.Goals as goal

pub returns-clause-yes : goal.returns-clause-yes
returns-clause-yes c fits = script_fits c.args.script.now.items (sym c.script_fits.ensures ∙ fits)

pub returns-clause-no : goal.returns-clause-no
returns-clause-no c one_is_long = script_does_not_fit c.args.script.now.items (sym c.script_fits.ensures ∙ one_is_long)
