use Rattle.std.proofs.Common.{◌∙◌, sym}
use Rattle.tw_state.proofs.RunsThatFit.{run_fits}
use Rattle.tw_state.proofs.fitting.apply_run.Goals as goal

pub returns-clause-fit : goal.returns-clause-fit
returns-clause-fit c = run_fits c.args.tasks.now c.args.ops.now.items c.index.result.now c.requires c.index.ensures (sym c.fits.ensures ∙ c.if-not-fits.false)
