use Rattle.std.proofs.Common.{◌∙◌, ap}
use Rattle.tw_numbers.specs.Numbering.{is_open}
use Rattle.tw_numbers.proofs.Basics.{on_ok_map}
use Rattle.tw_numbers.proofs.NewTasks.{new_open, new_closed}
use Rattle.tw_numbers.proofs.indexed.assign_new.Goals as goal

pub returns-then-not-is_open-clause-places : goal.returns-then-not-is_open-clause-places
returns-then-not-is_open-clause-places c = new_closed c.args.places.now.items c.args.tasks.now c.args.uuid c.is_open.result c.requires.ready c.requires.free (c.is_open.ensures ∙ ap is_open c.get.ensures) c.if-not-is_open.true

pub returns-clause-places : goal.returns-clause-places
returns-clause-places c = on_ok_map c.push_known.result c.push_known.ensures.places (λ e. e ∙ new_open c.args.places.now.items c.args.tasks.now c.args.uuid c.is_open.result c.requires.ready c.requires.free (c.is_open.ensures ∙ ap is_open c.get.ensures) c.if-not-is_open.false)
