-- The changes are made of the replica that was open, and then written.
use Rattle.std.proofs.Common.{◌∙◌, ap, sym, false, [], Some}
use Rattle.tw_state.specs.State.{State}
use Rattle.tw_replica.specs.Prepared.{IsEditing, IsPrepared, step_of_changes}
use Rattle.tw_generate.proofs.Machines.{length_ready, on_written}
use Rattle.tw_generate.proofs.machine.Machine.with_changes.Goals as goal

pub prepare-requires : goal.prepare-requires
prepare-requires c =
    let start : IsEditing c.args.self.replica [] c.args.at c.edit-editing.result = c.edit-editing.ensures c.args.at in
    let made : IsEditing c.args.self.replica c.args.changes.items c.args.at c.make.new.self = c.in_ok-make.ensures c.args.self.replica [] start in
    (c.args.self.replica, c.args.changes.items, c.args.at, made)

pub write-requires : goal.write-requires
write-requires c =
    let start : IsEditing c.args.self.replica [] c.args.at c.edit-editing.result = c.edit-editing.ensures c.args.at in
    let made : IsEditing c.args.self.replica c.args.changes.items c.args.at c.make.new.self = c.in_ok-make.ensures c.args.self.replica [] start in
    let is : IsPrepared c.args.self.replica (step_of_changes c.args.self.replica false c.args.changes.items c.args.at) c.in_ok-prepare.field-0 = c.in_ok-prepare.ensures c.args.self.replica c.args.changes.items c.args.at made in
    record { length = length_ready c.args.self.replica c.args.self.disk c.requires.0 c.requires.1 (step_of_changes c.args.self.replica false c.args.changes.items c.args.at) c.in_ok-prepare.field-0 is }

pub returns-in-Ok-clause-changed : goal.returns-in-Ok-clause-changed
returns-in-Ok-clause-changed c =
    let start : IsEditing c.args.self.replica [] c.args.at c.edit-editing.result = c.edit-editing.ensures c.args.at in
    let made : IsEditing c.args.self.replica c.args.changes.items c.args.at c.make.new.self = c.in_ok-make.ensures c.args.self.replica [] start in
    let is : IsPrepared c.args.self.replica (step_of_changes c.args.self.replica false c.args.changes.items c.args.at) c.in_ok-prepare.field-0 = c.in_ok-prepare.ensures c.args.self.replica c.args.changes.items c.args.at made in
    is.leads ∙ ap (λ (s : State). Some s) (sym c.in-Ok.ensures.state)

pub returns-in-Ok-clause-open : goal.returns-in-Ok-clause-open
returns-in-Ok-clause-open c =
    let start : IsEditing c.args.self.replica [] c.args.at c.edit-editing.result = c.edit-editing.ensures c.args.at in
    let made : IsEditing c.args.self.replica c.args.changes.items c.args.at c.make.new.self = c.in_ok-make.ensures c.args.self.replica [] start in
    let is : IsPrepared c.args.self.replica (step_of_changes c.args.self.replica false c.args.changes.items c.args.at) c.in_ok-prepare.field-0 = c.in_ok-prepare.ensures c.args.self.replica c.args.changes.items c.args.at made in
    on_written c.args.self.replica c.args.self.disk c.requires.0 c.requires.1 (step_of_changes c.args.self.replica false c.args.changes.items c.args.at) c.in_ok-prepare.field-0 is c.in-Ok.replica c.write.new.disk c.in-Ok.ensures.state c.in-Ok.ensures.journal
