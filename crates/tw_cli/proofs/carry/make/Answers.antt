use Rattle.std.proofs.Common.{inl, inr, refl}
use Rattle.tw_replica.specs.Replica.{held_state}
use Rattle.tw_changes.specs.declared.request.Request.{Request}
use Rattle.tw_cli.specs.Input.{with_input}
use Rattle.tw_cli.specs.Ready.{IsMade}
use Rattle.tw_cli.specs.Run.{Drew}
use Rattle.tw_cli.proofs.Carrying.{opening_wants, opening_draws, taking_draws, stays_unread, unread_wants, taken_with, can_with, undecided, undecided_draws, undecided_wants, undecided_spares, drew, hooks_same, hooks_with}
use Rattle.tw_cli.proofs.Openings.{stays_open}
use Rattle.tw_cli.proofs.carry.make.Goals as goal

-- the replica was not opened
pub returns-in-Err-clause-complete : goal.returns-in-Err-clause-complete
returns-in-Err-clause-complete g c =
    λ can. opening_wants g.D.Disk.model g.P.Spawner.model (with_input c.args.request can.bytes) c.args.ids.now c.args.disk.now c.open.new.disk c.args.spawner.now c.args.spawner.now c.in-Err.error c.in-Err.ensures.refused can.can

pub returns-in-Err-clause-ids : goal.returns-in-Err-clause-ids
returns-in-Err-clause-ids g c =
    opening_draws g.D.Disk.model g.S.Source.model c.args.request c.args.disk.now c.args.input.now c.args.input.now c.open.new.disk c.args.ids.now c.in-Err.error c.in-Err.ensures.refused

-- the input was not taken
pub returns-in-Err-take_input-clause-refused : goal.returns-in-Err-take_input-clause-refused
returns-in-Err-take_input-clause-refused g c =
    (stays_unread g.D.Disk.model g.S.Source.model c.args.request c.args.disk.now c.args.input.now c.take_input.new.input c.command_of-command.result c.command_of-command.ensures c.open.new.disk c.in-Ok.replica c.in-Err-take_input.error c.in-Ok.ensures.opened c.in-Err-take_input.ensures.refused, refl)

pub returns-in-Err-take_input-clause-complete : goal.returns-in-Err-take_input-clause-complete
returns-in-Err-take_input-clause-complete g c =
    λ can. unread_wants g.D.Disk.model g.S.Source.model c.args.request c.args.disk.now c.args.input.now c.take_input.new.input c.command_of-command.result c.command_of-command.ensures g.P.Spawner.model c.args.ids.now c.open.new.disk c.args.spawner.now c.args.spawner.now c.in-Err-take_input.error c.in-Err-take_input.ensures.refused can

pub returns-in-Err-take_input-clause-ids : goal.returns-in-Err-take_input-clause-ids
returns-in-Err-take_input-clause-ids g c =
    taking_draws g.D.Disk.model g.S.Source.model c.args.request c.args.disk.now c.args.input.now c.take_input.new.input c.args.ids.now c.in-Err-take_input.error

-- it is not decided on
pub returns-clause-refused : goal.returns-clause-refused
returns-clause-refused g c =
    undecided g.D.Disk.model g.S.Source.model c.args.request c.args.disk.now c.args.input.now c.take_input.new.input c.command_of-command.result c.command_of-command.ensures c.with_input-request.result c.in-Ok-take_input.taken c.in-Ok-take_input.ensures.took c.with_input-request.ensures g.P.Spawner.model c.args.ids.now c.open.new.disk c.args.spawner.now c.decide.new.spawner c.in-Ok.replica c.in-Ok.ensures.opened c.in-Err-decide.error c.in-Err-decide.ensures.refused

pub returns-clause-complete : goal.returns-clause-complete
returns-clause-complete g c =
    λ can. undecided_wants g.D.Disk.model g.P.Spawner.model c.with_input-request.result c.args.ids.now c.args.disk.now c.open.new.disk c.args.spawner.now c.decide.new.spawner c.in-Ok.replica c.in-Ok.ensures.opened c.in-Err-decide.error c.in-Err-decide.ensures.refused (can_with g.D.Disk.model g.S.Source.model c.args.request c.args.disk.now c.args.input.now c.take_input.new.input c.command_of-command.result c.command_of-command.ensures c.with_input-request.result c.in-Ok-take_input.taken c.in-Ok-take_input.ensures.took c.with_input-request.ensures g.P.Spawner.model c.args.ids.now c.open.new.disk c.args.spawner.now c.decide.new.spawner can)

pub returns-clause-unopened : goal.returns-clause-unopened
returns-clause-unopened g c =
    undecided_spares g.D.Disk.model g.S.Source.model c.args.request c.args.disk.now c.args.input.now c.take_input.new.input c.command_of-command.result c.command_of-command.ensures c.with_input-request.result c.in-Ok-take_input.taken c.in-Ok-take_input.ensures.took c.with_input-request.ensures g.P.Spawner.model c.args.ids.now c.open.new.disk c.args.spawner.now c.decide.new.spawner c.in-Ok.replica c.in-Ok.ensures.opened c.in-Err-decide.error c.in-Err-decide.ensures.refused

pub returns-clause-ids : goal.returns-clause-ids
returns-clause-ids g c =
    undecided_draws g.D.Disk.model g.S.Source.model c.args.request c.args.disk.now c.args.input.now c.take_input.new.input c.command_of-command.result c.command_of-command.ensures c.with_input-request.result c.in-Ok-take_input.taken c.in-Ok-take_input.ensures.took c.with_input-request.ensures g.P.Spawner.model c.args.ids.now c.open.new.disk c.args.spawner.now c.decide.new.spawner c.in-Ok.replica c.in-Ok.ensures.opened c.decide.new.ids c.in-Err-decide.error c.in-Err-decide.ensures.want

-- there is no memory for what intervals ask
pub returns-in-Err-asked_before-clause-refused : goal.returns-in-Err-asked_before-clause-refused
returns-in-Err-asked_before-clause-refused g c =
    ((held_state c.in-Ok.replica, stays_open g.D.Disk.model c.args.disk.now c.open.new.disk c.in-Ok.replica c.in-Ok.ensures.opened), inl refl)

pub returns-in-Err-asked_before-clause-ids : goal.returns-in-Err-asked_before-clause-ids
returns-in-Err-asked_before-clause-ids g c = inr (refl, inr (inl refl))

-- it is made
pub returns-in-Ok-decide-clause-made : goal.returns-in-Ok-decide-clause-made
returns-in-Ok-decide-clause-made g c =
    taken_with g.D.Disk.model g.S.Source.model c.args.request c.args.disk.now c.args.input.now c.take_input.new.input c.command_of-command.result c.command_of-command.ensures c.with_input-request.result c.in-Ok-take_input.taken c.in-Ok-take_input.ensures.took c.with_input-request.ensures (λ (r : Request). IsMade g.D.Disk.model g.P.Spawner.model r c.args.ids.now c.args.disk.now c.open.new.disk c.args.spawner.now c.decide.new.spawner (record { ready = c.in-Ok-decide.ready; before = c.in-Ok-asked_before.before; at = c.with_input-request.result.at }))
    (record {
      replica = c.in-Ok.replica;
      opened = c.in-Ok.ensures.opened;
      decided = c.in-Ok-decide.ensures.ready;
      before = c.in-Ok-asked_before.ensures;
      at = refl;
      live = c.in-Ok.ensures.live;
      length = c.in-Ok.ensures.length;
      leaves = c.open.ensures.any_moment;
    })

pub returns-in-Ok-decide-clause-ids : goal.returns-in-Ok-decide-clause-ids
returns-in-Ok-decide-clause-ids g c =
    inl (taken_with g.D.Disk.model g.S.Source.model c.args.request c.args.disk.now c.args.input.now c.take_input.new.input c.command_of-command.result c.command_of-command.ensures c.with_input-request.result c.in-Ok-take_input.taken c.in-Ok-take_input.ensures.took c.with_input-request.ensures (λ (r : Request). Drew g.D.Disk.model r c.args.disk.now c.args.ids.now c.decide.new.ids) (drew g.D.Disk.model g.P.Spawner.model c.with_input-request.result c.args.ids.now c.args.disk.now c.open.new.disk c.args.spawner.now c.decide.new.spawner c.in-Ok.replica c.in-Ok.ensures.opened c.decide.new.ids c.in-Ok-decide.ensures.ids))

-- what is kept of the hooks
pub returns-in-Err-asked_before-clause-hooks_kept : goal.returns-in-Err-asked_before-clause-hooks_kept
returns-in-Err-asked_before-clause-hooks_kept g c =
    hooks_same g.P.Spawner.model c.args.request c.args.spawner.now

pub returns-in-Ok-decide-clause-hooks_kept : goal.returns-in-Ok-decide-clause-hooks_kept
returns-in-Ok-decide-clause-hooks_kept g c =
    hooks_with g.D.Disk.model g.S.Source.model c.args.request c.args.disk.now c.args.input.now c.take_input.new.input c.command_of-command.result c.command_of-command.ensures c.with_input-request.result c.in-Ok-take_input.taken c.in-Ok-take_input.ensures.took c.with_input-request.ensures g.P.Spawner.model c.args.spawner.now c.decide.new.spawner c.decide.ensures.untouched c.decide.ensures.kept

pub returns-in-Err-clause-hooks_kept : goal.returns-in-Err-clause-hooks_kept
returns-in-Err-clause-hooks_kept g c =
    hooks_same g.P.Spawner.model c.args.request c.args.spawner.now

pub returns-in-Err-take_input-clause-hooks_kept : goal.returns-in-Err-take_input-clause-hooks_kept
returns-in-Err-take_input-clause-hooks_kept g c =
    hooks_same g.P.Spawner.model c.args.request c.args.spawner.now

pub returns-clause-hooks_kept : goal.returns-clause-hooks_kept
returns-clause-hooks_kept g c =
    hooks_with g.D.Disk.model g.S.Source.model c.args.request c.args.disk.now c.args.input.now c.take_input.new.input c.command_of-command.result c.command_of-command.ensures c.with_input-request.result c.in-Ok-take_input.taken c.in-Ok-take_input.ensures.took c.with_input-request.ensures g.P.Spawner.model c.args.spawner.now c.decide.new.spawner c.decide.ensures.untouched c.decide.ensures.kept
