use Rattle.std.proofs.Common.{◌+◌, ◌<◌, ◌∙◌, length, arith, ap}
use Rattle.tw_world.specs.Disk.{overwritten}
use Rattle.tw_journal.specs.Checkpoint.{record_with}
use Rattle.tw_journal.proofs.Copies.{after_room, after_record}
use Rattle.tw_journal.proofs.upgrade.set_apart.Goals as goal

pub returns-in_err-len-clause-any_moment : goal.returns-in_err-len-clause-any_moment
returns-in_err-len-clause-any_moment g c = λ tells settled.
    after_room g.D.Disk.model c.args.disk.now c.args.at (c.args.at + length c.args.body.now + 13) c.make_room.new.disk (c.make_room.ensures.any_moment tells settled)

pub returns-in_err-write_record-clause-any_moment : goal.returns-in_err-write_record-clause-any_moment
returns-in_err-write_record-clause-any_moment g c = λ tells settled.
    let m = g.D.Disk.model in
    let to = c.args.at + length c.args.body.now + 13 in
    let one = after_room m c.args.disk.now c.args.at to c.make_room.new.disk (c.make_room.ensures.any_moment tells settled) in
    let room = c.in_ok-len.ensures.done tells settled in
    after_record m c.args.disk.now c.args.at to c.make_room.new.disk c.write_record.new.disk _ (omega (arith, ap length c.to_be_bytes-offset.ensures)) one room.0 (c.write_record.ensures.any_moment (c.make_room.ensures.kept.tells ∙ tells) room.1)

pub returns-clause-any_moment : goal.returns-clause-any_moment
returns-clause-any_moment g c = λ tells settled.
    let m = g.D.Disk.model in
    let to = c.args.at + length c.args.body.now + 13 in
    let one = after_room m c.args.disk.now c.args.at to c.make_room.new.disk (c.make_room.ensures.any_moment tells settled) in
    let room = c.in_ok-len.ensures.done tells settled in
    after_record m c.args.disk.now c.args.at to c.make_room.new.disk c.write_record.new.disk _ (omega (arith, ap length c.to_be_bytes-offset.ensures)) one room.0 (c.write_record.ensures.any_moment (c.make_room.ensures.kept.tells ∙ tells) room.1)

pub returns-clause-done : goal.returns-clause-done
returns-clause-done g c = λ tells settled.
    let room = c.in_ok-len.ensures.done tells settled in
    let written = c.in_ok-write_record.ensures.done (c.make_room.ensures.kept.tells ∙ tells) in
    (written.0 ∙ (λ i. overwritten c.args.at (record_with c.args.body.now (c.to_be_bytes-offset.ensures i)) (room.0 i)), written.1)

pub returns-clause-len : goal.returns-clause-len
returns-clause-len g c =
    let room = c.in_ok-len.ensures.len in
    let far : c.args.end < c.args.at + length c.args.body.now + 13 = omega (arith, c.requires.behind) in
    (c.write_record.ensures.len ∙ room.0, c.in_ok-len.ensures.grown far, room.3)
