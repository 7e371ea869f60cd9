use Rattle.std.proofs.Common.{◌∙◌, arith}
use Rattle.tw_journal.proofs.CheckpointRuns.{slot_then_byte}
use Rattle.tw_journal.proofs.checkpoint.point_to.Goals as goal

pub returns-in_err-write_byte-clause-any_moment : goal.returns-in_err-write_byte-clause-any_moment
returns-in_err-write_byte-clause-any_moment g c = λ tells settled.
    let wrote = c.in_ok-write_slot.ensures.done tells in
    slot_then_byte g.D.Disk.model c.args.disk.now c.write_slot.new.disk c.write_byte.new.disk c.args.selector c.args.at c.other_slot.result c.other_selector.result c.other_slot.ensures.slot c.other_selector.ensures.selector
    (omega (arith, c.requires, c.other_slot.ensures.small, g.met.D.Disk.has_length c.args.disk.now tells))
    (c.write_slot.ensures.any_moment tells settled) wrote.0 (c.write_byte.ensures.any_moment (c.write_slot.ensures.kept.tells ∙ tells) wrote.1)

pub returns-clause-any_moment : goal.returns-clause-any_moment
returns-clause-any_moment g c = λ tells settled.
    let wrote = c.in_ok-write_slot.ensures.done tells in
    slot_then_byte g.D.Disk.model c.args.disk.now c.write_slot.new.disk c.write_byte.new.disk c.args.selector c.args.at c.other_slot.result c.other_selector.result c.other_slot.ensures.slot c.other_selector.ensures.selector
    (omega (arith, c.requires, c.other_slot.ensures.small, g.met.D.Disk.has_length c.args.disk.now tells))
    (c.write_slot.ensures.any_moment tells settled) wrote.0 (c.write_byte.ensures.any_moment (c.write_slot.ensures.kept.tells ∙ tells) wrote.1)
