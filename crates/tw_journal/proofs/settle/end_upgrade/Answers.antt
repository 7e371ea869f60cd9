use Rattle.std.proofs.Common.{◌≤◌, ◌∷◌, [], ◌∙◌, length, arith, ap}
use Rattle.tw_world.specs.Disk.{overwritten}
use Rattle.tw_journal.specs.Upgrade.{with_version}
use Rattle.tw_journal.proofs.EndingRuns.{after_slots, after_version, after_first}
use Rattle.tw_journal.proofs.settle.end_upgrade.Goals as goal

pub returns-in_err-write_slots-clause-any_moment : goal.returns-in_err-write_slots-clause-any_moment
returns-in_err-write_slots-clause-any_moment g c = λ tells settled.
    let m = g.D.Disk.model in
    let room : 29 ≤ length (m.seen c.args.disk.now) = omega (arith, c.requires, g.met.D.Disk.has_length c.args.disk.now tells) in
    after_slots m c.args.disk.now c.args.version c.args.at room c.write_slots.new.disk (c.write_slots.ensures.any_moment tells settled)

pub returns-in_err-write_byte-clause-any_moment : goal.returns-in_err-write_byte-clause-any_moment
returns-in_err-write_byte-clause-any_moment g c = λ tells settled.
    let m = g.D.Disk.model in
    let room : 29 ≤ length (m.seen c.args.disk.now) = omega (arith, c.requires, g.met.D.Disk.has_length c.args.disk.now tells) in
    let one = after_slots m c.args.disk.now c.args.version c.args.at room c.write_slots.new.disk (c.write_slots.ensures.any_moment tells settled) in
    let slots = c.in_ok-write_slots.ensures.done tells in
    after_version m c.args.disk.now c.args.version c.args.at room c.write_slots.new.disk c.write_byte.new.disk one slots.0 (c.write_byte.ensures.any_moment (c.write_slots.ensures.kept.tells ∙ tells) slots.1)

pub returns-in_err-write_byte-2-clause-any_moment : goal.returns-in_err-write_byte-2-clause-any_moment
returns-in_err-write_byte-2-clause-any_moment g c = λ tells settled.
    let m = g.D.Disk.model in
    let room : 29 ≤ length (m.seen c.args.disk.now) = omega (arith, c.requires, g.met.D.Disk.has_length c.args.disk.now tells) in
    let one = after_slots m c.args.disk.now c.args.version c.args.at room c.write_slots.new.disk (c.write_slots.ensures.any_moment tells settled) in
    let slots = c.in_ok-write_slots.ensures.done tells in
    let told = c.write_slots.ensures.kept.tells ∙ tells in
    let two = after_version m c.args.disk.now c.args.version c.args.at room c.write_slots.new.disk c.write_byte.new.disk one slots.0 (c.write_byte.ensures.any_moment told slots.1) in
    let version = c.in_ok-write_byte.ensures.done told in
    after_first m c.args.disk.now c.args.version c.args.at room c.write_byte.new.disk c.write_byte-2.new.disk two (version.0 ∙ ap (with_version c.args.version) slots.0) (c.write_byte-2.ensures.any_moment (c.write_byte.ensures.kept.tells ∙ told) version.1)

pub returns-clause-any_moment : goal.returns-clause-any_moment
returns-clause-any_moment g c = λ tells settled.
    let m = g.D.Disk.model in
    let room : 29 ≤ length (m.seen c.args.disk.now) = omega (arith, c.requires, g.met.D.Disk.has_length c.args.disk.now tells) in
    let one = after_slots m c.args.disk.now c.args.version c.args.at room c.write_slots.new.disk (c.write_slots.ensures.any_moment tells settled) in
    let slots = c.in_ok-write_slots.ensures.done tells in
    let told = c.write_slots.ensures.kept.tells ∙ tells in
    let two = after_version m c.args.disk.now c.args.version c.args.at room c.write_slots.new.disk c.write_byte.new.disk one slots.0 (c.write_byte.ensures.any_moment told slots.1) in
    let version = c.in_ok-write_byte.ensures.done told in
    after_first m c.args.disk.now c.args.version c.args.at room c.write_byte.new.disk c.write_byte-2.new.disk two (version.0 ∙ ap (with_version c.args.version) slots.0) (c.write_byte-2.ensures.any_moment (c.write_byte.ensures.kept.tells ∙ told) version.1)

pub returns-clause-done : goal.returns-clause-done
returns-clause-done g c = λ tells settled.
    let slots = c.in_ok-write_slots.ensures.done tells in
    let told = c.write_slots.ensures.kept.tells ∙ tells in
    let version = c.in_ok-write_byte.ensures.done told in
    let first = c.in_ok-write_byte-2.ensures.done (c.write_byte.ensures.kept.tells ∙ told) in
    (first.0 ∙ ap (overwritten 0 (2 ∷ [])) (version.0 ∙ ap (with_version c.args.version) slots.0), first.1)
