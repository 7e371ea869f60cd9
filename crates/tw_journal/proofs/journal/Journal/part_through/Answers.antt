use Rattle.std.proofs.Common.{inr, arith}
use Rattle.tw_journal.proofs.Refusals.{passed_on, part_read, part_there, part_refused, part_damaged}
use Rattle.tw_journal.proofs.journal.Journal.part_through.Goals as goal

pub returns-in_err-span-clause-refused : goal.returns-in_err-span-clause-refused
returns-in_err-span-clause-refused g c =
    passed_on c.from_residual.result _ _ c.from_residual.ensures.1
    (part_refused g.D.Disk.model c.args.disk.now c.look_up.new.disk c.args.self.now c.args.n c.args.from c.args.len c.in_err-span.field-0.0 c.in_err-span.ensures.refused)

pub returns-in_err-span-clause-damaged : goal.returns-in_err-span-clause-damaged
returns-in_err-span-clause-damaged g c =
    passed_on c.from_residual.result _ _ c.from_residual.ensures.1
    (part_damaged g.D.Disk.model c.args.disk.now c.args.self.now c.args.n c.args.from c.args.len c.in_err-span.field-0.0 c.in_err-span.ensures.damaged)

pub returns-then-not-is_inside-clause-refused : goal.returns-then-not-is_inside-clause-refused
returns-then-not-is_inside-clause-refused g c = λ tells magic bodies on inside.
    let size = (c.in_ok-span.ensures.found magic bodies on).size in
    omega (arith, inside, size, c.is_inside.ensures.outside c.if-not-is_inside.true)

pub returns-then-not-is_inside-clause-damaged : goal.returns-then-not-is_inside-clause-damaged
returns-then-not-is_inside-clause-damaged g c = λ tells.
    inr (c.in_ok-span.span.size, c.in_ok-span.ensures.stands tells, c.is_inside.ensures.outside c.if-not-is_inside.true)

pub returns-clause-part : goal.returns-clause-part
returns-clause-part g c = λ magic bodies on.
    part_read g.D.Disk.model c.args.disk.now c.look_up.new.disk c.args.self.now c.args.n c.requires.inside c.in_ok-span.span c.look_up.ensures.untouched c.in_ok-span.ensures.found c.in_ok-span.ensures.stands magic bodies on c.args.from c.args.len c.in_ok-part.part.items (c.is_inside.ensures.inside c.if-not-is_inside.false) c.in_ok-part.ensures.body

pub returns-clause-stands : goal.returns-clause-stands
returns-clause-stands g c =
    part_there g.D.Disk.model c.args.disk.now c.look_up.new.disk c.args.self.now c.args.n c.args.from c.args.len c.in_ok-span.span c.in_ok-part.part.items c.look_up.ensures.untouched c.in_ok-span.ensures.stands (c.is_inside.ensures.inside c.if-not-is_inside.false) c.in_ok-part.ensures.long c.in_ok-part.ensures.body
