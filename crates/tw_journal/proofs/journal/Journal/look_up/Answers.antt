use Rattle.tw_journal.proofs.Refusals.{passed_on, find_refused, find_damaged, size_refused, size_damaged, stands_there, span_is}
use Rattle.std.proofs.Common.{refl}
use Rattle.tw_journal.proofs.journal.Journal.look_up.Goals as goal

pub returns-in_err-at-clause-refused : goal.returns-in_err-at-clause-refused
returns-in_err-at-clause-refused g c =
    passed_on c.from_residual.result _ _ c.from_residual.ensures.1
    (find_refused g.D.Disk.model c.args.disk.now c.find_offset.new.disk c.args.self.now c.deref.result.now c.args.n c.deref.ensures.value c.requires.inside c.in_err-at.field-0.0 c.in_err-at.ensures.refused)

pub returns-in_err-at-clause-damaged : goal.returns-in_err-at-clause-damaged
returns-in_err-at-clause-damaged g c =
    passed_on c.from_residual.result _ _ c.from_residual.ensures.1
    (find_damaged g.D.Disk.model c.args.disk.now c.find_offset.new.disk c.args.self.now c.deref.result.now c.args.n c.deref.ensures.value c.requires.inside c.in_err-at.field-0.0 c.in_err-at.ensures.refused)

pub returns-in_err-size-clause-refused : goal.returns-in_err-size-clause-refused
returns-in_err-size-clause-refused g c =
    passed_on c.from_residual-in_err-size.result _ _ c.from_residual-in_err-size.ensures.1
    (size_refused g.D.Disk.model c.args.disk.now c.find_offset.new.disk c.args.self.now c.deref.result.now c.args.n c.deref.ensures.value c.requires.inside c.in_ok-at.at c.in_ok-at.ensures.offset c.in_ok-at.ensures.way c.read_size.new.disk c.in_err-size.field-0.0 c.find_offset.ensures.untouched c.in_err-size.ensures.refused)

pub returns-in_err-size-clause-damaged : goal.returns-in_err-size-clause-damaged
returns-in_err-size-clause-damaged g c =
    passed_on c.from_residual-in_err-size.result _ _ c.from_residual-in_err-size.ensures.1
    (size_damaged g.D.Disk.model c.args.disk.now c.find_offset.new.disk c.args.self.now c.deref.result.now c.args.n c.deref.ensures.value c.requires.inside c.in_ok-at.at c.in_ok-at.ensures.offset c.in_ok-at.ensures.way c.read_size.new.disk c.in_err-size.field-0.0 c.find_offset.ensures.untouched c.in_err-size.ensures.refused)

pub returns-clause-found : goal.returns-clause-found
returns-clause-found g c =
    span_is g.D.Disk.model c.args.disk.now c.find_offset.new.disk c.args.self.now c.deref.result.now c.args.n c.deref.ensures.value c.requires.inside c.in_ok-at.at c.in_ok-at.ensures.offset c.in_ok-at.ensures.way (record { at = c.in_ok-at.at; size = c.in_ok-size.size }) refl c.find_offset.ensures.untouched c.in_ok-size.ensures.size

pub returns-clause-stands : goal.returns-clause-stands
returns-clause-stands g c =
    stands_there g.D.Disk.model c.args.disk.now c.find_offset.new.disk c.args.self.now c.deref.result.now c.args.n c.deref.ensures.value c.requires.inside c.in_ok-at.at c.in_ok-at.ensures.offset c.in_ok-at.ensures.way (record { at = c.in_ok-at.at; size = c.in_ok-size.size }) refl c.find_offset.ensures.untouched c.in_ok-size.ensures.size
