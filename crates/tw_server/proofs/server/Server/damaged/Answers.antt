use Rattle.std.proofs.Common.{◌≡◌, sym, subst}
use Rattle.tw_journal.specs.Form.{offset_in}
use Rattle.tw_server.specs.Opening.{IfDamaged, TakeRefused}
use Rattle.tw_server.proofs.Taken.{read_no_damage, read_take_refused}
use Rattle.tw_server.proofs.server.Server.damaged.Goals as goal

pub returns-in-Err-clause-at : goal.returns-in-Err-clause-at
returns-in-Err-clause-at g c = λ magic bodies on.
    let m = g.D.Disk.model in
    subst (λ e. IfDamaged e (λ offset. offset ≡ offset_in magic (m.seen c.args.disk.now) bodies c.args.n)) (sym c.from.ensures)
    (read_no_damage m c.args.self.now.journal c.args.disk.now c.offset.new.disk magic bodies c.in-Err.error _ c.in-Err.ensures.refused on)

pub returns-in-Err-clause-refused : goal.returns-in-Err-clause-refused
returns-in-Err-clause-refused g c = λ open_now.
    let m = g.D.Disk.model in
    subst (λ e. TakeRefused m c.args.disk.now c.offset.new.disk e) (sym c.from.ensures)
    (read_take_refused m c.args.self.now.journal c.args.disk.now c.offset.new.disk c.in-Err.error open_now c.in-Err.ensures.refused)
