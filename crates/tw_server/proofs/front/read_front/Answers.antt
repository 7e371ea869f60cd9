use Rattle.std.proofs.Common.{subst}
use Rattle.tw_world.proofs.Moments.{untouched_join}
use Rattle.tw_journal.specs.Journal.{PartRefused}
use Rattle.tw_journal.specs.declared.error.ReadError.{ReadError}
use Rattle.tw_server.proofs.Fronts.{short_front, front_refused}
use Rattle.tw_server.proofs.Refusals.{if_ok_weaker}
use Rattle.tw_server.proofs.Results.{if_err_weaker}
use Rattle.tw_server.proofs.front.read_front.Goals as goal

pub returns-in-Err-Damaged-clause-front : goal.returns-in-Err-Damaged-clause-front
returns-in-Err-Damaged-clause-front g c =
    let m = g.D.Disk.model in
    let short = subst (λ (e : ReadError). PartRefused m c.args.disk.now c.part_through.new.disk c.args.journal.now c.args.n 0 49 e) c.in-Err-Damaged.field-0-is c.in-Err-Damaged.ensures.refused in
    if_ok_weaker _ _ c.body_through.result (λ front whole. short_front m c.args.journal.now c.args.disk.now c.part_through.new.disk c.part_through.ensures.untouched c.args.n front.items short whole) c.body_through.ensures.body

pub returns-in-Err-Damaged-clause-refused : goal.returns-in-Err-Damaged-clause-refused
returns-in-Err-Damaged-clause-refused g c =
    let m = g.D.Disk.model in
    if_err_weaker c.body_through.result c.body_through.ensures.refused (λ e refused. front_refused m c.args.journal.now c.args.disk.now c.part_through.new.disk c.part_through.ensures.untouched c.body_through.new.disk e refused)

pub returns-in-Err-Damaged-clause-untouched : goal.returns-in-Err-Damaged-clause-untouched
returns-in-Err-Damaged-clause-untouched g c =
    untouched_join g.D.Disk.model c.args.disk.now c.part_through.new.disk c.body_through.new.disk c.part_through.ensures.untouched c.body_through.ensures.untouched
