use Rattle.tw_journal.proofs.Refusals.{body_read, body_there}
use Rattle.tw_journal.proofs.journal.Journal.body_through.Goals as goal

pub returns-clause-body : goal.returns-clause-body
returns-clause-body g c = λ magic bodies on.
    body_read g.D.Disk.model c.args.disk.now c.look_up.new.disk c.args.self.now c.args.n c.requires.inside c.in_ok-span.span c.look_up.ensures.untouched c.in_ok-span.ensures.found c.in_ok-span.ensures.stands magic bodies on c.in_ok-body.body.items c.in_ok-body.ensures.body

pub returns-clause-stands : goal.returns-clause-stands
returns-clause-stands g c =
    body_there g.D.Disk.model c.args.disk.now c.look_up.new.disk c.args.self.now c.args.n c.in_ok-span.span c.in_ok-body.body.items c.look_up.ensures.untouched c.in_ok-span.ensures.stands c.in_ok-body.ensures.long c.in_ok-body.ensures.body
