use Rattle.tw_journal.proofs.journal.Journal.length.Goals as goal

pub returns-clause-length : goal.returns-clause-length
returns-clause-length g c = λ magic bodies on. (c.in_ok-look_up.ensures.found magic bodies on).size

pub returns-clause-stands : goal.returns-clause-stands
returns-clause-stands g c = λ tells. (c.in_ok-look_up.field-0.at, c.in_ok-look_up.ensures.stands tells)
