use Rattle.tw_journal.proofs.FormFront.{short_magic}
use Rattle.tw_journal.proofs.form.has_magic.Goals as goal

pub returns-then-front-lt-SLOT_A-clause-has : goal.returns-then-front-lt-SLOT_A-clause-has
returns-then-front-lt-SLOT_A-clause-has c = short_magic c.args.magic.now c.args.front.now c.if-front-lt-SLOT_A.true
