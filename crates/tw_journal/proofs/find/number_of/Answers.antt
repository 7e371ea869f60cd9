use Rattle.std.proofs.lemmas.Nat.{be_bytes_4}
use Rattle.tw_journal.proofs.find.number_of.Goals as goal

pub returns-clause-back : goal.returns-clause-back
returns-clause-back c = be_bytes_4 c.args.bytes.now c.from_be_bytes.result c.told-bytes c.fits-bytes c.from_be_bytes.ensures
