use Rattle.std.proofs.Common.{drop}
use Rattle.tw_journal.proofs.Search.{first_read}
use Rattle.tw_journal.proofs.find.read_first.Goals as goal

pub returns-clause-first : goal.returns-clause-first
returns-clause-first g c = λ tells.
    first_read (drop c.args.at (g.D.Disk.model.seen c.args.disk.now)) c.read_at.new.out c.args.size (c.in_ok-read_at.ensures.bytes tells) c.if-size-eq0.false
