use Rattle.std.proofs.Common.{refl, arith, drop, length-drop}
use Rattle.tw_journal.proofs.Heads.{no_room}
use Rattle.tw_journal.proofs.find.read_gate.Goals as goal

pub returns-clause-refused : goal.returns-clause-refused
returns-clause-refused g c = (
  refl,
  λ tells.
      let s = g.D.Disk.model.seen c.args.disk.now in
      let n = g.met.D.Disk.has_length c.args.disk.now tells in
      let long = length-drop c.args.at s in
      no_room (drop c.args.at s) c.read_at.new.out _ (c.in_ok-read_at.ensures.bytes tells) (omega (arith, long, n)) refl c.if-gate-eq0.false (omega (arith, long, n)),
)
