use Rattle.std.proofs.Common.{refl, arith, drop, length-drop}
use Rattle.tw_journal.proofs.Heads.{too_long, whole_head}
use Rattle.tw_journal.proofs.find.read_head.Goals as goal

pub returns-then-len-at-clause-refused : goal.returns-then-len-at-clause-refused
returns-then-len-at-clause-refused g c = (
  refl,
  λ tells.
      let s = g.D.Disk.model.seen c.args.disk.now in
      let n = g.met.D.Disk.has_length c.args.disk.now tells in
      let long = length-drop c.args.at s in
      too_long (drop c.args.at s) c.read_at.new.out c.copy_from_slice.new.self _ (c.in_ok-read_at.ensures.bytes tells) (omega (arith, long, n)) refl (omega arith) c.copy_from_slice.ensures.after (omega (arith, long, n, c.number_of-size.ensures.value)),
)

pub returns-clause-found : goal.returns-clause-found
returns-clause-found g c = λ tells.
    let s = g.D.Disk.model.seen c.args.disk.now in
    let n = g.met.D.Disk.has_length c.args.disk.now tells in
    whole_head (drop c.args.at s) c.read_at.new.out c.copy_from_slice.new.self _ c.number_of-size.result (c.in_ok-read_at.ensures.bytes tells) refl (omega arith) c.copy_from_slice.ensures.after c.number_of-size.ensures.back (omega (arith, n, length-drop c.args.at s))
