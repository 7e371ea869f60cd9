use Rattle.std.proofs.Common.{◌≡◌, ◌-◌, ◌∙◌, List, ℕ, length, take, drop, ap, arith, length-drop}
use Rattle.tw_journal.proofs.Forms.{not_alone, alone_is, part_of_front}
use Rattle.tw_journal.proofs.form.is_alone.Goals as goal

pub returns-then-head-ne1-clause-alone : goal.returns-then-head-ne1-clause-alone
returns-then-head-ne1-clause-alone g c = λ tells. not_alone (drop c.args.at (g.D.Disk.model.seen c.args.disk.now)) c.read_at.new.out (c.in_ok-read_at.ensures.bytes tells) c.if-head-ne1.true

pub returns-clause-alone : goal.returns-clause-alone
returns-clause-alone g c = λ tells.
    let s = g.D.Disk.model.seen c.args.disk.now in
    let rest = drop c.args.at s in
    let read = c.in_ok-read_at.ensures.bytes tells in
    let four : c.copy_from_slice.new.self ≡ take 4 (drop 1 rest) = c.copy_from_slice.ensures.after ∙ ap (λ (l : List ℕ). take 4 (drop 1 l)) read ∙ part_of_front 4 1 5 rest (omega arith) in
    let left : c.args.len - c.args.at ≡ length rest = omega (arith, g.met.D.Disk.has_length c.args.disk.now tells, c.requires.len, length-drop c.args.at s) in
    alone_is rest c.read_at.new.out c.copy_from_slice.new.self c.number_of-size.result (c.args.len - c.args.at) read c.if-head-ne1.false four c.number_of-size.ensures.value left
