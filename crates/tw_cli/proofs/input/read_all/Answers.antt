use Rattle.std.proofs.Common.{◌<◌, length, arith}
use Rattle.tw_cli.proofs.Reading.{too_long}
use Rattle.tw_cli.proofs.input.read_all.Goals as goal

pub returns-clause-refused : goal.returns-clause-refused
returns-clause-refused g c = λ tells.
    let more : 67108864 < length c.loop-buffer.bytes.items = omega (arith, c.loop-buffer-test.false, c.len.ensures) in
    too_long c.loop-buffer.bytes.items (g.S.Source.model.rest c.loop-buffer.input) (g.S.Source.model.rest c.args.input.now) more c.loop-buffer.invariant.few (c.loop-buffer.invariant.read tells)
