use Rattle.std.proofs.Common.{rules, ◌<◌, ◌++◌, [], inr, arith, take, length, length-append, length-take-le}
use Rattle.std.proofs.KnownBytes.{Consumes-nil, Consumes-trans}
use Rattle.tw_files.proofs.Reading.{at_least}
use Rattle.tw_files.proofs.process_spawner.read_on.Goals as goal

pub loop-turn-init : goal.loop-turn-init
loop-turn-init g c = ([], Consumes-nil _, omega arith)

pub loop-turn-preserved : goal.loop-turn-preserved
loop-turn-preserved g c =
    let so_far = c.loop-turn.invariant in
    let piece = take c.in-Ok.field-0 c.read_some.new.buffer in
    (so_far.0 ++ piece, Consumes-trans _ _ _ _ _ so_far.1 c.in-Ok.ensures.bytes.0, omega (arith, so_far.2, length-append so_far.0 piece, length-take-le c.in-Ok.field-0 c.read_some.new.buffer c.in-Ok.ensures.bound.0))

pub returns-in-Ok-eq0-clause-read : goal.returns-in-Ok-eq0-clause-read
returns-in-Ok-eq0-clause-read g c =
    let so_far = c.loop-turn.invariant in
    let some : 0 < length c.read_some.new.buffer = grind arith in
    ((so_far.0 ++ _, Consumes-trans _ _ _ _ _ so_far.1 c.in-Ok-eq0.ensures.bytes.0), c.in-Ok-eq0.ensures.bytes.1 (search rules) some)

pub returns-clause-failed : goal.returns-clause-failed
returns-clause-failed g c = let so_far = c.loop-turn.invariant in inr (at_least _ _ _ _ so_far.1 (omega (arith, so_far.2)))
