use Rattle.std.proofs.Common.{◌+◌, drop}
use Rattle.tw_words.specs.Readings.{has_empty}
use Rattle.tw_words.specs.Modifications.{rest_words}
use Rattle.tw_words.proofs.EmptyWords.{first_empty, later_empty}
use Rattle.tw_words.proofs.changes.reading.has_empty.Goals as goal

pub returns-then-is_empty : goal.returns-then-is_empty
returns-then-is_empty c =
    let line = c.args.line.now in
    let n = c.loop-n.n in
    first_empty (drop n line.words) (drop (n + 1) line.words) c.word.result.now (has_empty (rest_words line)) c.word.ensures (cc) c.loop-n.invariant

pub loop-n-preserved : goal.loop-n-preserved
loop-n-preserved c =
    let line = c.args.line.now in
    let n = c.loop-n.n in
    later_empty (drop n line.words) (drop (n + 1) line.words) c.word.result.now (has_empty (rest_words line)) c.word.ensures (cc) c.loop-n.invariant
