use Rattle.std.proofs.Common.{◌+◌, ◌∙◌, ap, sym, drop, arith}
use Rattle.tw_words.specs.Modifications.{tally_from, tally_tag, tag_of}
use Rattle.tw_words.proofs.judging.tally.tally_of.Goals as goal

pub loop-n-preserved : goal.loop-n-preserved
loop-n-preserved c =
    let line = c.args.line.now in
    let n = c.loop-n.n in
    record {
      same = ap (λ g. tally_from line g (n + 1) (drop (n + 1) line.words)) (c.tally_word-tally.ensures.value ∙ ap (λ p. tally_tag c.loop-n.tally p c.word.result.now (tag_of p c.word.result.now)) c.is_plain.ensures)
          ∙ ap (tally_from line c.loop-n.tally n) (sym c.word.ensures) ∙ c.loop-n.invariant.same;
      few = omega (arith, c.tally_word-tally.ensures.few, c.loop-n.invariant.few);
    }
