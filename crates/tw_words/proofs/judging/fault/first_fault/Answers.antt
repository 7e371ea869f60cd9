use Rattle.std.proofs.Common.{◌+◌, ◌∙◌, ap, sym, drop}
use Rattle.tw_words.specs.Modifications.{first_fault, first_of, at_word, word_fault}
use Rattle.tw_words.specs.Clocks.{clock_of}
use Rattle.tw_words.proofs.FirstFaults.{one_word}
use Rattle.tw_words.proofs.judging.fault.first_fault.Goals as goal

pub returns-in-Some : goal.returns-in-Some
returns-in-Some c =
    let line = c.args.line.now in
    let n = c.loop-n.n in
    let clock = clock_of c.args.clock in
    let w = c.word.result.now in
    let left = drop (n + 1) line.words in
    ap (λ x. first_of x (first_fault clock c.args.sole line (n + 1) left)) (sym c.in-Some.is)
    ∙ one_word clock c.args.sole line n w left c.at_word.result c.word.ensures
    (c.at_word.ensures ∙ ap (at_word line n) (c.word_fault-kind.ensures ∙ (λ i. word_fault clock (c.loop-n.invariant.adding i) c.args.sole (c.is_plain-plain.ensures i) w)))
    ∙ c.loop-n.invariant.same

pub loop-n-preserved : goal.loop-n-preserved
loop-n-preserved c =
    let line = c.args.line.now in
    let n = c.loop-n.n in
    let clock = clock_of c.args.clock in
    let w = c.word.result.now in
    let left = drop (n + 1) line.words in
    record {
      adding = c.loop-n.invariant.adding;
      same = ap (λ x. first_of x (first_fault clock c.args.sole line (n + 1) left)) (sym c.in_default.is)
          ∙ one_word clock c.args.sole line n w left c.at_word.result c.word.ensures
          (c.at_word.ensures ∙ ap (at_word line n) (c.word_fault-kind.ensures ∙ (λ i. word_fault clock (c.loop-n.invariant.adding i) c.args.sole (c.is_plain-plain.ensures i) w)))
          ∙ c.loop-n.invariant.same;
    }
