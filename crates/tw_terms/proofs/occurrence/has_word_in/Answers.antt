use Rattle.std.proofs.Common.{◌≡◌, ◌-◌, length, take, drop, sym, ap, ◌∙◌, arith}
use Rattle.std.proofs.lemmas.Grind.{common_steps}
use Rattle.tw_terms.specs.Occurs.{is_word_here}
use Rattle.tw_terms.proofs.Occurrences.{word_here}
use Rattle.tw_terms.proofs.occurrence.has_word_in.Goals as goal

pub returns-then-is_word_here : goal.returns-then-is_word_here
returns-then-is_word_here c =
    let at = c.loop-at.at in
    let text = c.args.text.now in
    let all : drop at text ≡ take (length text - at) (drop at text) = grind (arith, common_steps) in
    sym (word_here c.loop-at.before c.args.value.now (drop at text)
    (ap (is_word_here c.loop-at.before c.args.value.now) all ∙ sym c.is_word_here.ensures ∙ c.if-is_word_here.true))
    ∙ c.loop-at.invariant
