use Rattle.std.proofs.Common.{◌≡◌, ◌∙◌, sym, arith, slice_index, ◌==◌, false, length}
use Rattle.tw_time.proofs.LengthFacts.{no_p_if_empty, no_p_if_other, numbered-plain}
use Rattle.tw_time.proofs.length.numbered.Goals as goal
use Rattle.tw_time.proofs.length.numbered.Goals.{else-not-is_empty-via-then-not-is_empty+else-text-eq80, else-not-is_empty-via-else-not-is_empty}

pub returns-else-not-is_empty : goal.returns-else-not-is_empty
returns-else-not-is_empty c =
    let text = c.args.text.now in
    let plain : (slice_index text 0 == 80) ≡ false = elim c.else-not-is_empty.branch [
      | else-not-is_empty-via-then-not-is_empty+else-text-eq80 w ↦ no_p_if_other _ w.if-text-eq80.false
      | else-not-is_empty-via-else-not-is_empty w ↦ let none : length text ≡ 0 = grind (arith, c.is_empty.ensures, w.if-not-is_empty.false) in no_p_if_empty text none
    ] in
    c.counted-else-not-is_empty.ensures ∙ sym (numbered-plain text plain)
