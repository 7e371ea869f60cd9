use Rattle.std.proofs.Common.{List, ℕ, ◌++◌, codes, sym, ap, ◌∙◌}
use Rattle.std.specs.Str.{is_utf8}
use Rattle.timew_interval.specs.Line.{tail_text}
use Rattle.timew_month.proofs.ExactLine.{after_is}
use Rattle.timew_interval.proofs.SameBytes.{same_bytes_exact}
use Rattle.timew_interval.proofs.RisingTags.{utf8_is}
use Rattle.timew_month.proofs.read.tail.is_written.Goals as goal

pub returns-in-Some : goal.returns-in-Some
returns-in-Some c = λ is.
    let rest = c.in-Some.rest.now in
    let text = c.deref.result.now in
    let note = c.as_bytes.ensures.value ∙ c.as_str.ensures in
    record {
      text = ap (λ (l : List ℕ). codes " # " ++ l) (sym (same_bytes_exact rest c.args.bytes.now (sym c.eq.ensures ∙ is)))
          ∙ sym (after_is (codes " # ") text rest (sym c.in-Some.ensures)) ∙ c.deref.ensures.value ∙ c.in_ok-put_tail.ensures.text
          ∙ ap (λ (l : List ℕ). l ++ tail_text c.args.tags.now c.as_bytes.result.now) c.in_ok-text.ensures.items
          ∙ ap (tail_text c.args.tags.now) note;
      utf8 = c.in_ok-put_tail.ensures.utf8;
      note_utf8 = ap is_utf8 (sym c.as_str.ensures) ∙ utf8_is c.as_str.result.now c.as_str.utf8;
    }
