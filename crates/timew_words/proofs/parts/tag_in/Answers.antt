use Rattle.std.proofs.Common.{ap, sym, ◌∙◌, ◌==◌, length}
use Rattle.timew_words.proofs.Printable.{cell_tag}
use Rattle.timew_words.proofs.parts.tag_in.Goals as goal

pub returns-clause-good : goal.returns-clause-good
returns-clause-good c =
    cell_tag c.in_ok-from_str.field-0 c.args.word.now.text.now (c.in_ok-from_str.ensures ∙ c.as_str-2.ensures.value ∙ c.in_ok-text.ensures) (ap (λ t. length t == 0) (c.in_ok-from_str.ensures ∙ c.as_str-2.ensures.value ∙ sym c.as_str.ensures.value) ∙ sym c.is_empty.ensures ∙ c.if-is_empty.false)
