use Rattle.std.proofs.Common.{◌≡◌, drop}
use Rattle.timew_month.specs.NamedFiles.{text_in}
use Rattle.timew_month.specs.MonthTexts.{texts_of}
use Rattle.timew_month.proofs.write.changes.is_text.Given as goal

abbrev pub invariant-loop-text : goal.invariant-loop-text
invariant-loop-text l = l.rest ≡ text_in (texts_of (drop l.text-index l.texts.items)) l.name → l.bytes ≡ text_in (texts_of l.texts.items) l.name
