use Rattle.std.specs.Prelude.{string_bytes}
use Rattle.std.proofs.Common.{◌≡◌, drop}
use Rattle.timew_cmd.specs.Texts.{tags_after, tags_text}
use Rattle.timew_cmd.proofs.texts.tags_text.Given as goal

abbrev pub invariant-loop-n : goal.invariant-loop-n
invariant-loop-n l = tags_after (string_bytes l.text) (drop l.n l.tags) ≡ tags_text l.tags
