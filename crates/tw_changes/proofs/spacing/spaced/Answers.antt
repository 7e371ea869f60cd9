use Rattle.std.proofs.Common.{◌∙◌, string_bytes, codes}
use Rattle.tw_changes.proofs.JoinedWords.{join_by-map}
use Rattle.tw_changes.proofs.spacing.spaced.Goals as goal

pub returns : goal.returns
returns c = c.in_ok-join.ensures.ok ∙ join_by-map string_bytes (codes " ") c.args.words.now
