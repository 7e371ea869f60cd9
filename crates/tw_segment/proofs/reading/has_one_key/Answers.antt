use Rattle.std.proofs.Common.{ap, ◌∙◌, nat_eq}
use Rattle.serde_json.specs.View.{view}
use Rattle.tw_segment.proofs.Keys.{one_key_at}
use Rattle.tw_segment.proofs.reading.has_one_key.Goals as goal

pub returns-in-Some : goal.returns-in-Some
returns-in-Some c = ap (λ n. nat_eq n 1) c.len.ensures.len ∙ one_key_at (view c.args.value.now) c.in-Some.members.now.entries c.in-Some.ensures
