use Rattle.std.proofs.Common.{refl}
use Rattle.timew_cmd.specs.Labels.{with_tags}
use Rattle.timew_cmd.specs.Seconds.{more_tags}
use Rattle.timew_cmd.proofs.LabelledSeconds.{label_changes}
use Rattle.timew_cmd.proofs.laws.tag_gives_its_seconds_more_tags.Goals as goal

pub returns : goal.returns
returns c = λ parts rows next now ids found is. label_changes parts.ids ids (with_tags parts.tags) (more_tags parts.tags) rows next (λ r s. refl) (λ r. refl) found is
