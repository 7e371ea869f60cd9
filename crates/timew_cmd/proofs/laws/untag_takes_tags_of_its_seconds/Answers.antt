use Rattle.std.proofs.Common.{refl}
use Rattle.timew_cmd.specs.Labels.{without_tags}
use Rattle.timew_cmd.specs.Seconds.{fewer_tags}
use Rattle.timew_cmd.proofs.LabelledSeconds.{label_changes}
use Rattle.timew_cmd.proofs.laws.untag_takes_tags_of_its_seconds.Goals as goal

pub returns : goal.returns
returns c = λ parts rows next now ids found is. label_changes parts.ids ids (without_tags parts.tags) (fewer_tags parts.tags) rows next (λ r s. refl) (λ r. refl) found is
