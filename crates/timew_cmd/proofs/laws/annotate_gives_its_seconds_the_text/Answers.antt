use Rattle.std.proofs.Common.{refl}
use Rattle.timew_cmd.specs.Commands.Annotate.{as_ids}
use Rattle.timew_cmd.specs.Labels.{with_annotation}
use Rattle.timew_cmd.proofs.LabelledSeconds.{label_changes}
use Rattle.timew_cmd.proofs.laws.annotate_gives_its_seconds_the_text.Goals as goal

pub returns : goal.returns
returns c = λ parts rows next now ids found is. label_changes (as_ids parts.id) ids (with_annotation parts.text) (λ c. record { tags = c.tags; annotation = parts.text }) rows next (λ r s. refl) (λ r. refl) found is
