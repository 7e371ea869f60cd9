use Rattle.tw_changes.proofs.DependencyPaths.{leads_by_paths}
use Rattle.tw_changes.proofs.laws.a_circle_is_a_path.Goals as goal

pub returns : goal.returns
returns c = leads_by_paths
