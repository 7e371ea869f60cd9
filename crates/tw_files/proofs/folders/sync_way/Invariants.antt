use Rattle.std.proofs.Common.{◌≡◌, ℕ, ◌+◌, ◌<◌, false, take, get_or, nat_eq}
use Rattle.std.specs.Prelude.{codes}
use Rattle.std.specs.List.{starts_with}
use Rattle.tw_files.proofs.folders.sync_way.Given as goal

abbrev pub invariant-loop-at : goal.invariant-loop-at
invariant-loop-at g l = ((k : ℕ) → k < l.at → get_or l.path k 0 ≡ 47 → g.S.Folders.has_stable_names l.system (take (k + 1) l.path)) × (starts_with nat_eq l.path (codes "/") ≡ false → g.S.Folders.has_stable_names l.system (codes "."))
