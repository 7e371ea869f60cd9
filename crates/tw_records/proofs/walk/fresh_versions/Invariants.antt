use Rattle.std.proofs.Common.{◌≡◌, ◌≤◌, take}
use Rattle.tw_records.specs.Opening.{fresh_after}
use Rattle.tw_records.proofs.walk.fresh_versions.Given as goal

abbrev pub invariant-loop-kind : goal.invariant-loop-kind
invariant-loop-kind l = record {
  fresh : l.fresh ≡ fresh_after 0 (take l.kind-index l.kinds);
  few : l.fresh ≤ l.kind-index;
}
