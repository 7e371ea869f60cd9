use Rattle.std.proofs.Common.{◌≡◌, drop}
use Rattle.tw_time.specs.Tables.{entries}
use Rattle.tw_time.specs.Moments.{formed}
use Rattle.tw_time.proofs.moment.formed.Given as goal

abbrev pub invariant-loop-form : goal.invariant-loop-form
invariant-loop-form l =
    formed l.text (entries (drop l.form-index l.table)) ≡ formed l.text (entries l.table)
