use Rattle.std.proofs.Common.{◌≡◌, drop}
use Rattle.tw_time.specs.Forms.{filled, filled_after}
use Rattle.tw_time.proofs.form.filled.Given as goal

abbrev pub invariant-loop-i : goal.invariant-loop-i
invariant-loop-i l = filled_after l.parts (drop l.i l.form) (drop l.i l.text) ≡ filled l.form l.text
