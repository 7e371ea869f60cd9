-- the modifications left, made of the draft, give what all give
use Rattle.std.proofs.Common.{◌≡◌, drop}
use Rattle.tw_words.specs.Changed.{modified_by, beginning}
use Rattle.tw_words.proofs.changes.apply.Given as goal

abbrev pub invariant-loop-change : goal.invariant-loop-change
invariant-loop-change l = modified_by l.draft (drop l.change-index l.changes.items) ≡ modified_by (beginning l.fn.map) l.changes.items
