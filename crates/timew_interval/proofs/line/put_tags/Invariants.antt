use Rattle.std.proofs.Common.{◌≡◌, ◌++◌, ◌<◌, ℕ, [], true, drop}
use Rattle.std.specs.Prelude.{slice_index_or}
use Rattle.std.specs.Str.{is_utf8}
use Rattle.timew_interval.specs.Line.{tags_text}
use Rattle.timew_interval.proofs.line.put_tags.Given as goal

abbrev pub invariant-loop-n : goal.invariant-loop-n
invariant-loop-n l = (l.out.items ++ tags_text (drop l.n l.tags) ≡ l.fn.out.items ++ tags_text l.tags) × ((k : ℕ) → k < l.n → is_utf8 (slice_index_or l.tags k []) ≡ true)
