-- the flags are set by the tokens so far
use Rattle.std.proofs.Common.{◌≡◌, ℕ, ◌+◌, ◌<◌, false, length, get_or, take}
use Rattle.std.specs.List.{list_any}
use Rattle.tw_filter.specs.NamedTasks.{names_number}
use Rattle.tw_filter.proofs.named_tasks.flags_of.Given as goal

abbrev pub invariant-loop-token : goal.invariant-loop-token
invariant-loop-token l = record {
  as_many : length l.flags.items ≡ l.places;
  set : (k : ℕ) → k < l.places → get_or l.flags.items k false ≡ list_any (names_number (k + 1)) (take l.token-index l.tokens);
}
