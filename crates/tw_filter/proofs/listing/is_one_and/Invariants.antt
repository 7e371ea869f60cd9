-- what is left gives what all give, and no more brackets are open than tokens were seen
use Rattle.std.proofs.Common.{◌≡◌, ◌≤◌, drop}
use Rattle.tw_filter.specs.Looked.{is_one_and}
use Rattle.tw_filter.proofs.listing.is_one_and.Given as goal

abbrev pub invariant-loop-token : goal.invariant-loop-token
invariant-loop-token l = record { few : l.depth ≤ l.token-index; same : is_one_and l.depth (drop l.token-index l.tokens) ≡ is_one_and 0 l.tokens }
