-- what is left gives what all give, and no more brackets are open than tokens were seen
use Rattle.std.proofs.Common.{◌≡◌, ◌≤◌, false, drop}
use Rattle.tw_filter.specs.Looked.{first_listing}
use Rattle.tw_filter.proofs.listing.first_listing.Given as goal

abbrev pub invariant-loop-token : goal.invariant-loop-token
invariant-loop-token l = record { few : l.depth ≤ l.token-index; same : first_listing l.depth l.is_turned (drop l.token-index l.tokens) ≡ first_listing 0 false l.tokens }
