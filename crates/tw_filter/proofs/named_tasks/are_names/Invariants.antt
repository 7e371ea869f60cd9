use Rattle.std.proofs.Common.{◌≡◌, drop}
use Rattle.std.specs.List.{list_all}
use Rattle.tw_terms.specs.Tokens.{is_name}
use Rattle.tw_filter.proofs.named_tasks.are_names.Given as goal

abbrev pub invariant-loop-token : goal.invariant-loop-token
invariant-loop-token l = list_all is_name (drop l.token-index l.tokens) ≡ list_all is_name l.tokens
