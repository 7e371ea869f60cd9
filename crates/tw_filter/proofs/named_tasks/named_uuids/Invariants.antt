-- the uuids that have flags, and those that the tokens so far are
use Rattle.std.proofs.Common.{◌≡◌, ◌-◌, ◌||◌, ℕ, List, take, get_or, false}
use Rattle.std.specs.BTreeSet as set
use Rattle.std.specs.List.{list_any}
use Rattle.tw_model.specs.Maps.{bytes_cmp}
use Rattle.tw_model.specs.Places.{id_of}
use Rattle.tw_urgency.specs.Dependencies.{is_that}
use Rattle.tw_terms.specs.Holds.{passes}
use Rattle.tw_filter.specs.NamedTasks.{uuid_in}
use Rattle.tw_filter.proofs.named_tasks.named_uuids.Given as goal

abbrev pub invariant-loop-token : goal.invariant-loop-token
invariant-loop-token l = (u : List ℕ) → set.contains bytes_cmp l.uuids u
    ≡ (passes (λ id. get_or l.flags.items (id - 1) false) (id_of u l.places.items) || list_any (λ t. is_that u (uuid_in t)) (take l.token-index l.tokens))
