-- A file opens to one state.
use Rattle.std.specs.Prelude.{Some}
use Rattle.std.proofs.Common.{◌≡◌, ◌∙◌, List, ℕ, ap, sym}
use Rattle.tw_journal.proofs.Unique.{one_records}
use Rattle.tw_state.specs.State.{State, start, replayed}
use Rattle.tw_replica.specs.Replica.{magic}
use Rattle.tw_check.specs.Look.{OpensToOneState}

some_is : (a b : State) → Some a ≡ Some b → a ≡ b
some_is a b e = cc

pub one_state : OpensToOneState
one_state file a b x y =
    some_is a b (sym x.stands ∙ ap (replayed start) (one_records magic file x.bodies y.bodies x.records y.records) ∙ y.stands)
