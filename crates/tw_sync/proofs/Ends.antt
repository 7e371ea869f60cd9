-- A new replica agrees with a chain, and what a sync added was sent.
use Rattle.std.proofs.Common.{◌≡◌, ◌⊎◌, List, [], ◌∷◌, ◌++◌, inl, inr, refl, sym, subst}
use Rattle.std.proofs.lemmas.List.{append_assoc}
use Rattle.tw_protocol.specs.Chain.{Version, IsBetween}
use Rattle.tw_state.specs.State.{State, start}
use Rattle.tw_state.proofs.Soundness as replica
use Rattle.tw_path.specs.Path.{Leg, versions_of}
use Rattle.tw_path.specs.Path.Leg.{Push}
use Rattle.tw_path.proofs.Sending.{push_was_sent}
use Rattle.tw_path.proofs.Versions.{first_between}
use Rattle.tw_outcome.specs.End.{starts_at}
use Rattle.tw_outcome.proofs.Ends.{start_stands_beside}
use Rattle.tw_sync.specs.Way.Cursor.{place}
use Rattle.tw_sync.specs.Laws.{NewReplicaAgrees, AddedWasSent}
use Rattle.tw_sync.proofs.Legs.{at_on}

pub new_replica_agrees : NewReplicaAgrees
new_replica_agrees chain = record {
  sound = replica.stands_sound [] start refl;
  folded = record { front = []; back = chain; cut = record { split = refl; at = refl }; ops = []; reads = refl; made = refl };
}

-- ---- what was sent

some_legs : (legs more : List Leg) (leg : Leg) → legs ++ leg ∷ more ≡ [] → ⊥
some_legs [] more leg e = cc
some_legs (x ∷ legs) more leg e = cc

-- the versions up to one of a path lie in the chain
up_to : (state : State) (chain : List Version) (legs more : List Leg) (leg : Leg) → (legs ++ leg ∷ more ≡ []) ⊎ IsBetween chain state.base (place state (legs ++ leg ∷ more)).at (versions_of (legs ++ leg ∷ more))
    → IsBetween chain state.base (place state (legs ++ leg ∷ [])).at (versions_of (legs ++ leg ∷ []))
up_to state chain legs more leg (inl none) = absurd (some_legs legs more leg none)
up_to state chain legs more leg (inr is) =
    first_between chain (starts_at state) (legs ++ leg ∷ []) more (place state (legs ++ leg ∷ more)).at
    (subst (λ ls. IsBetween chain state.base (place state (legs ++ leg ∷ more)).at (versions_of ls)) (sym (append_assoc legs (leg ∷ []) more)) is)

pub added_was_sent : AddedWasSent
added_was_sent old before after legs more v ops sound went =
    push_was_sent (starts_at old) after.chain legs more v ops (start_stands_beside old sound).fits went.path
    (subst (λ h. IsBetween after.chain old.base h (versions_of (legs ++ Push v ops ∷ []))) (at_on old legs (Push v ops)) (up_to old after.chain legs more (Push v ops) went.between))
