-- What a path has one version more of.
use Rattle.std.proofs.Common.{◌≡◌, ◌+◌, length, List, [], ◌∷◌, ◌++◌, refl, sym, ap, ◌∙◌, arith}
use Rattle.std.proofs.lemmas.List.{append-nil, append_assoc}
use Rattle.tw_model.specs.declared.SyncOp.{SyncOp}
use Rattle.tw_protocol.specs.Chain.{Version}
use Rattle.tw_state.specs.State.{State}
use Rattle.tw_path.specs.Path.{Reached, Leg, passed, versions_of, version_on, ops_of, ops_on, added_of, added_on, pulled_of, sent_of}
use Rattle.tw_path.specs.Path.Leg.{Pull, Push}
use Rattle.tw_path.proofs.Paths.{come-append}
use Rattle.tw_path.proofs.Versions.{versions-append}
use Rattle.tw_outcome.specs.End.{starts_at}
use Rattle.tw_sync.specs.Way.Cursor.{place, pulled_len}

passed_at : (r : Reached) (leg : Leg) → (passed r leg).at ≡ (version_on leg).id
passed_at r (Pull v ops) = refl
passed_at r (Push v ops) = refl

pub place_on : (state : State) (legs : List Leg) (leg : Leg) → place state (legs ++ leg ∷ []) ≡ passed (place state legs) leg
place_on state legs leg = come-append (starts_at state) legs (leg ∷ [])

pub at_on : (state : State) (legs : List Leg) (leg : Leg) → (place state (legs ++ leg ∷ [])).at ≡ (version_on leg).id
at_on state legs leg = ap (λ (r : Reached). r.at) (place_on state legs leg) ∙ passed_at (place state legs) leg

pub versions_on : (legs : List Leg) (leg : Leg) → versions_of (legs ++ leg ∷ []) ≡ versions_of legs ++ version_on leg ∷ []
versions_on legs leg = versions-append legs (leg ∷ [])

ops-append : (legs more : List Leg) → ops_of (legs ++ more) ≡ ops_of legs ++ ops_of more
ops-append [] more = refl
ops-append (leg ∷ legs) more = ap (λ xs. ops_on leg ++ xs) (ops-append legs more) ∙ sym (append_assoc (ops_on leg) (ops_of legs) (ops_of more))

pub ops_last : (legs : List Leg) (leg : Leg) → ops_of (legs ++ leg ∷ []) ≡ ops_of legs ++ ops_on leg
ops_last legs leg = ops-append legs (leg ∷ []) ∙ ap (λ xs. ops_of legs ++ xs) (append-nil (ops_on leg))

pub added-append : (legs more : List Leg) → added_of (legs ++ more) ≡ added_of legs ++ added_of more
added-append [] more = refl
added-append (leg ∷ legs) more = ap (λ vs. added_on leg ++ vs) (added-append legs more) ∙ sym (append_assoc (added_on leg) (added_of legs) (added_of more))

-- ---- one that is pulled

pub added_pull : (legs : List Leg) (v : Version) (ops : List SyncOp) → added_of (legs ++ Pull v ops ∷ []) ≡ added_of legs
added_pull legs v ops = added-append legs (Pull v ops ∷ []) ∙ append-nil (added_of legs)

pub pulled_pull : (legs : List Leg) (v : Version) (ops : List SyncOp) → pulled_of (legs ++ Pull v ops ∷ []) ≡ pulled_of legs + 1
pulled_pull [] v ops = refl
pulled_pull (leg ∷ legs) v ops = let rest = pulled_pull legs v ops in omega (arith, rest)

pub sent_pull : (legs : List Leg) (v : Version) (ops : List SyncOp) → sent_of (legs ++ Pull v ops ∷ []) ≡ sent_of legs
sent_pull [] v ops = refl
sent_pull (leg ∷ legs) v ops = let rest = sent_pull legs v ops in omega (arith, rest)

pub len_pull : (legs : List Leg) (v : Version) (ops : List SyncOp) → pulled_len (legs ++ Pull v ops ∷ []) ≡ pulled_len legs + length v.segment
len_pull [] v ops = omega arith
len_pull (Pull w xs ∷ legs) v ops = let rest = len_pull legs v ops in omega (arith, rest)
len_pull (Push w xs ∷ legs) v ops = len_pull legs v ops

-- ---- one that is pushed

pub added_push : (legs : List Leg) (v : Version) (ops : List SyncOp) → added_of (legs ++ Push v ops ∷ []) ≡ added_of legs ++ v ∷ []
added_push legs v ops = added-append legs (Push v ops ∷ [])

pub pulled_push : (legs : List Leg) (v : Version) (ops : List SyncOp) → pulled_of (legs ++ Push v ops ∷ []) ≡ pulled_of legs
pulled_push [] v ops = refl
pulled_push (leg ∷ legs) v ops = let rest = pulled_push legs v ops in omega (arith, rest)

pub sent_push : (legs : List Leg) (v : Version) (ops : List SyncOp) → sent_of (legs ++ Push v ops ∷ []) ≡ sent_of legs + length ops
sent_push [] v ops = omega arith
sent_push (leg ∷ legs) v ops = let rest = sent_push legs v ops in omega (arith, rest)

pub len_push : (legs : List Leg) (v : Version) (ops : List SyncOp) → pulled_len (legs ++ Push v ops ∷ []) ≡ pulled_len legs
len_push [] v ops = refl
len_push (Pull w xs ∷ legs) v ops = let rest = len_push legs v ops in omega (arith, rest)
len_push (Push w xs ∷ legs) v ops = len_push legs v ops
