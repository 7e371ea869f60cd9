-- What a sync has sent and asked that has gone a path.
use Rattle.std.proofs.Common.{◌≡◌, ◌⊎◌, ℕ, ◌+◌, ◌≤◌, inl, inr, length, List, [], ◌++◌, refl, sym, ap, arith, length-append}
use Rattle.std.proofs.lemmas.List.{append-nil}
use Rattle.tw_model.specs.declared.SyncOp.{SyncOp}
use Rattle.tw_protocol.specs.Chain.{IsChain, IsBetween, Grows}
use Rattle.tw_http.specs.Link.{LinkModel, IsHonest}
use Rattle.tw_state.specs.Sound.{IsSound}
use Rattle.tw_state.specs.State.{State}
use Rattle.tw_path.specs.Path.{Leg, versions_of, added_of}
use Rattle.tw_path.specs.Sent.{WasSent, SendsLater}
use Rattle.tw_path.proofs.Sending.{sent_is_never_sent_again}
use Rattle.tw_outcome.specs.End.{ServerChain, starts_at, Went}
use Rattle.tw_outcome.proofs.Ends.{start_stands_beside}
use Rattle.tw_sync.specs.Replies.Heard.{most_exchanges}
use Rattle.tw_sync.specs.Sync.{server_chain}
use Rattle.tw_sync.specs.Way.{WentOn}
use Rattle.tw_sync.specs.Way.Cursor.{place}
use Rattle.tw_sync.specs.Contract.{AsksFewFor}
use Rattle.tw_sync.specs.declared.error.SyncError.{SyncError}
use Rattle.tw_sync.proofs.Legs.{added-append}

-- a path sends nothing again
pub never_again : (state : State) (before after : ServerChain) (legs : List Leg) (mine later : List SyncOp) (w : List ℕ) → IsSound state → IsChain after.chain → Grows before.chain after.chain → Went (starts_at state) before after legs → (was : WasSent (starts_at state) before.chain mine later w)
    → (added_of legs ≡ []) ⊎ SendsLater (starts_at state) legs w mine later was.pulled
never_again state before after legs mine later w sound whole grows went was = by went.between
  where
    by : (legs ≡ []) ⊎ IsBetween after.chain state.base (place state legs).at (versions_of legs) → (added_of legs ≡ []) ⊎ SendsLater (starts_at state) legs w mine later was.pulled
    by (inl none) = inl (ap added_of none)
    by (inr is) = sent_is_never_sent_again before.chain after.chain (starts_at state) legs mine later w whole grows (start_stands_beside state sound).fits went.path is went.behind was

-- what was asked besides is within the bound of all that was added
pub few_with_untold : {L : Type 0} (m : LinkModel L) (state : State) (first now : L) (legs : List Leg) (e : SyncError) (pulled : ℕ) → WentOn state (server_chain m first) (server_chain m now) legs e → m.exchanges now ≤ m.exchanges first + most_exchanges pulled + length (added_of legs) + 1 → AsksFewFor m first now pulled 1
few_with_untold m state first now legs e pulled w few = (
  added_of (legs ++ w.untold),
  w.went.mine,
  (let a = ap length (added-append legs w.untold) in let b = length-append (added_of legs) (added_of w.untold) in omega (arith, few, a, b)),
)

-- nothing was asked
pub nowhere : {L : Type 0} (m : LinkModel L) (client : List ℕ) (state : State) (link : L) → IsHonest m link client → Went (starts_at state) (server_chain m link) (server_chain m link) []
nowhere m client state link honest = record { path = tt; between = inl refl; mine = sym (append-nil (m.own link)); behind = tt }
