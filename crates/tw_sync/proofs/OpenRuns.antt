-- A sync of an open replica: whether it asks for the snapshot first, and its end.
use Rattle.std.proofs.Common.{◌≡◌, ◌⊎◌, ℕ, inl, inr, List, Result, Ok, Err, subst, sym, ap}
use Rattle.std.specs.Prelude.{option_map}
use Rattle.std.specs.Result.{IfOk, IfErr, IsErrAnd}
use Rattle.tw_world.specs.Disk.{DiskModel}
use Rattle.tw_http.specs.Link.{LinkModel}
use Rattle.tw_http.specs.declared.message.Response.{Response}
use Rattle.tw_http.specs.declared.message.HttpError.{HttpError}
use Rattle.tw_state.specs.Core.{state_of}
use Rattle.tw_replica.specs.declared.replica.Replica.{Replica}
use Rattle.tw_sync.specs.Start.{Start, AsksSnapshot}
use Rattle.tw_sync.specs.Replies.Answers.{NoReply}
use Rattle.tw_sync.specs.Ends.Causes.{of_ask}
use Rattle.tw_sync.specs.Ends.Offer.{HasLetter, reported}
use Rattle.tw_sync.specs.Contract.{AnyEnd, DoneEnd, RefusedEnd, EndsOpen, RunsOpen}
use Rattle.tw_sync.specs.declared.offer.Done.{Done}
use Rattle.tw_sync.specs.declared.report.SyncReport.{SyncReport}
use Rattle.tw_sync.specs.declared.error.AskError.{AskError}
use Rattle.tw_sync.specs.declared.error.SyncError.{SyncError}
use Rattle.tw_sync.specs.declared.error.SyncError.TheVariants as errors

-- whatever its reply is
pub asked_any : {L : Type 0} (m : LinkModel L) (client host : List ℕ) (first now : L) (Q : Result Response HttpError → Type 0) → AsksSnapshot m client host first now Q → AsksSnapshot m client host first now (λ reply. Unit {0})
asked_any m client host first now Q a = record {
  kept = a.kept;
  count = a.count;
  on = a.on;
  mine = a.mine;
  heard_is = λ tells. (let h = a.heard_is tells in (h.0, h.1, tt));
}

pub no_reply : (e : AskError) → NoReply e → (of_ask e ≡ errors.Link) ⊎ (of_ask e ≡ errors.Memory)
no_reply e (inl is) = inl (ap of_ask is)
no_reply e (inr is) = inr (ap of_ask is)

if_done : (r : Result Done SyncError) (P : SyncReport → Type 0) → IfOk r (λ done. P done.report) → IfOk (reported r) P
if_done (Ok done) P p = p
if_done (Err e) P p = tt

if_refused : (r : Result Done SyncError) (P : SyncError → Type 0) → IfErr r P → IfErr (reported r) P
if_refused (Ok done) P p = tt
if_refused (Err e) P p = p

module _ {D L : Type 0} (d : DiskModel D) (m : LinkModel L) (client host : List ℕ) where
  -- a refusal that is handed on
  pub passed_open : (old new : Replica) (before after : D) (first now : L) (r : Result Done SyncError) (e : SyncError) → IsErrAnd r (λ x. x ≡ e) → RunsOpen d m client host old new before after first now (Err e) → RunsOpen d m client host old new before after first now r
  passed_open old new before after first now (Ok done) e is run = absurd is
  passed_open old new before after first now (Err x) e is run = subst (λ y. RunsOpen d m client host old new before after first now (Err y)) (sym is) run

  pub ends_open : (start : Start) (old new : Replica) (before after : D) (first now : L) (r : Result Done SyncError) → AnyEnd d m client start old new before after first now → IfOk r (λ done. DoneEnd d m client host start old new before after first now done.report)
      → IfErr r (RefusedEnd d m client host start old new before after first now) → IfOk r (λ done. HasLetter m client host (state_of old.core) (state_of new.core) first now (option_map (λ v. v.items) done.letter)) → EndsOpen d m client host start old new before after first now r
  ends_open start old new before after first now r any done refused letter = record {
    ends = record {
      any = any;
      done = if_done r (DoneEnd d m client host start old new before after first now) done;
      refused = if_refused r (RefusedEnd d m client host start old new before after first now) refused;
    };
    letter = letter;
  }
