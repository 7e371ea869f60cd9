-- A sync is refused before a reply is read.
use Rattle.std.proofs.Common.{◌^◌, ◌≡◌, ℕ, inl, inr, Bool, true, false, cond, List, [], None, refl, sym, ap, ◌∙◌, arith}
use Rattle.std.proofs.lemmas.List.{append-nil}
use Rattle.std.proofs.lemmas.Bool.{true≢false}
use Rattle.std.proofs.lemmas.Cmp.{nat_list_eq_equiv}
use Rattle.tw_world.specs.Disk.{DiskModel, LeavesOnly, Rose}
use Rattle.tw_journal.specs.Journal.{is_closed}
use Rattle.tw_journal.specs.declared.error.AppendError.TheVariants as journal
use Rattle.tw_http.specs.Link.{LinkModel, IsHonest, IsChainOf}
use Rattle.tw_state.specs.State.{State}
use Rattle.tw_state.specs.Core.{state_of}
use Rattle.tw_replica.specs.Replica.{IsReplicaOn, OpensToEither, GrowsBy}
use Rattle.tw_replica.specs.declared.replica.Replica.{Replica}
use Rattle.tw_replica.specs.declared.error.RecordError.TheVariants as records
use Rattle.tw_path.specs.Path.{Reached}
use Rattle.tw_outcome.specs.End.{starts_at, stands_at, Went}
use Rattle.tw_outcome.specs.End.Answer.{Stopped, Unwritten}
use Rattle.tw_sync.specs.Start.{Start, from_state}
use Rattle.tw_sync.specs.Start.Start.{Base}
use Rattle.tw_sync.specs.Ends.End.{EndFrom, IsStopping}
use Rattle.tw_sync.specs.Replies.Answers.{AskRefused, NoReply}
use Rattle.tw_sync.specs.Ends.Causes.{of_ask}
use Rattle.tw_sync.specs.Replies.Given.{IsUnheard}
use Rattle.tw_sync.specs.Ends.Refused.{HeardRefused, SyncRefused}
use Rattle.tw_sync.specs.Sync.{server_chain}
use Rattle.tw_sync.specs.Way.{IsUnpassed}
use Rattle.tw_sync.specs.Ends.Honest.{HonestRefused, IsWant, CanSync}
use Rattle.tw_sync.specs.Replies.Measured.{IsMeasured}
use Rattle.tw_sync.specs.Contract.{AnyEnd, RefusedEnd, EndsRefused}
use Rattle.tw_sync.specs.declared.error.AskError.{AskError}
use Rattle.tw_sync.specs.declared.error.AskError.TheVariants as asking
use Rattle.tw_sync.specs.declared.error.SyncError.{SyncError}
use Rattle.tw_sync.specs.declared.error.SyncError.TheVariants as errors
use Rattle.tw_sync.proofs.Folds.{agrees_is_kept}
use Rattle.tw_sync.proofs.Hearing.{hears_none, hears_until, kept_same}
use Rattle.tw_sync.proofs.ExpectedReplies.{goes_on_none}
use Rattle.tw_sync.proofs.NotMoved.{never_stopping}
use Rattle.tw_sync.proofs.ReplicaMoved.{stopped_state}
use Rattle.tw_sync.proofs.PullRefused.{went_on}
use Rattle.tw_sync.proofs.ToldBefore.{tells_all}
use Rattle.tw_sync.proofs.Served.{grows_same}

-- nothing was asked
pub unasked : {L : Type 0} (m : LinkModel L) (client host : List ℕ) (link : L) (e : SyncError) → IsChainOf m link → IsUnheard m client host link link e
unasked m client host link e whole = record {
  kept = kept_same m link;
  count = omega arith;
  on = λ honest. record { honest = honest; whole = (whole (record { honest = honest.honest; tells = honest.tells })).whole; grows = grows_same (m.chain link) };
  mine = λ honest. refl;
  hears = λ tells. hears_until m client host link link [] e (hears_none m client host link);
}

module _ {D L : Type 0} (d : DiskModel D) (m : LinkModel L) (client host : List ℕ) (start : Start) (old : Replica) (disk : D) (first now : L) (e : SyncError) (u : IsUnheard m client host first now e) where
  abbrev state : State
  state = state_of old.core

  abbrev begin : Reached
  begin = starts_at (from_state start state)

  stays_there : IsHonest m first client → Went begin (server_chain m first) (server_chain m now) []
  stays_there honest = record { path = tt; between = inl refl; mine = u.mine honest ∙ sym (append-nil (m.own first)); behind = tt }

  pub kept_end : IsHonest m first client → EndFrom Unwritten start state state (server_chain m first) (server_chain m now)
  kept_end honest = ((u.on honest).grows, record { legs = []; went = stays_there honest; state = refl })

  pub stopped_here : state ≡ stands_at state begin → IsHonest m first client → EndFrom Stopped start state state (server_chain m first) (server_chain m now)
  stopped_here stays honest = ((u.on honest).grows, record { legs = []; untold = []; few = inl refl; went = stays_there honest; state = stays })

  pub unheard_any : ((bodies : List (List ℕ)) → IsReplicaOn d old disk bodies → LeavesOnly d disk disk (OpensToEither state None)) → GrowsBy d old disk disk (2 ^ 30) → AnyEnd d m client start old old disk disk first now
  unheard_any leaves grown = record {
    agrees = λ honest a fold. agrees_is_kept state (m.chain first) (m.chain now) a (u.on honest).grows;
    grows = λ honest. (u.on honest).grows;
    any_moment = λ bodies on. record { next = None; made = tt; end = λ h. tt; leaves = leaves bodies on };
    growth = grown;
    link_kept = u.kept;
  }

  pub unheard_refused : IsUnpassed e [] → (IsStopping e → state ≡ stands_at state begin) → EndsRefused m client start old old first now e → SyncRefused d m old old disk disk first now e → (IsHonest m first client → HonestRefused start state (server_chain m first) (server_chain m now) e)
      → HeardRefused client [] e → IsMeasured start state client [] e → (CanSync d m start old disk disk first now client host → IsWant e) → RefusedEnd d m client host start old old disk disk first now e
  unheard_refused passed stays ended refused says heard len want = record {
    ended = ended;
    records = λ so bodies on. inl (record { base = refl; same = record { state = refl; journal = refl; disk = refl } });
    way = record {
      legs = [];
      path = tt;
      heard = λ tells. ([], u.hears tells, tells_all [] e [] passed refl);
      went = λ honest. went_on (from_state start state) (server_chain m first) (server_chain m now) [] e (stays_there honest);
      state = stays;
    };
    cancels = λ honest mine later w was. ([], stays_there honest, inl refl);
    refused = refused;
    honest = says;
    complete = want;
    heard = λ tells. ([], u.hears tells, heard, λ honest. ([], u.mine honest ∙ sym (append-nil (m.own first)), (let n = u.count in omega (arith, n))));
    measured = λ tells. ([], u.hears tells, len);
  }

-- a path that goes nowhere ends where it starts
at_start : (state : State) → state ≡ stands_at state (starts_at state)
at_start state = sym (ap (λ (b : Bool). cond b state (stopped_state state (starts_at state))) (nat_list_eq_equiv.refl state.base))

module _ {D L : Type 0} (d : DiskModel D) (m : LinkModel L) (client host : List ℕ) (old : Replica) (disk : D) (first now : L) where
  -- there was no memory
  pub no_memory : (start : Start) → is_closed old.journal ≡ false → IsUnheard m client host first now errors.Memory → RefusedEnd d m client host start old old disk disk first now errors.Memory
  no_memory start live u =
      unheard_refused d m client host start old disk first now errors.Memory u (inl refl) (λ is. absurd (never_stopping records.Memory is)) (kept_end d m client host start old disk first now errors.Memory u)
      (record { same = record { state = refl; journal = refl; disk = refl }; is_open = live }) (λ honest. tt) (record { cause = tt; until = inl goes_on_none }) tt (λ can. inl refl)

  -- the link failed
  no_link : is_closed old.journal ≡ false → Rose (m.faults first) (m.faults now) → IsUnheard m client host first now errors.Link → RefusedEnd d m client host Base old old disk disk first now errors.Link
  no_link live rose u =
      unheard_refused d m client host Base old disk first now errors.Link u refl (λ is. at_start (state_of old.core)) (stopped_here d m client host Base old disk first now errors.Link u (at_start (state_of old.core)))
      (rose, record { stays = λ same. record { state = refl; journal = refl; disk = refl }; is_open = live }) (λ honest. tt) (record { cause = tt; until = goes_on_none }) tt (λ can. absurd (can.link_works rose))

  pub ask_refused : (e : AskError) → is_closed old.journal ≡ false → NoReply e → AskRefused m first now e → IsUnheard m client host first now (of_ask e) → RefusedEnd d m client host Base old old disk disk first now (of_ask e)
  ask_refused asking.Link live none rose u = no_link live rose u
  ask_refused asking.Memory live none rose u = no_memory Base live u
  ask_refused (asking.Reply kind) live (inl is) rose u = absurd cc
  ask_refused (asking.Reply kind) live (inr is) rose u = absurd cc

-- the replica is closed
pub closed_end : {D L : Type 0} (d : DiskModel D) (m : LinkModel L) (client host : List ℕ) (old : Replica) (disk : D) (link : L) → IsChainOf m link → is_closed old.journal ≡ true → RefusedEnd d m client host Base old old disk disk link link (errors.Journal journal.Closed)
closed_end d m client host old disk link whole closed =
    let e : SyncError = errors.Journal journal.Closed in
    let u = unasked m client host link e whole in
    unheard_refused d m client host Base old disk link link e u refl (λ is. absurd (never_stopping (records.Journal journal.Closed) is)) (kept_end d m client host Base old disk link link e u)
    (closed, record { state = refl; journal = refl; disk = refl }, refl) (λ honest. tt) (record { cause = tt; until = inl goes_on_none }) tt (λ can. absurd (true≢false (sym closed ∙ can.is_open)))
