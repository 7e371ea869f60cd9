-- What is left is not sent.
use Rattle.std.proofs.Common.{◌≡◌, ℕ, ◌+◌, inl, inr, Bool, length, List, [], ◌∷◌, ◌++◌, refl, sym, ap, subst, ◌∙◌, arith, length-append}
use Rattle.tw_model.specs.declared.SyncOp.{SyncOp}
use Rattle.tw_protocol.specs.Chain.{Version}
use Rattle.tw_protocol.specs.Answer.{version}
use Rattle.tw_http.specs.Link.{LinkModel, IsHonest}
use Rattle.tw_state.specs.State.{State}
use Rattle.tw_groups.specs.Groups.{joined}
use Rattle.tw_groups.specs.Cut.{first}
use Rattle.tw_path.specs.Path.{Leg, IsPush, is_batch, added_of}
use Rattle.tw_path.specs.Path.Leg.{Push}
use Rattle.tw_path.proofs.Paths.{paths_join}
use Rattle.tw_outcome.specs.End.{starts_at}
use Rattle.tw_sync.specs.Replies.Heard.{Heard, Hears, HearsUntil}
use Rattle.tw_sync.specs.Replies.Answers.{GrowsOn, IsAddedOne, add_heard, HeardRefusedAsk, NoReply, AddRefused}
use Rattle.tw_sync.specs.Ends.Refused.{EndedBy, IsLastReply, HeardRefused, MayAdd}
use Rattle.tw_sync.specs.Sync.{server_chain}
use Rattle.tw_sync.specs.Replies.Measured.{IsMeasured}
use Rattle.tw_sync.specs.Ends.Honest.{HonestRefused, RestsOnPulled}
use Rattle.tw_sync.specs.Way.{IsUnpassed, WentOn}
use Rattle.tw_sync.specs.Way.Cursor.{place}
use Rattle.tw_sync.specs.Way.Progress.{HeardSoFar, IsAtEnd, HasPulled, IsCause, HeardToStop, StopsTruly, IsStopped}
use Rattle.tw_sync.specs.Way.Sending.{IsUnsent}
use Rattle.tw_sync.specs.Start.Start.{Base}
use Rattle.tw_sync.specs.declared.ask.AddAnswer.TheVariants.{Added}
use Rattle.tw_sync.specs.declared.cursor.Cursor.{Cursor}
use Rattle.tw_sync.specs.Ends.Causes.{of_ask, of_send}
use Rattle.tw_sync.specs.declared.error.AskError.{AskError}
use Rattle.tw_sync.specs.declared.error.SendError.{SendError}
use Rattle.tw_sync.specs.declared.error.SendError.TheVariants as sending
use Rattle.tw_sync.specs.declared.error.SyncError.{SyncError}
use Rattle.tw_sync.specs.declared.error.SyncError.TheVariants as errors
use Rattle.tw_sync.proofs.Legs.{versions_on, added_push}
use Rattle.tw_sync.proofs.Hearing.{kept_on, hears_on, hears_until, hears_until_on, brought-append, told_in-last}
use Rattle.tw_sync.proofs.ExpectedReplies.{added_leads, not_late, goes_on_past, goes_on_so_far, refused_on}
use Rattle.tw_sync.proofs.Served.{grows_on}
use Rattle.tw_sync.proofs.OneExchangeMore.{IsAsked, RefusedAsk}
use Rattle.tw_sync.proofs.LeftIsSent.{at_end_holds, went_to_end, sent_went}
use Rattle.tw_sync.proofs.PullRefused.{cause_on, no_reply_says, went_on, rests_on_none, unmeasured}
use Rattle.tw_sync.proofs.ToldBefore.{tells_all, tells_ask}

pub unsent : {L : Type 0} (m : LinkModel L) (client host : List ℕ) (state : State) (begin now : L) (p : Cursor) (e : SendError) → (s : HasPulled m client host state begin now p) → ¬ (joined (place state s.legs).left ≡ []) → IsUnsent (first is_batch (place state s.legs).left) e → IsStopped m client host state begin now p (of_send e)
unsent m client host state begin now p e s some not = by e not
  where
    heard_here : Type 0
    heard_here = HeardSoFar m client host begin now s.legs p (λ hs. EndedBy hs (IsLastReply client (place state s.legs).at))

    stop : (x : SyncError) → IsUnpassed x [] → IsCause m begin now x → ((t : heard_here) → HeardRefused client t.hs x × IsMeasured Base state client t.hs x) → (IsHonest m begin client → HonestRefused Base state (server_chain m begin) (server_chain m now) x) → RestsOnPulled m client host state begin now x → IsStopped m client host state begin now p x
    stop x passed cause why says pulled = record {
      legs = s.legs;
      path = s.on_path.path;
      stands = inr s.on_path;
      kept = s.asked.kept;
      cause = cause;
      heard = λ tells. (let t = s.asked.heard tells in record {
        hs = t.hs;
        hears = hears_until m client host begin now t.hs x t.hears;
        refused = (why t).0;
        measured = (why t).1;
        tells = tells_all s.legs x t.hs passed t.told;
        few = λ honest. (
            let n = s.asked.count in
            let o = s.tries in
            let b = t.brought_is in
            let late = (s.come honest).late in
            omega (arith, n, o, b, late));
      });
      come = λ honest. (
          let c = s.come honest in
          record {
            whole = c.on.whole;
            grows = c.on.grows;
            refused = says honest;
            pulled = pulled;
            went = went_on state (server_chain m begin) (server_chain m now) s.legs x (record { path = s.on_path.path; between = inr c.lies; mine = c.mine; behind = c.behind });
          });
    }

    by : (x : SendError) → IsUnsent (first is_batch (place state s.legs).left) x → IsStopped m client host state begin now p (of_send x)
    by (sending.TooLong bytes) n =
        stop (errors.SegmentTooLong bytes) refl n.1
        (λ t. (
          record { cause = ((place state s.legs).at, t.so); until = goes_on_so_far m client host begin now s.legs p _ t s.tries },
          record { legs = s.legs; heard = record { path = s.on_path.path; told = t.told; ended = t.so }; some = some; len = n.0 },
        ))
        (λ honest. (
        let e = s.come honest in
        record { legs = s.legs; path = s.on_path.path; between = e.lies; last = at_end_holds m client state begin now s.legs p e; some = some; len = n.0 }))
        tt
    by sending.Memory n = stop errors.Memory (inl refl) tt (λ t. (record { cause = tt; until = inl (goes_on_so_far m client host begin now s.legs p _ t s.tries) }, tt)) (λ honest. tt) tt

may_add : (e : AskError) → NoReply e → MayAdd (of_ask e)
may_add e (inl is) = subst (λ x. MayAdd (of_ask x)) (sym is) tt
may_add e (inr is) = subst (λ x. MayAdd (of_ask x)) (sym is) tt

-- the question was refused
pub unadded : {L : Type 0} (m : LinkModel L) (client host : List ℕ) (state : State) (begin a b : L) (p : Cursor) (segment : List ℕ) (ops : List SyncOp) (e : AskError) → (s : HasPulled m client host state begin a p) → RefusedAsk m client host a b e → (IsHonest m a client → GrowsOn m a b client)
    → (IsHonest m a client → AddRefused m a b p.walker.at segment e) → ((id : List ℕ) → IsPush (place state s.legs) (version id p.walker.at segment) ops) → IsStopped m client host state begin b p (of_ask e)
unadded m client host state begin a b p segment ops e s un grows refused push = record {
  legs = s.legs;
  path = s.on_path.path;
  stands = inr s.on_path;
  kept = kept_on m begin a b s.asked.kept un.kept;
  cause = cause_on m begin a b e s.asked.kept un.refused;
  heard = λ tells. to_stop (s.asked.heard tells) (un.heard (s.asked.kept.tells_list ∙ tells));
  come = λ honest. (let c = s.come honest in by c (grows c.on.honest) (refused c.on.honest));
}
  where
    to_stop : HeardSoFar m client host begin a s.legs p (λ hs. EndedBy hs (IsLastReply client (place state s.legs).at)) → (hs : List Heard) × HearsUntil m client host a b hs (of_ask e) × HeardRefusedAsk hs e → HeardToStop m client host state begin b s.legs (of_ask e)
    to_stop t u = record {
      hs = t.hs ++ u.0;
      hears = hears_until_on m client host begin a b t.hs u.0 (of_ask e) t.hears u.1;
      refused = refused_on m client a b t.hs u.0 e un.refused u.2 (goes_on_so_far m client host begin a s.legs p _ t s.tries);
      measured = unmeasured state client (t.hs ++ u.0) e;
      tells = tells_ask m client host a b s.legs e t.hs u.0 u.1 u.2 t.told;
      few = λ honest. (
          let n = s.asked.count in
          let k = un.count in
          let o = s.tries in
          let f = brought-append t.hs u.0 in
          let g = t.brought_is in
          let late = (s.come honest).late in
          omega (arith, n, k, o, f, g, late));
    }

    says : GrowsOn m a b client → IsAtEnd m client state begin a s.legs p → HonestRefused Base state (server_chain m begin) (server_chain m b) (of_ask e) → WentOn state (server_chain m begin) (server_chain m b) s.legs (of_ask e) → StopsTruly m client host state begin b s.legs (of_ask e)
    says on c is_so went = record {
      whole = on.whole;
      grows = grows_on (m.chain begin) (m.chain a) (m.chain b) c.on.grows on.grows;
      refused = is_so;
      pulled = rests_on_none m client host state begin b e;
      went = went;
    }

    stays : GrowsOn m a b client → IsAtEnd m client state begin a s.legs p → m.own b ≡ m.own a → WentOn state (server_chain m begin) (server_chain m b) s.legs (of_ask e)
    stays on c same = went_on state (server_chain m begin) (server_chain m b) s.legs (of_ask e) (went_to_end m client state begin a b s.legs p s.on_path c on.grows same)

    by : IsAtEnd m client state begin a s.legs p → GrowsOn m a b client → AddRefused m a b p.walker.at segment e → StopsTruly m client host state begin b s.legs (of_ask e)
    by c on (inl (none, inl same)) = says on c (no_reply_says state (server_chain m begin) (server_chain m b) e none) (stays on c same)
    by c on (inl (none, inr (id, one))) =
        let v : Version = version id p.walker.at segment in
        says on c (no_reply_says state (server_chain m begin) (server_chain m b) e none)
        (record { untold = Push v ops ∷ []; few = inr (v, ops, refl); told_only = inr (may_add e none); went = sent_went m client state begin a b s.legs p id segment ops s.on_path.stands.at c on one s.on_path (push id) })
    by c on (inr (is, same)) = says on c (subst (λ x. HonestRefused Base state (server_chain m begin) (server_chain m b) (of_ask x)) (sym is) refl) (stays on c same)

-- the version was added, and there was no memory for what follows
pub added_unkept : {L : Type 0} (m : LinkModel L) (client host : List ℕ) (state : State) (begin a b : L) (p q : Cursor) (id segment : List ℕ) (wanted : Bool) (ops : List SyncOp) → (s : HasPulled m client host state begin a p) → IsAsked m client host a b (add_heard client p.walker.at segment (Added id wanted))
    → (IsHonest m a client → GrowsOn m a b client) → (IsHonest m a client → IsAddedOne m a b (version id p.walker.at segment)) → IsPush (place state s.legs) (version id p.walker.at segment) ops → IsStopped m client host state begin b q errors.Memory
added_unkept m client host state begin a b p q id segment wanted ops s asked grows one push = record {
  legs = more;
  stands = inl refl;
  path = (paths_join (starts_at state) s.legs (Push v ops ∷ [])).1 s.on_path.path (push, tt);
  kept = kept_on m begin a b s.asked.kept asked.kept;
  cause = tt;
  heard = λ tells. to_stop (s.asked.heard tells) (asked.heard (s.asked.kept.tells_list ∙ tells));
  come = λ honest. (
      let c = s.come honest in
      let on = grows c.on.honest in
      record {
        whole = on.whole;
        grows = grows_on (m.chain begin) (m.chain a) (m.chain b) c.on.grows on.grows;
        refused = tt;
        pulled = tt;
        went = went_on state (server_chain m begin) (server_chain m b) more errors.Memory (sent_went m client state begin a b s.legs p id segment ops s.on_path.stands.at c on (one c.on.honest) s.on_path push);
      });
}
  where
    v : Version
    v = version id p.walker.at segment

    more : List Leg
    more = s.legs ++ Push v ops ∷ []

    h : Heard
    h = add_heard client p.walker.at segment (Added id wanted)

    to_stop : HeardSoFar m client host begin a s.legs p (λ hs. EndedBy hs (IsLastReply client (place state s.legs).at)) → Hears m client host a b (h ∷ []) → HeardToStop m client host state begin b more errors.Memory
    to_stop t heard = record {
      hs = t.hs ++ h ∷ [];
      hears = inl (hears_on m client host begin a b t.hs (h ∷ []) t.hears heard);
      refused = record { cause = tt; until = inl (goes_on_past t.hs h (goes_on_so_far m client host begin a s.legs p _ t s.tries) (asked.welcome, added_leads h.reply id wanted refl, asked.of_chain) (not_late client (place state s.legs).at t.hs t.so) refl refl) };
      measured = tt;
      tells = tells_all more errors.Memory (t.hs ++ h ∷ []) (inl refl) (told_in-last t.hs h v refl ∙ ap (λ vs. vs ++ v ∷ []) t.told ∙ sym (versions_on s.legs (Push v ops)));
      few = λ honest. (
          let n = s.asked.count in
          let k = asked.count in
          let o = s.tries in
          let f = brought-append t.hs (h ∷ []) in
          let g = t.brought_is in
          let late = (s.come honest).late in
          let c = ap length (added_push s.legs v ops) in
          let j = length-append (added_of s.legs) (v ∷ []) in
          omega (arith, n, k, o, f, g, late, c, j));
    }
