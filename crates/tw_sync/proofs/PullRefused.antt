-- A sync is refused while it pulls.
use Rattle.std.proofs.Common.{◌≡◌, ◌⊎◌, ℕ, ◌+◌, ◌*◌, ◌≤◌, inl, inr, length, List, [], ◌∷◌, ◌++◌, Ok, Contains, refl, sym, ap, subst, ◌∙◌, arith}
use Rattle.std.proofs.lemmas.List.{append-nil}
use Rattle.std.proofs.lemmas.List.Elements.{Contains-append_right}
use Rattle.tw_world.specs.Disk.{Rose}
use Rattle.tw_protocol.specs.Chain.{Version, IsChain, IsBetween}
use Rattle.tw_protocol.specs.Answer.{version}
use Rattle.tw_protocol.proofs.Between.{between_joins}
use Rattle.tw_http.specs.Link.{LinkModel, IsHonest}
use Rattle.tw_http.specs.declared.message.Response.TheVariants as replies
use Rattle.tw_state.specs.State.{State}
use Rattle.tw_path.specs.Path.{Leg, IsPath, versions_of, added_of}
use Rattle.tw_outcome.specs.End.{ServerChain, starts_at, Went}
use Rattle.tw_sync.specs.Replies.Heard.{Heard, Hears, HearsUntil, brought, pulled_bytes, versions_in, told_in, most_exchanges}
use Rattle.tw_sync.specs.Replies.Answers.{IsLinkKept, GrowsOn, child_heard, HeardRefusedAsk, AskRefused, NoReply}
use Rattle.tw_sync.specs.Ends.Refused.{max_pull, IsWelcome, IsBadSegment, GoesOnFrom, HeardRefused}
use Rattle.tw_sync.specs.Sync.{server_chain}
use Rattle.tw_sync.specs.Replies.Measured.{IsMeasured}
use Rattle.tw_sync.specs.Ends.Honest.{HonestRefused, IsLongPull, IsUnreadIn, WasPulled, RestsOnPulled}
use Rattle.tw_sync.specs.Way.{TellsOf, WentOn}
use Rattle.tw_sync.specs.Way.Cursor.{place, IsOnPath, IsNotTaken, IsUnreadable, IsIn}
use Rattle.tw_sync.specs.Way.Progress.{HeardSoFar, HasCome, Asks, IsCause, HeardToStop, StopsTruly, IsStopped}
use Rattle.tw_sync.specs.Start.Start.{Base}
use Rattle.tw_sync.specs.declared.ask.ChildAnswer.TheVariants.{Found, Gone}
use Rattle.tw_sync.specs.declared.cursor.Cursor.{Cursor}
use Rattle.tw_sync.specs.Ends.Causes.{of_ask, of_take}
use Rattle.tw_sync.specs.declared.error.AskError.{AskError}
use Rattle.tw_sync.specs.declared.error.AskError.TheVariants as asking
use Rattle.tw_sync.specs.declared.error.TakeError.{TakeError}
use Rattle.tw_sync.specs.declared.error.TakeError.TheVariants as taking
use Rattle.tw_sync.specs.declared.error.SyncError.{SyncError}
use Rattle.tw_sync.specs.declared.error.SyncError.TheVariants as errors
use Rattle.tw_sync.proofs.CursorInChain.{pushes_grown, lies_grown}
use Rattle.tw_sync.proofs.Hearing.{kept_on, hears_on, hears_until, hears_until_on, brought-append, pulled_bytes-append, versions_in-append, told_in-past}
use Rattle.tw_sync.proofs.ExpectedReplies.{child_leads, goes_on, goes_to_last, goes_on_so_far, refused_on}
use Rattle.tw_sync.proofs.Results.{ended_by}
use Rattle.tw_sync.proofs.Served.{grows_on}
use Rattle.tw_sync.proofs.HonestProgress.{found_behind, never_gone}
use Rattle.tw_sync.proofs.OneExchangeMore.{IsAsked, SaysTruly, RefusedAsk}
use Rattle.tw_sync.proofs.ToldBefore.{tells_all, tells_more, tells_ask}

-- ---- the exchanges

-- the exchanges of a refused sync are few, where one failed
pub few_while_pulling : (first now versions added conflicts brought : ℕ) → now ≤ first + (versions + added + 2 * conflicts + 1) → versions ≤ brought → conflicts ≤ versions + 1 → conflicts ≤ 15 → now ≤ first + most_exchanges brought + added + 1
few_while_pulling first now versions added conflicts brought le few late tries = omega (arith, le, few, late, tries)

-- one conflict at most was followed by no version yet
pub late_by_one : (conflicts versions : ℕ) {P : Type 0} → (conflicts ≤ versions) ⊎ ((conflicts ≤ versions + 1) × P) → conflicts ≤ versions + 1
late_by_one conflicts versions (inl le) = omega (arith, le)
late_by_one conflicts versions (inr (le, p)) = le

-- it has gone what it was told of, and has added nothing else
pub went_on : (state : State) (before after : ServerChain) (legs : List Leg) (e : SyncError) → Went (starts_at state) before after legs → WentOn state before after legs e
went_on state before after legs e went = record { untold = []; few = inl refl; told_only = inl refl; went = subst (Went (starts_at state) before after) (sym (append-nil legs)) went }

-- so it goes while the chain grows
pub went_so_far : {L : Type 0} (m : LinkModel L) (client : List ℕ) (state : State) (first a b : L) (legs : List Leg) (p : Cursor) → IsPath (starts_at state) legs → HasCome m client state first a legs p → GrowsOn m a b client → m.own b ≡ m.own a → Went (starts_at state) (server_chain m first) (server_chain m b) legs
went_so_far m client state first a b legs p path h on same = record {
  path = path;
  between = lies_grown state (m.chain a) (m.chain b) legs h.lies on.grows;
  mine = same ∙ h.mine;
  behind = pushes_grown (m.chain first) (m.chain a) (m.chain b) (added_of legs) h.behind on.grows;
}

-- a refusal that adds nothing
pub stops_here : {L : Type 0} (m : LinkModel L) (client host : List ℕ) (state : State) (first a b : L) (legs : List Leg) (p : Cursor) (e : SyncError) → IsPath (starts_at state) legs → HasCome m client state first a legs p → GrowsOn m a b client → m.own b ≡ m.own a
    → HonestRefused Base state (server_chain m first) (server_chain m b) e → RestsOnPulled m client host state first b e → StopsTruly m client host state first b legs e
stops_here m client host state first a b legs p e path h on same refused pulled = record {
  whole = on.whole;
  grows = grows_on (m.chain first) (m.chain a) (m.chain b) h.on.grows on.grows;
  refused = refused;
  pulled = pulled;
  went = went_on state (server_chain m first) (server_chain m b) legs e (went_so_far m client state first a b legs p path h on same);
}

rose_later : (a b c : ℕ) → a ≤ b → Rose b c → Rose a c
rose_later a b c le rose = omega (arith, le, rose)

pub cause_on : {L : Type 0} (m : LinkModel L) (first a b : L) (e : AskError) → IsLinkKept m first a → AskRefused m a b e → IsCause m first b (of_ask e)
cause_on m first a b asking.Link kept r = rose_later (m.faults first) (m.faults a) (m.faults b) kept.faults r
cause_on m first a b asking.Memory kept r = tt
cause_on m first a b (asking.Reply kind) kept r = tt

pub no_reply_says : (state : State) (before after : ServerChain) (e : AskError) → NoReply e → HonestRefused Base state before after (of_ask e)
no_reply_says state before after e (inl is) = subst (λ x. HonestRefused Base state before after (of_ask x)) (sym is) tt
no_reply_says state before after e (inr is) = subst (λ x. HonestRefused Base state before after (of_ask x)) (sym is) tt

pub rests_on_none : {L : Type 0} (m : LinkModel L) (client host : List ℕ) (state : State) (first now : L) (e : AskError) → RestsOnPulled m client host state first now (of_ask e)
rests_on_none m client host state first now asking.Link = tt
rests_on_none m client host state first now asking.Memory = tt
rests_on_none m client host state first now (asking.Reply kind) = tt

pub unmeasured : (state : State) (client : List ℕ) (hs : List Heard) (e : AskError) → IsMeasured Base state client hs (of_ask e)
unmeasured state client hs asking.Link = tt
unmeasured state client hs asking.Memory = tt
unmeasured state client hs (asking.Reply kind) = tt

-- the question was refused
pub pulling_unasked : {L : Type 0} (m : LinkModel L) (client host : List ℕ) (state : State) (first a b : L) (p : Cursor) (Q : List Heard → Type 0) (e : AskError) → Asks m client host state first a p Q → RefusedAsk m client host a b e
    → (IsHonest m a client → GrowsOn m a b client) → (IsHonest m a client → m.own b ≡ m.own a) → (IsHonest m a client → NoReply e) → IsStopped m client host state first b p (of_ask e)
pulling_unasked m client host state first a b p Q e s un on mine reply = record {
  legs = s.legs;
  path = s.on_path.path;
  stands = inr s.on_path;
  kept = kept_on m first a b s.asked.kept un.kept;
  cause = cause_on m first a b e s.asked.kept un.refused;
  heard = λ tells. to_stop (s.asked.heard tells) (un.heard (s.asked.kept.tells_list ∙ tells));
  come = λ honest. (
      let h = s.come honest in
      let now = h.on.honest in
      stops_here m client host state first a b s.legs p (of_ask e) s.on_path.path h (on now) (mine now) (no_reply_says state (server_chain m first) (server_chain m b) e (reply now)) (rests_on_none m client host state first b e));
}
  where
    to_stop : HeardSoFar m client host first a s.legs p Q → (hs : List Heard) × HearsUntil m client host a b hs (of_ask e) × HeardRefusedAsk hs e → HeardToStop m client host state first b s.legs (of_ask e)
    to_stop t u = record {
      hs = t.hs ++ u.0;
      hears = hears_until_on m client host first a b t.hs u.0 (of_ask e) t.hears u.1;
      refused = refused_on m client a b t.hs u.0 e un.refused u.2 (goes_on_so_far m client host first a s.legs p Q t s.tries);
      measured = unmeasured state client (t.hs ++ u.0) e;
      tells = tells_ask m client host a b s.legs e t.hs u.0 u.1 u.2 t.told;
      few = λ honest. (
          let n = s.asked.count in
          let o = un.count in
          let f = brought-append t.hs u.0 in
          let g = t.brought_is in
          few_while_pulling (m.exchanges first) (m.exchanges b) p.versions (length (added_of s.legs)) p.conflicts (brought (t.hs ++ u.0)) (omega (arith, n, o)) (omega (arith, f, g)) (late_by_one p.conflicts p.versions (s.come honest).late) s.tries);
    }

-- one reply was read, and is refused
pub stopped_at : {L : Type 0} (m : LinkModel L) (client host : List ℕ) (state : State) (first a b : L) (p q : Cursor) (Q : List Heard → Type 0) (h : Heard) (e : SyncError) → (s : Asks m client host state first a p Q) → IsAsked m client host a b h → IsCause m first b e
    → ((hs : List Heard) → pulled_bytes hs ≡ p.bytes → GoesOnFrom hs → HeardRefused client (hs ++ h ∷ []) e) → ((hs : List Heard) → IsMeasured Base state client hs e) → ((hs : List Heard) → told_in hs ≡ versions_of s.legs → TellsOf s.legs e (hs ++ h ∷ []))
    → (e ≡ errors.Memory) ⊎ IsOnPath state s.legs q → (IsHonest m first client → StopsTruly m client host state first b s.legs e) → IsStopped m client host state first b q e
stopped_at m client host state first a b p q Q h e s asked cause refused measured told stands come = record {
  legs = s.legs;
  path = s.on_path.path;
  stands = stands;
  kept = kept_on m first a b s.asked.kept asked.kept;
  cause = cause;
  heard = λ tells. to_stop (s.asked.heard tells) (asked.heard (s.asked.kept.tells_list ∙ tells));
  come = come;
}
  where
    to_stop : HeardSoFar m client host first a s.legs p Q → Hears m client host a b (h ∷ []) → HeardToStop m client host state first b s.legs e
    to_stop t more = record {
      hs = t.hs ++ h ∷ [];
      hears = hears_until m client host first b (t.hs ++ h ∷ []) e (hears_on m client host first a b t.hs (h ∷ []) t.hears more);
      refused = refused t.hs t.bytes_are (goes_on_so_far m client host first a s.legs p Q t s.tries);
      measured = measured (t.hs ++ h ∷ []);
      tells = told t.hs t.told;
      few = λ honest. (
          let n = s.asked.count in
          let o = asked.count in
          let f = brought-append t.hs (h ∷ []) in
          let g = t.brought_is in
          few_while_pulling (m.exchanges first) (m.exchanges b) p.versions (length (added_of s.legs)) p.conflicts (brought (t.hs ++ h ∷ [])) (omega (arith, n, o)) (omega (arith, f, g)) (late_by_one p.conflicts p.versions (s.come honest).late) s.tries);
    }

-- the server does not know the cursor
pub pulling_gone : {L : Type 0} (m : LinkModel L) (client host : List ℕ) (state : State) (first a b : L) (p : Cursor) (Q : List Heard → Type 0) → Asks m client host state first a p Q → IsAsked m client host a b (child_heard client p.walker.at Gone)
    → (IsHonest m a client → SaysTruly m client a b p.walker.at Gone) → IsStopped m client host state first b p (errors.Gone p.walker.at)
pulling_gone m client host state first a b p Q s asked tells =
    let h = child_heard client p.walker.at Gone in
    stopped_at m client host state first a b p p Q h (errors.Gone p.walker.at) s asked tt
    (λ hs n g. record { cause = ended_by hs h _ (refl, refl); until = goes_to_last hs h g })
    (λ hs. tt)
    (λ hs told. tells_all s.legs (errors.Gone p.walker.at) (hs ++ h ∷ []) refl (told_in-past hs h refl ∙ told))
    (inr s.on_path)
    (λ honest. (
    let c = s.come honest in
    let r = tells c.on.honest in
    stops_here m client host state first a b s.legs p (errors.Gone p.walker.at) s.on_path.path c r.on r.mine (never_gone m client state first a b s.legs p s.on_path.stands.at c r.says) tt))

abbrev long_pull : (state : State) (chain : List Version) (legs : List Leg) (p : Cursor) (id segment : List ℕ) (bytes : ℕ) → IsOnPath state legs p → IsChain chain → IsIn state chain legs → IsBetween chain (place state legs).at id (version id p.walker.at segment ∷ []) → bytes ≡ p.bytes + length segment → IsLongPull state chain bytes
long_pull state chain legs p id segment bytes on_path whole there next e =
    let v : Version = version id p.walker.at segment in
    record {
      legs = legs;
      v = v;
      path = on_path.path;
      between = between_joins chain state.base (place state legs).at id (versions_of legs) (v ∷ []) whole there next;
      len = e ∙ ap (λ n. n + length segment) on_path.bytes;
    }

abbrev unread_in : (state : State) (chain : List Version) (legs : List Leg) (p : Cursor) (id segment version_is : List ℕ) → IsChain chain → IsIn state chain legs → IsBetween chain (place state legs).at id (version id p.walker.at segment ∷ []) → version_is ≡ id → IsUnreadable segment → IsUnreadIn state chain version_is
unread_in state chain legs p id segment version_is whole there next same un =
    let v : Version = version id p.walker.at segment in
    record {
      versions = versions_of legs;
      v = v;
      between = between_joins chain state.base (place state legs).at id (versions_of legs) (v ∷ []) whole there next;
      id_is = sym same;
      error = un.error;
      unread = un.unread;
      other = un.other;
    }

-- the version behind the cursor is not taken
pub pulling_untaken : {L : Type 0} (m : LinkModel L) (client host : List ℕ) (state : State) (first a b : L) (p q : Cursor) (Q : List Heard → Type 0) (id segment : List ℕ) (e : TakeError) → Asks m client host state first a p Q → IsAsked m client host a b (child_heard client p.walker.at (Found id segment))
    → (IsHonest m a client → SaysTruly m client a b p.walker.at (Found id segment)) → IsNotTaken p id segment e → (e ≡ taking.Memory) ⊎ (q ≡ p) → IsStopped m client host state first b q (of_take e)
pulling_untaken m client host state first a b p q Q id segment e s asked tells not kept = by e not (stays kept)
  where
    h : Heard
    h = child_heard client p.walker.at (Found id segment)

    v : Version
    v = version id p.walker.at segment

    was : WasPulled m client host first b v
    was tells =
        let t = s.asked.heard tells in (
          t.hs ++ h ∷ [],
          hears_on m client host first a b t.hs (h ∷ []) t.hears (asked.heard (s.asked.kept.tells_list ∙ tells)),
          subst (λ vs. Contains vs v) (sym (versions_in-append t.hs (h ∷ []))) (Contains-append_right (versions_in t.hs) (v ∷ []) v (0, omega arith, refl)),
        )

    at_honest : (x : SyncError) → (IsChain (m.chain b) → IsIn state (m.chain b) s.legs → IsBetween (m.chain b) (place state s.legs).at id (v ∷ []) → HonestRefused Base state (server_chain m first) (server_chain m b) x × RestsOnPulled m client host state first b x) → IsHonest m first client → StopsTruly m client host state first b s.legs x
    at_honest x says honest =
        let c = s.come honest in
        let r = tells c.on.honest in
        let f = found_behind m client state first a b s.legs p s.on_path.stands.at c r.on id segment r.says in
        let why = says r.on.whole f.0 f.1 in
        stops_here m client host state first a b s.legs p x s.on_path.path c r.on r.mine why.0 why.1

    goes : (hs : List Heard) → pulled_bytes hs ≡ p.bytes → GoesOnFrom hs → p.bytes + length segment ≤ max_pull → GoesOnFrom (hs ++ h ∷ [])
    goes hs have g within = goes_on hs h g (asked.welcome, child_leads h.reply id p.walker.at segment refl, asked.of_chain) (λ late. refl) (omega (arith, have, within)) (let f = g.few in omega (arith, f))

    stays : (e ≡ taking.Memory) ⊎ (q ≡ p) → (of_take e ≡ errors.Memory) ⊎ IsOnPath state s.legs q
    stays (inl is) = inl (ap of_take is)
    stays (inr same) = inr (subst (IsOnPath state s.legs) (sym same) s.on_path)

    by : (x : TakeError) → IsNotTaken p id segment x → (of_take x ≡ errors.Memory) ⊎ IsOnPath state s.legs q → IsStopped m client host state first b q (of_take x)
    by (taking.TooLong bytes) n stands =
        stopped_at m client host state first a b p q Q h (errors.PullTooLong bytes) s asked n.1
        (λ hs have g. record {
          cause = record { last = ended_by hs h IsWelcome asked.welcome; sum = (let f = pulled_bytes-append hs (h ∷ []) in let o = n.0 in omega (arith, f, o, have)); over = n.1 };
          until = goes_to_last hs h g;
        })
        (λ hs. tt)
        (λ hs told. tells_more s.legs (errors.PullTooLong bytes) hs h v refl (v, refl) told)
        stands
        (at_honest (errors.PullTooLong bytes) (λ whole there next. (let l : IsLongPull state (m.chain b) bytes = long_pull state (m.chain b) s.legs p id segment bytes s.on_path whole there next n.0 in (l, (l, was)))))
    by (taking.Segment bad) n stands =
        stopped_at m client host state first a b p q Q h (errors.Segment bad) s asked tt
        (λ hs have g. record {
          cause = ended_by hs h (IsBadSegment bad) (record { parent = p.walker.at; segment = segment; reply_is = ap (λ (i : List ℕ). Ok (replies.Child i p.walker.at segment)) (sym n.0); error = n.1.error; unread = n.1.unread; other = n.1.other });
          until = goes hs have g n.2;
        })
        (λ hs. tt)
        (λ hs told. tells_more s.legs (errors.Segment bad) hs h v refl (v, refl) told)
        stands
        (at_honest (errors.Segment bad) (λ whole there next. (let u : IsUnreadIn state (m.chain b) bad = unread_in state (m.chain b) s.legs p id segment bad whole there next n.0 n.1 in (u, (u, was)))))
    by taking.Memory n stands =
        stopped_at m client host state first a b p q Q h errors.Memory s asked tt
        (λ hs have g. record { cause = tt; until = inl (goes hs have g n) })
        (λ hs. tt)
        (λ hs told. tells_more s.legs errors.Memory hs h v refl (inr (v, refl)) told)
        stands
        (at_honest errors.Memory (λ whole there next. (tt, tt)))
