-- What is left at a cursor is sent.
use Rattle.std.proofs.Common.{◌≡◌, ℕ, ◌+◌, ◌*◌, ◌≤◌, inr, Bool, length, List, [], ◌∷◌, ◌++◌, Ok, refl, sym, ap, subst, ◌∙◌, arith, length-append}
use Rattle.std.specs.List.{AllByRecursion}
use Rattle.std.proofs.lemmas.List.{append_assoc}
use Rattle.uuid.specs.Parts.{zero_bytes}
use Rattle.tw_model.specs.declared.SyncOp.{SyncOp}
use Rattle.tw_protocol.specs.Chain.{Version, IsBetween, Grows, HoldsAll}
use Rattle.tw_protocol.specs.Answer.{version}
use Rattle.tw_protocol.proofs.Chains.{last_from-append}
use Rattle.tw_http.specs.Link.{LinkModel, IsHonest}
use Rattle.tw_http.specs.declared.message.Response.TheVariants as replies
use Rattle.tw_state.specs.State.{State}
use Rattle.tw_groups.specs.Groups.{Groups, joined}
use Rattle.tw_groups.specs.Cut.{first}
use Rattle.tw_groups.proofs.Cutting.{cut_is_first}
use Rattle.tw_path.specs.Path.{Leg, IsPush, is_batch, added_of}
use Rattle.tw_path.specs.Path.Leg.{Push}
use Rattle.tw_path.proofs.Lengths.{batch_is_limit}
use Rattle.tw_path.proofs.Paths.{paths_join}
use Rattle.tw_outcome.specs.End.{starts_at, Went}
use Rattle.tw_sync.specs.Replies.Heard.{Heard, most_exchanges}
use Rattle.tw_sync.specs.Replies.Answers.{GrowsOn, IsAddedOne, add_heard}
use Rattle.tw_sync.specs.Ends.Refused.{EndedBy, IsLastReply}
use Rattle.tw_sync.specs.Sync.{server_chain}
use Rattle.tw_sync.specs.Way.Cursor.{place, IsOnPath, IsIn, AddsVersion}
use Rattle.tw_sync.specs.Way.Progress.{IsAtEnd, HasPulled}
use Rattle.tw_sync.specs.declared.ask.AddAnswer.TheVariants.{Added}
use Rattle.tw_sync.specs.declared.cursor.Cursor.{Cursor}
use Rattle.tw_sync.proofs.Legs.{at_on, versions_on, added_push}
use Rattle.tw_sync.proofs.CursorInChain.{grown_longer, holds_grown, pushes_grown, is_in_grown, lies_on, added_on_path}
use Rattle.tw_sync.proofs.Hearing.{growing_on, all-append}
use Rattle.tw_sync.proofs.ExpectedReplies.{added_leads, not_late}
use Rattle.tw_sync.proofs.Results.{ended_by}
use Rattle.tw_sync.proofs.Served.{grows_on}
use Rattle.tw_sync.proofs.OneExchangeMore.{IsAsked, asked_on}

-- ---- the end of the chain

pub at_end_holds : {L : Type 0} (m : LinkModel L) (client : List ℕ) (state : State) (begin now : L) (legs : List Leg) (p : Cursor) → IsAtEnd m client state begin now legs p → HoldsAll (m.chain begin) (m.chain now) (place state legs).at
at_end_holds m client state begin now legs p e = record { front = e.front; back = e.given.after.more; cut = record { split = e.given.after.joined; at = e.last }; holds = e.given.before }

-- the exchanges of a sync that ends are few
pub few_at_end : (begin now versions added conflicts : ℕ) → now ≤ begin + (versions + added + 2 * conflicts + 1) → conflicts ≤ versions → conflicts ≤ 15 → now ≤ begin + most_exchanges versions + added + 0
few_at_end begin now versions added conflicts le late tries = omega (arith, le, late, tries)

-- the path that has come to the end lies in the chain, also when it has grown
pub went_to_end : {L : Type 0} (m : LinkModel L) (client : List ℕ) (state : State) (begin a b : L) (legs : List Leg) (p : Cursor) → IsOnPath state legs p → IsAtEnd m client state begin a legs p → Grows (m.chain a) (m.chain b) → m.own b ≡ m.own a → Went (starts_at state) (server_chain m begin) (server_chain m b) legs
went_to_end m client state begin a b legs p s e g same = record {
  path = s.path;
  between = inr (is_in_grown state (m.chain a) (m.chain b) legs e.lies g);
  mine = same ∙ e.mine;
  behind = pushes_grown (m.chain begin) (m.chain a) (m.chain b) (added_of legs) e.behind g;
}

-- something is sent of what is left
pub some_first : (gs : Groups) → ¬ (joined gs ≡ []) → 1 ≤ length (first is_batch gs)
some_first gs some = by (first is_batch gs) (cut_is_first is_batch gs batch_is_limit some).some
  where
    by : (ops : List SyncOp) → ¬ (ops ≡ []) → 1 ≤ length ops
    by [] none = absurd (none refl)
    by (op ∷ ops) none = omega arith

-- ---- a version is added

-- the version that was added comes after what was pulled
module _ {L : Type 0} (m : LinkModel L) (client : List ℕ) (state : State) (begin a b : L) (legs : List Leg) (p : Cursor) (id segment : List ℕ) (ops : List SyncOp) (at : p.walker.at ≡ (place state legs).at) (e : IsAtEnd m client state begin a legs p) (on : GrowsOn m a b client) (one : IsAddedOne m a b (version id p.walker.at segment)) where
  abbrev pub v : Version
  v = version id p.walker.at segment

  abbrev pub more : List Leg
  more = legs ++ Push v ops ∷ []

  added_is : added_of more ≡ added_of legs ++ v ∷ []
  added_is = added_push legs v ops

  next : IsBetween (m.chain b) (place state legs).at id (v ∷ [])
  next = subst (λ x. IsBetween (m.chain b) x id (v ∷ [])) at (record { front = one.at; back = one.after.more; split = one.after.joined; from = one.last; to = last_from-append zero_bytes one.at (v ∷ []) })

  pub sent_lies : IsIn state (m.chain b) more
  sent_lies = lies_on state (m.chain b) legs (Push v ops) on.whole (is_in_grown state (m.chain a) (m.chain b) legs e.lies on.grows) next

  here : HoldsAll (m.chain begin) (m.chain b) p.walker.at
  here = subst (HoldsAll (m.chain begin) (m.chain b)) (sym at) (holds_grown (m.chain begin) (m.chain a) (m.chain b) (place state legs).at (at_end_holds m client state begin a legs p e) on.grows)

  pub sent_behind : AllByRecursion (λ (w : Version). HoldsAll (m.chain begin) (m.chain b) w.parent) (added_of more)
  sent_behind = subst (AllByRecursion (λ (w : Version). HoldsAll (m.chain begin) (m.chain b) w.parent)) (sym added_is)
      (all-append (λ (w : Version). HoldsAll (m.chain begin) (m.chain b) w.parent) (added_of legs) (v ∷ []) (pushes_grown (m.chain begin) (m.chain a) (m.chain b) (added_of legs) e.behind on.grows) (here, tt))

  pub sent_mine : m.own b ≡ m.own begin ++ added_of more
  sent_mine = one.mine ∙ ap (λ vs. vs ++ v ∷ []) e.mine ∙ append_assoc (m.own begin) (added_of legs) (v ∷ []) ∙ ap (λ vs. m.own begin ++ vs) (sym added_is)

  -- it has gone on to it
  pub sent_went : IsOnPath state legs p → IsPush (place state legs) v ops → Went (starts_at state) (server_chain m begin) (server_chain m b) more
  sent_went s push = record { path = (paths_join (starts_at state) legs (Push v ops ∷ [])).1 s.path (push, tt); between = inr sent_lies; mine = sent_mine; behind = sent_behind }

  -- it is at the end of the chain again
  pub sent_end : (q : Cursor) → q.versions ≡ p.versions → q.conflicts ≡ p.conflicts → IsAtEnd m client state begin b more q
  sent_end q versions conflicts = record {
    on = growing_on m begin a b client e.on on;
    mine = sent_mine;
    lies = sent_lies;
    behind = sent_behind;
    front = one.at ++ v ∷ [];
    given = record {
      before = grows_on (m.chain begin) (m.chain a) (one.at ++ v ∷ []) e.on.grows (grows_on (m.chain a) one.at (one.at ++ v ∷ []) one.before (record { more = v ∷ []; joined = refl }));
      after = one.after;
    };
    last = last_from-append zero_bytes one.at (v ∷ []) ∙ sym (at_on state legs (Push v ops));
    others = (
        let o = e.others in
        let f = grown_longer e.front (m.chain a) e.given.after in
        let g = grown_longer (m.chain a) one.at one.before in
        let n = length-append one.at (v ∷ []) in
        let k = ap length added_is in
        let j = length-append (added_of legs) (v ∷ []) in
        omega (arith, o, f, g, n, k, j, conflicts));
    late = (let l = e.late in omega (arith, l, versions, conflicts));
  }

-- the sync goes on there
pub added : {L : Type 0} (m : LinkModel L) (client host : List ℕ) (state : State) (begin a b : L) (p q : Cursor) (id segment : List ℕ) (wanted : Bool) (ops : List SyncOp) → (s : HasPulled m client host state begin a p) → IsAsked m client host a b (add_heard client p.walker.at segment (Added id wanted))
    → (IsHonest m a client → GrowsOn m a b client) → (IsHonest m a client → IsAddedOne m a b (version id p.walker.at segment)) → IsPush (place state s.legs) (version id p.walker.at segment) ops → AddsVersion p q id ops wanted → HasPulled m client host state begin b q
added m client host state begin a b p q id segment wanted ops s asked grows one push t =
    let v : Version = version id p.walker.at segment in
    let h : Heard = add_heard client p.walker.at segment (Added id wanted) in
    let more : List Leg = s.legs ++ Push v ops ∷ [] in
    record {
      legs = more;
      on_path = added_on_path state s.legs p q v ops s.on_path push t;
      tries = (let n = s.tries in let o = t.conflicts in omega (arith, n, o));
      asked = asked_on m client host begin a b s.legs more p q 1 1 (λ hs. EndedBy hs (IsLastReply client (place state s.legs).at)) (λ hs. EndedBy hs (IsLastReply client (place state more).at)) h s.asked asked (added_leads h.reply id wanted refl)
          (record { told = versions_on s.legs (Push v ops); ops = []; reads = refl; versions = (let o = t.versions in omega (arith, o)); bytes = (let o = t.bytes in omega (arith, o)); conflicts = (let o = t.conflicts in omega (arith, o)); wanted = t.wants })
          (let n = t.versions in let o = t.conflicts in let c = ap length (added_push s.legs v ops) in let j = length-append (added_of s.legs) (v ∷ []) in omega (arith, n, o, c, j))
          (λ hs ended late. absurd (let calm = not_late client (place state s.legs).at hs ended in omega (arith, calm, late)))
          (λ hs u. ended_by hs h (IsLastReply client (place state more).at) (inr (wanted, ap (λ (i : List ℕ). Ok (replies.Added i wanted)) (sym (at_on state s.legs (Push v ops))))));
      come = λ honest. (
          let e = s.come honest in
          sent_end m client state begin a b s.legs p id segment ops s.on_path.stands.at e (grows e.on.honest) (one e.on.honest) q t.versions t.conflicts);
    }

-- ---- nothing is left

-- where no operation is left, or as many were sent as were pending
pub none_is : {A : Type 0} (xs : List A) → length xs ≡ 0 → xs ≡ []
none_is [] e = refl
none_is (x ∷ xs) e = absurd (omega (arith, e))
