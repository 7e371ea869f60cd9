-- What is left at a cursor came too late, and what others added is pulled.
use Rattle.std.proofs.Common.{◌≡◌, ℕ, ◌+◌, ◌≤◌, inr, length, List, [], ◌∷◌, ◌++◌, refl, sym, ap, subst, ◌∙◌, arith, length-append}
use Rattle.std.proofs.Math.Bool.{or-false}
use Rattle.std.proofs.lemmas.List.{append-nil, append_assoc}
use Rattle.tw_protocol.specs.Chain.{Version, latest, Grows}
use Rattle.tw_http.specs.Link.{LinkModel, IsHonest}
use Rattle.tw_state.specs.State.{State}
use Rattle.tw_path.specs.Path.{Leg, versions_of, added_of}
use Rattle.tw_path.specs.Walk.{StandsAt}
use Rattle.tw_sync.specs.Replies.Heard.{Heard, Hears}
use Rattle.tw_sync.specs.Replies.Answers.{GrowsOn, IsRefusedOne, add_heard, child_heard}
use Rattle.tw_sync.specs.Ends.Refused.{EndedBy, IsConflict, IsLastReply, IsOutOfSync}
use Rattle.tw_sync.specs.Way.Cursor.{place, IsOnPath, GoesFurther}
use Rattle.tw_sync.specs.Way.Progress.{HeardSoFar, IsAsking, IsAtEnd, HasPulled, IsLate, HeardToStop, IsStopped}
use Rattle.tw_sync.specs.declared.ask.ChildAnswer.TheVariants.{UpToDate}
use Rattle.tw_sync.specs.declared.ask.AddAnswer.TheVariants.{Conflict}
use Rattle.tw_sync.specs.declared.cursor.Cursor.{Cursor}
use Rattle.tw_sync.specs.declared.error.SyncError.TheVariants as errors
use Rattle.tw_sync.proofs.CursorInChain.{cut_grows, pushes_grown, is_in_grown}
use Rattle.tw_sync.proofs.HonestProgress.{late_goes_on}
use Rattle.tw_sync.proofs.Hearing.{kept_on, growing_on, hears_on, told_in-past}
use Rattle.tw_sync.proofs.ExpectedReplies.{conflict_leads, not_late, goes_to_last, goes_on_so_far, heard_any}
use Rattle.tw_sync.proofs.Results.{ended_by}
use Rattle.tw_sync.proofs.Served.{grows_on}
use Rattle.tw_sync.proofs.OneExchangeMore.{IsAsked, SaysTruly, asked_on}
use Rattle.tw_sync.proofs.ToldBefore.{tells_all}

-- the cursor with one conflict more
pub record IsLater (p q : Cursor) : Type 0 where
  pub walker : q.walker ≡ p.walker
  pub versions : q.versions ≡ p.versions
  pub bytes : q.bytes ≡ p.bytes
  pub pending : q.pending ≡ p.pending
  pub unsent : q.unsent ≡ p.unsent
  pub conflicts : q.conflicts ≡ p.conflicts + 1
  pub wanted : q.wanted ≡ p.wanted

later_path : (state : State) (legs : List Leg) (p q : Cursor) → IsLater p q → IsOnPath state legs p → IsOnPath state legs q
later_path state legs p q same s = record {
  path = s.path;
  stands = subst (λ w. StandsAt state.tasks (place state legs) w) (sym same.walker) s.stands;
  versions = same.versions ∙ s.versions;
  bytes = same.bytes ∙ s.bytes;
  pending = same.pending ∙ s.pending;
  unsent = same.unsent ∙ s.unsent;
  wants = λ wanted. s.wants (sym same.wanted ∙ wanted);
}

some_more : (front at : List Version) → (g : Grows front at) → ¬ (latest at ≡ latest front) → ¬ (g.more ≡ [])
some_more front at g other = λ none. other (ap latest (g.joined ∙ ap (λ xs. front ++ xs) none ∙ append-nil front))

not_none : {A : Type 0} (xs : List A) → ¬ (xs ≡ []) → 1 ≤ length xs
not_none [] some = absurd (some refl)
not_none (x ∷ xs) some = omega arith

none_of_both : {A : Type 0} (xs ys : List A) → ¬ (xs ≡ []) → ¬ (xs ++ ys ≡ [])
none_of_both [] ys some = λ e. some refl
none_of_both (x ∷ xs) ys some = λ e. cc

-- versions of others stand behind the cursor
module _ {L : Type 0} (m : LinkModel L) (client : List ℕ) (state : State) (first a b : L) (legs : List Leg) (p : Cursor) (at : p.walker.at ≡ (place state legs).at) (last : List ℕ) (e : IsAtEnd m client state first a legs p) (on : GrowsOn m a b client) (one : IsRefusedOne m a b p.walker.at last) where
  to_there : Grows e.front one.at
  to_there = grows_on e.front (m.chain a) one.at e.given.after one.given.before

  more_there : ¬ (to_there.more ≡ [])
  more_there = some_more e.front one.at to_there (λ same. one.other (sym one.is_last ∙ same ∙ e.last ∙ sym at))

  pub refused_further : GoesFurther (m.chain b) (place state legs).at
  refused_further = record {
    front = e.front;
    back = to_there.more ++ one.given.after.more;
    cut = cut_grows one.at (m.chain b) (place state legs).at e.front to_there.more (record { split = to_there.joined; at = e.last }) one.given.after;
    some = none_of_both to_there.more one.given.after.more more_there;
  }

  pub refused_longer : length (m.chain first) + length (added_of legs) + (p.conflicts + 1) ≤ length (m.chain b)
  refused_longer =
      let x = ap length to_there.joined in
      let y = length-append e.front to_there.more in
      let z = ap length one.given.after.joined in
      let w = length-append one.at one.given.after.more in
      let n = not_none to_there.more more_there in
      let o = e.others in
      omega (arith, x, y, z, w, n, o)

pub came_late : {L : Type 0} (m : LinkModel L) (client host : List ℕ) (state : State) (first a b : L) (p q : Cursor) (segment last : List ℕ) → HasPulled m client host state first a p → IsAsked m client host a b (add_heard client p.walker.at segment (Conflict last))
    → (IsHonest m a client → GrowsOn m a b client) → (IsHonest m a client → IsRefusedOne m a b p.walker.at last) → IsLater p q → IsLate m client host state first b q last
came_late m client host state first a b p q segment last s asked grows one same =
    let h : Heard = add_heard client p.walker.at segment (Conflict last) in
    record {
      legs = s.legs;
      on_path = later_path state s.legs p q same s.on_path;
      tries = (let o = s.tries in let e = same.conflicts in omega (arith, o, e));
      asked = asked_on m client host first a b s.legs s.legs p q 1 0 (λ hs. EndedBy hs (IsLastReply client (place state s.legs).at)) (λ hs. EndedBy hs (IsConflict last)) h s.asked asked (conflict_leads h.reply last refl)
          (record { told = sym (append-nil (versions_of s.legs)); ops = []; reads = refl; versions = (let e = same.versions in omega (arith, e)); bytes = (let e = same.bytes in omega (arith, e)); conflicts = same.conflicts; wanted = same.wanted ∙ sym (or-false p.wanted) })
          (let e = same.conflicts in let f = same.versions in omega (arith, e, f)) (λ hs ended late. absurd (let calm = not_late client (place state s.legs).at hs ended in omega (arith, calm, late))) (λ hs u. ended_by hs h (IsConflict last) refl);
      come = λ honest. (
          let e = s.come honest in
          let on = grows e.on.honest in
          let o = one e.on.honest in
          record {
            on = growing_on m first a b client e.on on;
            mine = o.mine ∙ e.mine;
            lies = inr (is_in_grown state (m.chain a) (m.chain b) s.legs e.lies on.grows);
            behind = pushes_grown (m.chain first) (m.chain a) (m.chain b) (added_of s.legs) e.behind on.grows;
            others = (let n = refused_longer m client state first a b s.legs p s.on_path.stands.at last e on o in let f = same.conflicts in omega (arith, n, f));
            late = inr (let l = e.late in let f = same.conflicts in let k = same.versions in omega (arith, l, f, k), refused_further m client state first a b s.legs p s.on_path.stands.at last e on o);
          });
      behind = λ honest. (let e = s.come honest in refused_further m client state first a b s.legs p s.on_path.stands.at last e (grows e.on.honest) (one e.on.honest));
    }

-- ---- what follows a conflict

pub late_pulls : {L : Type 0} (m : LinkModel L) (client host : List ℕ) (state : State) (first now : L) (p : Cursor) (last : List ℕ) → IsLate m client host state first now p last → p.conflicts ≤ 15 → IsAsking m client host state first now p
late_pulls m client host state first now p last s few = record {
  legs = s.legs;
  on_path = s.on_path;
  tries = few;
  asked = record { kept = s.asked.kept; count = s.asked.count; heard = λ tells. heard_any m client host first now s.legs p (λ hs. EndedBy hs (IsConflict last)) (s.asked.heard tells) };
  come = s.come;
}

-- there is no version behind the cursor, where one came before what was sent
pub late_alone : {L : Type 0} (m : LinkModel L) (client host : List ℕ) (state : State) (first a b : L) (p : Cursor) (last : List ℕ) → IsLate m client host state first a p last → p.conflicts ≤ 15 → IsAsked m client host a b (child_heard client p.walker.at UpToDate)
    → (IsHonest m a client → SaysTruly m client a b p.walker.at UpToDate) → IsStopped m client host state first b p (errors.OutOfSync p.walker.at last)
late_alone m client host state first a b p last s tries asked tells = record {
  legs = s.legs;
  path = s.on_path.path;
  stands = inr s.on_path;
  kept = kept_on m first a b s.asked.kept asked.kept;
  cause = tt;
  heard = λ told_list. to_stop (s.asked.heard told_list) (asked.heard (s.asked.kept.tells_list ∙ told_list));
  come = λ honest. absurd (never honest);
}
  where
    h : Heard
    h = child_heard client p.walker.at UpToDate

    never : IsHonest m first client → ⊥
    never honest = let r = tells (s.come honest).on.honest in late_goes_on m client a b p (subst (GoesFurther (m.chain a)) (sym s.on_path.stands.at) (s.behind honest)) r.on r.says

    two : (hs : List Heard) → EndedBy hs (IsConflict last) → IsOutOfSync client (hs ++ h ∷ []) p.walker.at last
    two hs e = record {
      earlier = e.1.earlier;
      refused = e.0;
      asked_next = h;
      split = ap (λ xs. xs ++ h ∷ []) e.1.split ∙ append_assoc e.1.earlier (e.0 ∷ []) (h ∷ []);
      conflict = e.2;
      of_base = refl;
      none = refl;
    }

    to_stop : HeardSoFar m client host first a s.legs p (λ hs. EndedBy hs (IsConflict last)) → Hears m client host a b (h ∷ []) → HeardToStop m client host state first b s.legs (errors.OutOfSync p.walker.at last)
    to_stop t more = record {
      hs = t.hs ++ h ∷ [];
      hears = hears_on m client host first a b t.hs (h ∷ []) t.hears more;
      refused = record { cause = two t.hs t.so; until = goes_to_last t.hs h (goes_on_so_far m client host first a s.legs p _ t tries) };
      measured = tt;
      tells = tells_all s.legs (errors.OutOfSync p.walker.at last) (t.hs ++ h ∷ []) refl (told_in-past t.hs h refl ∙ t.told);
      few = λ honest. absurd (never honest);
    }
