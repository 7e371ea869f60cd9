-- How far a sync comes along the chain of an honest link.
use Rattle.std.proofs.Common.{◌≡◌, ◌⊎◌, ℕ, ◌+◌, ◌≤◌, inl, inr, length, List, [], ◌∷◌, ◌++◌, refl, sym, ap, subst, ◌∙◌, arith, length-append}
use Rattle.std.specs.List.{AllByRecursion}
use Rattle.std.proofs.lemmas.List.{append-nil}
use Rattle.std.proofs.lemmas.List.Elements.{Contains-append_right}
use Rattle.uuid.specs.Parts.{zero_bytes}
use Rattle.tw_protocol.specs.Chain.{Version, latest, last_from, IsChain, IsCut, IsBetween, HoldsAll, Grows}
use Rattle.tw_protocol.specs.Answer.{version, IsKnown}
use Rattle.tw_protocol.proofs.Chains.{row_is_split_once}
use Rattle.tw_http.specs.Link.{LinkModel}
use Rattle.tw_state.specs.State.{State}
use Rattle.tw_path.specs.Path.{Leg, versions_of, added_of}
use Rattle.tw_path.specs.Path.Leg.{Pull}
use Rattle.tw_outcome.specs.Agreement.{Agrees}
use Rattle.tw_sync.specs.Replies.Answers.{GrowsOn, IsChildAnswer}
use Rattle.tw_sync.specs.Way.Cursor.{place, TakesVersion, IsIn, LiesIn, GoesFurther}
use Rattle.tw_sync.specs.Way.Progress.{HasCome, IsAtEnd}
use Rattle.tw_sync.specs.declared.ask.ChildAnswer.TheVariants.{Found, UpToDate, Gone}
use Rattle.tw_sync.specs.declared.cursor.Cursor.{Cursor}
use Rattle.tw_sync.proofs.Served.{grows_on}
use Rattle.tw_sync.proofs.Hearing.{growing_on}
use Rattle.tw_sync.proofs.Legs.{added_pull}
use Rattle.tw_sync.proofs.CursorInChain.{grown_longer, cut_grows, between_grows, cut_before, cut_behind, pushes_grown, lies_grown, lies_at_cut, lies_on}

-- no version stands behind the last of a chain that was longer
not_further : (a at b : List Version) (v : List ℕ) → IsChain b → Grows a at → Grows at b → GoesFurther a v → latest at ≡ v → ⊥
not_further a at b v whole f g further last =
    let here : IsCut at v further.front (further.back ++ f.more) = cut_grows a at v further.front further.back further.cut f in
    let there : IsCut at v at [] = record { split = sym (append-nil at); at = last } in
    let same : further.front ≡ at = row_is_split_once b v further.front ((further.back ++ f.more) ++ g.more) at ([] ++ g.more) whole (cut_grows at b v further.front (further.back ++ f.more) here g) (cut_grows at b v at [] there g) in
    let long = ap length here.split in
    let parts = length-append further.front (further.back ++ f.more) in
    let more = length-append further.back f.more in
    let front = ap length same in
    further.some (none further.back (omega (arith, long, parts, more, front)))
  where
    none : (xs : List Version) → length xs ≡ 0 → xs ≡ []
    none [] e = refl
    none (x ∷ xs) e = absurd (omega (arith, e))

module _ {L : Type 0} (m : LinkModel L) (client : List ℕ) (state : State) (first a b : L) (legs : List Leg) (p : Cursor) (at : p.walker.at ≡ (place state legs).at) (h : HasCome m client state first a legs p) (on : GrowsOn m a b client) where
  -- the version that an answer brings stands behind the cursor
  pub found_behind : (id segment : List ℕ) → IsChildAnswer m a b p.walker.at (Found id segment) → IsIn state (m.chain b) legs × IsBetween (m.chain b) (place state legs).at id (version id p.walker.at segment ∷ [])
  found_behind id segment answer =
      let v : Version = version id p.walker.at segment in
      let next : IsBetween (m.chain b) (place state legs).at id (v ∷ []) = subst (λ x. IsBetween (m.chain b) x id (v ∷ [])) at (between_grows answer.at (m.chain b) p.walker.at id (v ∷ []) answer.says answer.given.after) in
      (lies_at_cut state (m.chain b) legs next.front (v ∷ [] ++ next.back) (cut_before (m.chain b) (place state legs).at id (v ∷ []) next) (lies_grown state (m.chain a) (m.chain b) legs h.lies on.grows), next)

  -- it is taken
  pub come_found : (q : Cursor) (id segment : List ℕ) → m.own b ≡ m.own a → IsChildAnswer m a b p.walker.at (Found id segment) → (t : TakesVersion state.tasks p q id segment) → HasCome m client state first b (legs ++ Pull (version id p.walker.at segment) t.ops ∷ []) q
  come_found q id segment own answer t =
      let v : Version = version id p.walker.at segment in
      let found = found_behind id segment answer in
      let same : added_of (legs ++ Pull v t.ops ∷ []) ≡ added_of legs = added_pull legs v t.ops in
      record {
        on = growing_on m first a b client h.on on;
        mine = own ∙ h.mine ∙ ap (λ vs. m.own first ++ vs) (sym same);
        lies = inr (lies_on state (m.chain b) legs (Pull v t.ops) on.whole found.0 found.1);
        behind = subst (AllByRecursion (λ (w : Version). HoldsAll (m.chain first) (m.chain b) w.parent)) (sym same) (pushes_grown (m.chain first) (m.chain a) (m.chain b) (added_of legs) h.behind on.grows);
        others = (let o = h.others in let c = t.conflicts in let n = ap length same in let longer = grown_longer (m.chain a) (m.chain b) on.grows in omega (arith, o, c, n, longer));
        late = inl (fewer h.late);
      }
    where
      fewer : (p.conflicts ≤ p.versions) ⊎ ((p.conflicts ≤ p.versions + 1) × GoesFurther (m.chain a) (place state legs).at) → q.conflicts ≤ q.versions
      fewer (inl le) = let c = t.conflicts in let n = t.versions in omega (arith, le, c, n)
      fewer (inr (le, further)) = let c = t.conflicts in let n = t.versions in omega (arith, le, c, n)

  -- there is no version behind the cursor
  pub come_to_end : m.own b ≡ m.own a → IsChildAnswer m a b p.walker.at UpToDate → IsAtEnd m client state first b legs p
  come_to_end own answer =
      let last : latest answer.at ≡ (place state legs).at = answer.says ∙ at in
      let here : IsCut (m.chain b) (place state legs).at answer.at answer.given.after.more = record { split = answer.given.after.joined; at = last } in
      record {
        on = growing_on m first a b client h.on on;
        mine = own ∙ h.mine;
        lies = lies_at_cut state (m.chain b) legs answer.at answer.given.after.more here (lies_grown state (m.chain a) (m.chain b) legs h.lies on.grows);
        behind = pushes_grown (m.chain first) (m.chain a) (m.chain b) (added_of legs) h.behind on.grows;
        front = answer.at;
        given = record { before = grows_on (m.chain first) (m.chain a) answer.at h.on.grows answer.given.before; after = answer.given.after };
        last = last;
        others = (let o = h.others in let longer = grown_longer (m.chain a) answer.at answer.given.before in omega (arith, o, longer));
        late = fewer h.late;
      }
    where
      fewer : (p.conflicts ≤ p.versions) ⊎ ((p.conflicts ≤ p.versions + 1) × GoesFurther (m.chain a) (place state legs).at) → p.conflicts ≤ p.versions
      fewer (inl le) = le
      fewer (inr (le, further)) = absurd (not_further (m.chain a) answer.at (m.chain b) (place state legs).at on.whole answer.given.before answer.given.after further (answer.says ∙ at))

-- where a version came too late, there is one behind the cursor
pub late_goes_on : {L : Type 0} (m : LinkModel L) (client : List ℕ) (a b : L) (p : Cursor) → GoesFurther (m.chain a) p.walker.at → GrowsOn m a b client → IsChildAnswer m a b p.walker.at UpToDate → ⊥
late_goes_on m client a b p further on answer = not_further (m.chain a) answer.at (m.chain b) p.walker.at on.whole answer.given.before answer.given.after further answer.says

-- ---- the base is known

known_behind : (h : List ℕ) (front back : List Version) (v : List ℕ) → last_from h front ≡ v → IsKnown h (front ++ back) v
known_behind h [] back v e = inl e
known_behind h (x ∷ xs) back v e = one_more (known_behind x.id xs back v e)
  where
    one_more : IsKnown x.id (xs ++ back) v → IsKnown h (x ∷ (xs ++ back)) v
    one_more (inl same) = inr (x, (0, omega arith, refl), same)
    one_more (inr (w, at, same)) = inr (w, Contains-append_right (x ∷ []) (xs ++ back) w at, same)

cut_known : (chain : List Version) (v : List ℕ) (front back : List Version) → IsCut chain v front back → IsKnown zero_bytes chain v
cut_known chain v front back cut = subst (λ c. IsKnown zero_bytes c v) (sym cut.split) (known_behind zero_bytes front back v cut.at)

-- the server knows the base of a replica that agrees with its chain
pub never_gone : {L : Type 0} (m : LinkModel L) (client : List ℕ) (state : State) (first a b : L) (legs : List Leg) (p : Cursor) → p.walker.at ≡ (place state legs).at → HasCome m client state first a legs p → IsChildAnswer m a b p.walker.at Gone → ¬ (Agrees state (m.chain first))
never_gone m client state first a b legs p at h answer = λ agrees. answer.says (subst (IsKnown zero_bytes answer.at) (sym at) (known h.lies agrees))
  where
    known : LiesIn state (m.chain a) legs → Agrees state (m.chain first) → IsKnown zero_bytes answer.at (place state legs).at
    known (inl none) agrees =
        let g : Grows (m.chain first) answer.at = grows_on (m.chain first) (m.chain a) answer.at h.on.grows answer.given.before in
        subst (λ ls. IsKnown zero_bytes answer.at (place state ls).at) (sym none) (cut_known answer.at state.base agrees.folded.front (agrees.folded.back ++ g.more) (cut_grows (m.chain first) answer.at state.base agrees.folded.front agrees.folded.back agrees.folded.cut g))
    known (inr is) agrees =
        let b : IsBetween answer.at state.base (place state legs).at (versions_of legs) = between_grows (m.chain a) answer.at state.base (place state legs).at (versions_of legs) is answer.given.before in
        cut_known answer.at (place state legs).at (b.front ++ versions_of legs) b.back (cut_behind answer.at state.base (place state legs).at (versions_of legs) b)
