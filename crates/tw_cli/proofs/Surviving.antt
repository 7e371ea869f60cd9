-- The operations of a command survive.
use Rattle.std.proofs.Common.{◌≡◌, ◌∙◌, ◌⊎◌, inl, inr, refl, sym, ap, subst, Bool, true, false, cond, ℕ, zero, suc, List, [], ◌∷◌, ◌++◌, get_or, Some}
use Rattle.std.proofs.lemmas.List.{append-nil}
use Rattle.std.specs.List.{AllByRecursion}
use Rattle.tw_model.specs.Ops.{apply_all}
use Rattle.tw_model.specs.LocalOps.{plain}
use Rattle.tw_model.specs.declared.Op.{Op}
use Rattle.tw_model.specs.declared.SyncOp.{SyncOp}
use Rattle.tw_protocol.specs.Chain.{Version, IsChain, IsCut, IsBetween, Grows, same_id}
use Rattle.tw_protocol.proofs.Between.{between_joins}
use Rattle.tw_bodies.specs.Body.{Step}
use Rattle.tw_bodies.specs.Body.Step.{Commit, Undo, Sync, Carried, Partial, Checkpoint}
use Rattle.tw_groups.specs.Groups.{Groups, joined, groups_of, pending_on}
use Rattle.tw_groups.proofs.Grouping.{renewed_is_of_groups}
use Rattle.tw_state.specs.State.{State, undone, applied}
use Rattle.tw_state.proofs.Groups.{IsOfGroup}
use Rattle.tw_path.specs.Path.{Reached, Leg, come, IsPath, versions_of}
use Rattle.tw_path.specs.Fold.{IsFold}
use Rattle.tw_path.proofs.Folds.{fold_grows}
use Rattle.tw_path.proofs.Paths.{path_splits}
use Rattle.tw_outcome.proofs.Ends.{first_part, went_folds, end_agrees}
use Rattle.tw_outcome.specs.Agreement.{Agrees}
use Rattle.tw_outcome.specs.Start.{StartsSoundly}
use Rattle.tw_outcome.specs.End.{ServerChain, moved, stands_at, ends_at, EndsSo}
use Rattle.tw_outcome.specs.End as end
use Rattle.tw_outcome.specs.End.Answer.{Done, Stopped, Unwritten}
use Rattle.tw_sync.specs.Laws.LaterOps.{Follows}
use Rattle.tw_sync.specs.Theorem.{World, AllAgree, IsGood, Makes, IsCommit}
use Rattle.tw_sync.proofs.LaterOps.{commit_follows}
use Rattle.tw_sync.proofs.CursorInChain.{between_none, between_grows, cut_behind}
use Rattle.tw_sync.proofs.Folds.{agrees_is_kept}
use Rattle.tw_sync.proofs.LocalSteps.{commit_agrees, undo_agrees}
use Rattle.tw_sync.proofs.Served.{chain_front, grows_same, grows_on}
use Rattle.tw_sync.proofs.Worlds.{reached_is_good}
use Rattle.tw_commands.proofs.Applied.{step_of_group, carried_applies}
use Rattle.tw_cli.specs.Surviving.{states_of, Came, IsIn, IsPassed, IsGone, AreLeft, Remain, LiveOn, TakesThemBack, WereTakenBack, AcknowledgedSurvives, added_by}
use Rattle.tw_cli.specs.Surviving.Came.{stayed, grew, ran}
use Rattle.tw_cli.proofs.Remaining.{in_left, in_right, all_of, left_all, left_then, IsThere, LeftIn, nothing_in, path_left}
use Rattle.tw_cli.proofs.Histories.{came_since, reached_since}
use Rattle.tw_cli.proofs.LastGroup.{groups_append, group_begins, group_of_ops, last_or, IsUndoneOf, undo_leaves}

-- ---- what remains

module _ (old : State) (begin : List Version) (ops : List SyncOp) where
  -- a place that was passed was so also over a longer chain
  soundly_grown : (chain now : List Version) (state : State) (from : Reached) → Grows chain now → StartsSoundly chain state from → StartsSoundly now state from
  soundly_grown chain now state from g (inl at) = inl at
  soundly_grown chain now state from g (inr (new, fold)) = inr (new, fold_grows chain now from.at from.tasks fold g)

  lies_grown : (chain now : List Version) (v w : List ℕ) (legs : List Leg) → Grows chain now → (legs ≡ []) ⊎ IsBetween chain v w (versions_of legs) → (legs ≡ []) ⊎ IsBetween now v w (versions_of legs)
  lies_grown chain now v w legs g (inl none) = inl none
  lies_grown chain now v w legs g (inr is) = inr (between_grows chain now v w (versions_of legs) is g)

  passed_grown : (chain now : List Version) (place : Reached) → Grows chain now → IsPassed old begin chain place → IsPassed old begin now place
  passed_grown chain now place g p = record {
    before = p.before;
    state = p.state;
    came = p.came;
    grows = grows_on p.before chain now p.grows g;
    from = p.from;
    legs = p.legs;
    on = record { soundly = soundly_grown chain now p.state p.from g p.on.soundly; path = p.on.path; between = lies_grown chain now p.from.at (come p.from p.legs).at p.legs g p.on.between };
    is = p.is;
  }

  -- what is gone is so over a longer chain, and of more versions
  gone_grown : (chain now vs ws : List Version) → Grows chain now → ((v : Version) → IsIn vs v → IsIn ws v) → (op : SyncOp) → IsGone old begin chain vs op → IsGone old begin now ws op
  gone_grown chain now vs ws g wider op (inl is) = inl (record { version = is.version; there = wider is.version is.there; ops = is.ops; reads = is.reads; holds = is.holds })
  gone_grown chain now vs ws g wider op (inr dropped) = inr (record {
    place = dropped.place;
    passed = passed_grown chain now dropped.place g dropped.passed;
    folded = fold_grows chain now dropped.place.at dropped.place.tasks dropped.folded g;
    version = dropped.version;
    there = wider dropped.version dropped.there;
    ops = dropped.ops;
    may = dropped.may;
    other = dropped.other;
    met = dropped.met;
    lost = dropped.lost;
  })

  left_grown : (F G : SyncOp → Type 0) → ((op : SyncOp) → F op → G op) → (os left : List SyncOp) → AreLeft F os left → AreLeft G os left
  left_grown F G f os left are = left_then F G G f (λ op is. is) os left left are (left_all G left)

  remain_grown : (chain now : List Version) (at : List ℕ) (left : List SyncOp) → Grows chain now → Remain old begin chain at ops left → Remain old begin now at ops left
  remain_grown chain now at left g r = record {
    versions = r.versions;
    between = between_grows chain now old.base at r.versions r.between g;
    are = left_grown (IsGone old begin chain r.versions) (IsGone old begin now r.versions) (gone_grown chain now r.versions r.versions g (λ v is. is)) ops left r.are;
  }

  survive_grown : (chain now : List Version) (state : State) → Grows chain now → LiveOn old begin chain ops state → LiveOn old begin now ops state
  survive_grown chain now state g s = record { left = s.left; remain = remain_grown chain now state.base s.left g s.remain; pending = s.pending }

  -- versions more have passed
  remain_on : (chain : List Version) (at next : List ℕ) (mid left : List SyncOp) (vs : List Version) → IsChain chain → Remain old begin chain at ops mid → IsBetween chain at next vs
      → AreLeft (IsGone old begin chain vs) mid left → Remain old begin chain next ops left
  remain_on chain at next mid left vs whole r between are = record {
    versions = r.versions ++ vs;
    between = between_joins chain old.base at next r.versions vs whole r.between between;
    are = left_then (IsGone old begin chain r.versions) (IsGone old begin chain vs) (IsGone old begin chain (r.versions ++ vs)) (gone_grown chain chain r.versions (r.versions ++ vs) (grows_same chain) (in_left r.versions vs))
        (gone_grown chain chain vs (r.versions ++ vs) (grows_same chain) (in_right r.versions vs)) ops mid left r.are are;
  }

  -- ---- a commit, and an undo

  commit_survives : (chain : List Version) (state next : State) → IsCommit state next → LiveOn old begin chain ops state → LiveOn old begin chain ops next
  commit_survives chain state next c s =
      let f : Follows state next c.ops = commit_follows state state next c.renumber [] c.ops (record { base = refl; start = refl; pending = sym (append-nil state.pending) }) c.step in
      let groups : groups_of next.pending ≡ groups_of state.pending ++ groups_of c.ops = ap groups_of f.pending ∙ groups_append state.pending c.ops (group_begins c.ops c.group) in
      record { left = s.left; remain = subst (λ (at : List ℕ). Remain old begin chain at ops s.left) (sym f.base) s.remain; pending = by groups s.pending }
    where
      by : groups_of next.pending ≡ groups_of state.pending ++ groups_of c.ops → (s.left ≡ []) ⊎ IsIn (groups_of state.pending) s.left → (s.left ≡ []) ⊎ IsIn (groups_of next.pending) s.left
      by groups (inl none) = inl none
      by groups (inr is) = inr (subst (λ (gs : Groups). IsIn gs s.left) (sym groups) (in_left (groups_of state.pending) (groups_of c.ops) s.left is))

  undo_survives : (chain : List Version) (state next : State) → undone state ≡ Some next → LiveOn old begin chain ops state → LiveOn old begin chain ops next ⊎ TakesThemBack old begin chain ops state next
  undo_survives chain state next e s = by s.left refl s.pending
    where
      is : IsUndoneOf state next
      is = undo_leaves state next e

      remains : Remain old begin chain next.base ops s.left
      remains = subst (λ (at : List ℕ). Remain old begin chain at ops s.left) (sym is.base) s.remain

      taken : (x : SyncOp) (xs : List SyncOp) → s.left ≡ x ∷ xs → is.group ≡ s.left → TakesThemBack old begin chain ops state next
      taken x xs same last = record {
        left = s.left;
        remain = s.remain;
        some = λ none. (let f : x ∷ xs ≡ [] = sym same ∙ none in absurd cc);
        before = groups_of next.pending;
        last = is.groups ∙ ap (λ (g : List SyncOp). groups_of next.pending ++ g ∷ []) last;
        undo = e;
      }

      either : (x : SyncOp) (xs : List SyncOp) → s.left ≡ x ∷ xs → IsIn (groups_of next.pending) s.left ⊎ (is.group ≡ s.left) → LiveOn old begin chain ops next ⊎ TakesThemBack old begin chain ops state next
      either x xs same (inl held) = inl (record { left = s.left; remain = remains; pending = inr held })
      either x xs same (inr last) = inr (taken x xs same last)

      by : (left : List SyncOp) → s.left ≡ left → (s.left ≡ []) ⊎ IsIn (groups_of state.pending) s.left → LiveOn old begin chain ops next ⊎ TakesThemBack old begin chain ops state next
      by left same (inl none) = inl (record { left = s.left; remain = remains; pending = inl none })
      by [] same (inr held) = inl (record { left = s.left; remain = remains; pending = inl same })
      by (x ∷ xs) same (inr held) = either x xs same (last_or (groups_of next.pending) is.group s.left (subst (λ (gs : Groups). IsIn gs s.left) is.groups held))

  -- ---- a sync

  -- the versions of a path lie in the chain, also if it has passed none
  lies_between : (chain : List Version) (from : Reached) (legs : List Leg) (front back : List Version) → IsCut chain from.at front back
      → (legs ≡ []) ⊎ IsBetween chain from.at (come from legs).at (versions_of legs) → IsBetween chain from.at (come from legs).at (versions_of legs)
  lies_between chain from legs front back cut (inl none) =
      subst (λ (ls : List Leg). IsBetween chain from.at (come from ls).at (versions_of ls)) (sym none) (between_none chain from.at front back cut)
  lies_between chain from legs front back cut (inr is) = is

  -- what a path leaves at a place of it
  pub record IsLeftAt (chain : List Version) (r : Reached) : Type 0 where
    pub left : List SyncOp
    pub remain : Remain old begin chain r.at ops left
    pub among : (left ≡ []) ⊎ IsIn r.left left

  -- a path starts here whose tasks are the fold, of a state to which the machine came
  record IsFrom (chain : List Version) (from : Reached) : Type 0 where
    before : List Version
    state : State
    came : Came old begin before state
    grows : Grows before chain
    soundly : StartsSoundly chain state from
    folded : IsFold chain from.at from.tasks

  -- so each of its places is there
  there_on : (chain : List Version) (from : Reached) (legs : List Leg) → IsChain chain → IsPath from legs → (legs ≡ []) ⊎ IsBetween chain from.at (come from legs).at (versions_of legs) → IsFrom chain from
      → (gone more : List Leg) → legs ≡ gone ++ more → IsThere old begin chain (come from gone)
  there_on chain from legs whole path lies f gone more e =
      let p : IsPath from gone = (path_splits from gone more (subst (IsPath from) e path)).0 in
      let l : (gone ≡ []) ⊎ IsBetween chain from.at (come from gone).at (versions_of gone) =
      first_part from chain gone more (subst (λ (ls : List Leg). (ls ≡ []) ⊎ IsBetween chain from.at (come from ls).at (versions_of ls)) e lies) in
      record {
        passed = record { before = f.before; state = f.state; came = f.came; grows = f.grows; from = from; legs = gone; on = record { soundly = f.soundly; path = p; between = l }; is = refl };
        folded = went_folds from chain gone whole f.folded p l;
      }

  path_survives : (chain : List Version) (from : Reached) (legs : List Leg) → IsChain chain → IsFrom chain from → IsPath from legs
      → (legs ≡ []) ⊎ IsBetween chain from.at (come from legs).at (versions_of legs) → IsLeftAt chain from → IsLeftAt chain (come from legs)
  path_survives chain from legs whole f path lies s =
      let r : Reached = come from legs in
      let b = s.remain.between in
      let between : IsBetween chain from.at r.at (versions_of legs) =
      lies_between chain from legs (b.front ++ s.remain.versions) b.back (cut_behind chain old.base from.at s.remain.versions b) lies in
      let l : LeftIn old begin chain (versions_of legs) s.left r.left =
      path_left old begin chain (versions_of legs) from legs s.left (there_on chain from legs whole path lies f) path (all_of (IsIn (versions_of legs)) (versions_of legs) (λ v is. is)) s.among in
      record { left = l.left; remain = remain_on chain from.at r.at s.left l.left (versions_of legs) whole s.remain between l.are; among = l.among }

  -- what is left at the start of a path: nothing, if it is a snapshot, since a new replica has nothing pending
  starts_left : (chain : List Version) (state : State) (from : Reached) → IsChain chain → StartsSoundly chain state from → LiveOn old begin chain ops state → IsLeftAt chain from
  starts_left chain state from whole (inl at) s = subst (IsLeftAt chain) (sym at) (record { left = s.left; remain = s.remain; among = s.pending })
  starts_left chain state from whole (inr (new, fold)) s = by (none s.pending)
    where
      none : (s.left ≡ []) ⊎ IsIn (groups_of state.pending) s.left → s.left ≡ []
      none (inl e) = e
      none (inr held) = absurd (subst (λ (pending : List Op). IsIn (groups_of pending) s.left) new.fresh.nothing held)

      between : IsBetween chain state.base from.at fold.front
      between = record { front = []; back = fold.back; split = fold.cut.split; from = sym new.fresh.nil; to = fold.cut.at }

      by : s.left ≡ [] → IsLeftAt chain from
      by e = record {
        left = [];
        remain = remain_on chain state.base from.at s.left [] fold.front whole s.remain between (subst (λ (left : List SyncOp). AreLeft (IsGone old begin chain fold.front) left []) (sym e) refl);
        among = inl refl;
      }

  done_survives : (chain : List Version) (state : State) (r : Reached) → joined r.left ≡ [] → LiveOn old begin chain ops state → IsLeftAt chain r → LiveOn old begin chain ops (ends_at state r)
  done_survives chain state r none s l = by (same_id r.at state.base)
    where
      nothing : (l.left ≡ []) ⊎ IsIn r.left l.left → l.left ≡ []
      nothing (inl e) = e
      nothing (inr held) = nothing_in old begin chain [] r.left l.left none held

      by : (same : Bool) → LiveOn old begin chain ops (cond same state (moved r.at [] r.tasks state))
      by true = s
      by false = record { left = l.left; remain = l.remain; pending = inl (nothing l.among) }

  stopped_survives : (chain : List Version) (state : State) (r : Reached) → LiveOn old begin chain ops state → IsLeftAt chain r → LiveOn old begin chain ops (stands_at state r)
  stopped_survives chain state r s l = by (same_id r.at state.base)
    where
      groups : groups_of (pending_on r.tasks r.left) ≡ r.left
      groups = (renewed_is_of_groups r.tasks r.left).0

      there : (l.left ≡ []) ⊎ IsIn r.left l.left → (l.left ≡ []) ⊎ IsIn (groups_of (pending_on r.tasks r.left)) l.left
      there (inl e) = inl e
      there (inr held) = inr (subst (λ (gs : Groups). IsIn gs l.left) (sym groups) held)

      by : (same : Bool) → LiveOn old begin chain ops (cond same state (moved r.at (pending_on r.tasks r.left) (apply_all r.tasks (joined r.left)) state))
      by true = s
      by false = record { left = l.left; remain = l.remain; pending = there l.among }

  ends_survive : (answer : end.Answer) (state : State) (from : Reached) (new : State) (before after : ServerChain) → IsChain after.chain → IsFrom after.chain from → EndsSo answer state from new before after → LiveOn old begin after.chain ops state → IsLeftAt after.chain from → LiveOn old begin after.chain ops new
  ends_survive (Done report) state from new before after whole f d s start =
      subst (LiveOn old begin after.chain ops) (sym d.state)
      (done_survives after.chain state (come from d.legs) d.nothing s (path_survives after.chain from d.legs whole f d.went.path d.went.between start))
  ends_survive Stopped state from new before after whole f d s start =
      subst (LiveOn old begin after.chain ops) (sym d.state)
      (stopped_survives after.chain state (come from d.legs) s
      (path_survives after.chain from d.legs whole f (path_splits from d.legs d.untold d.went.path).0 (first_part from after.chain d.legs d.untold d.went.between) start))
  ends_survive Unwritten state from new before after whole f d s start = subst (LiveOn old begin after.chain ops) (sym d.state) s

  -- ---- a run

  -- each state to which the machine came agrees with the chain
  module _ (agrees : Agrees old begin) where
    came_agrees : (now : List Version) (state : State) → IsChain now → Came old begin now state → Agrees state now
    came_agrees _ _ whole stayed = agrees
    came_agrees _ _ whole (grew before now state came grows) = agrees_is_kept state before now (came_agrees before state (chain_front before now grows whole) came) grows
    came_agrees _ _ whole (ran before now state next came makes grows) = by makes (came_agrees before state (chain_front before now grows whole) came)
      where
        by : Makes before now state (Some next) → Agrees state before → Agrees next now
        by (inl c) a = commit_agrees c.renumber c.ops state next now c.group (agrees_is_kept state before now a grows) c.step
        by (inr (inl undo)) a = undo_agrees state next now (agrees_is_kept state before now a grows) undo
        by (inr (inr s)) a = end_agrees s.answer state s.from next (record { chain = before; own = s.own }) (record { chain = now; own = s.own_now }) whole a s.sound s.ended

    -- where its path starts the tasks are the fold
    start_folds : (chain : List Version) (state : State) (from : Reached) → Agrees state chain → StartsSoundly chain state from → IsFold chain from.at from.tasks
    start_folds chain state from a (inl at) = subst (λ (r : Reached). IsFold chain r.at r.tasks) (sym at) a.folded
    start_folds chain state from a (inr (new, fold)) = fold

    sync_from : (before now : List Version) (state : State) (from : Reached) → IsChain now → Came old begin before state → Grows before now → StartsSoundly now state from → IsFrom now from
    sync_from before now state from whole came g soundly = record {
      before = before;
      state = state;
      came = came;
      grows = g;
      soundly = soundly;
      folded = start_folds now state from (agrees_is_kept state before now (came_agrees before state (chain_front before now g whole) came) g) soundly;
    }

    made_survives : (before now : List Version) (state next : State) → IsChain now → Came old begin before state → Grows before now → Makes before now state (Some next) → LiveOn old begin before ops state
        → LiveOn old begin now ops next ⊎ TakesThemBack old begin before ops state next
    made_survives before now state next whole came g (inl commit) s = inl (commit_survives now state next commit (survive_grown before now state g s))
    made_survives before now state next whole came g (inr (inl undo)) s = by (undo_survives before state next undo s)
      where
        by : LiveOn old begin before ops next ⊎ TakesThemBack old begin before ops state next → LiveOn old begin now ops next ⊎ TakesThemBack old begin before ops state next
        by (inl kept) = inl (survive_grown before now next g kept)
        by (inr taken) = inr taken
    made_survives before now state next whole came g (inr (inr sync)) s =
        let kept : LiveOn old begin now ops state = survive_grown before now state g s in
        inl (ends_survive sync.answer state sync.from next (record { chain = before; own = sync.own }) (record { chain = now; own = sync.own_now }) whole (sync_from before now state sync.from whole came g sync.sound) sync.ended.1 kept
        (starts_left now state sync.from whole sync.sound kept))

    survives_in : LiveOn old begin begin ops old → (now : List Version) (state : State) → IsChain now → (came : Came old begin now state)
        → LiveOn old begin now ops state ⊎ WereTakenBack old begin ops came
    survives_in start _ _ whole stayed = inl start
    survives_in start _ _ whole (grew before now state came grows) = by (survives_in start before state (chain_front before now grows whole) came)
      where
        by : LiveOn old begin before ops state ⊎ WereTakenBack old begin ops came → LiveOn old begin now ops state ⊎ WereTakenBack old begin ops came
        by (inl kept) = inl (survive_grown before now state grows kept)
        by (inr taken) = inr taken
    survives_in start _ _ whole (ran before now state next came makes grows) = by (survives_in start before state (chain_front before now grows whole) came)
      where
        made : LiveOn old begin now ops next ⊎ TakesThemBack old begin before ops state next → LiveOn old begin now ops next ⊎ (WereTakenBack old begin ops came ⊎ TakesThemBack old begin before ops state next)
        made (inl kept) = inl kept
        made (inr taken) = inr (inr taken)

        by : LiveOn old begin before ops state ⊎ WereTakenBack old begin ops came → LiveOn old begin now ops next ⊎ (WereTakenBack old begin ops came ⊎ TakesThemBack old begin before ops state next)
        by (inl kept) = made (made_survives before now state next whole came grows makes kept)
        by (inr taken) = inr (inl taken)

-- ---- a command that was carried out

-- the operations of its step are a group of what is pending
added_pends : (step : Step) (old new : State) → IsOfGroup step → applied old step ≡ Some new → (added_by step ≡ []) ⊎ IsIn (groups_of new.pending) (added_by step)
added_pends (Commit renumber ops) old new group e = by (group_of_ops ops group)
  where
    f : Follows old new ops
    f = commit_follows old old new renumber [] ops (record { base = refl; start = refl; pending = sym (append-nil old.pending) }) e

    by : (plain ops ≡ []) ⊎ IsIn (groups_of ops) (plain ops) → (plain ops ≡ []) ⊎ IsIn (groups_of new.pending) (plain ops)
    by (inl none) = inl none
    by (inr is) = inr (subst (λ (gs : Groups). IsIn gs (plain ops)) (sym (ap groups_of f.pending ∙ groups_append old.pending ops (group_begins ops group))) (in_right (groups_of old.pending) (groups_of ops) (plain ops) is))
added_pends Undo old new group e = inl refl
added_pends (Sync base ops) old new group e = inl refl
added_pends (Carried base ops) old new group e = inl refl
added_pends (Partial base ops pending) old new group e = inl refl
added_pends (Checkpoint base places tasks pending) old new group e = inl refl

starts_surviving : (chain : List Version) (step : Step) (old new : State) → Agrees new chain → IsOfGroup step → applied old step ≡ Some new → LiveOn new chain chain (added_by step) new
starts_surviving chain step old new agrees group e = record {
  left = added_by step;
  remain = record { versions = []; between = between_none chain new.base agrees.folded.front agrees.folded.back agrees.folded.cut; are = left_all (IsGone new chain chain []) (added_by step) };
  pending = added_pends step old new group e;
}

at_place : {X : Type 0} (P : X → Type 0) (d : X) → P d → (xs : List X) (i : ℕ) → AllByRecursion P xs → P (get_or xs i d)
at_place P d none [] zero all = none
at_place P d none [] (suc i) all = none
at_place P d none (x ∷ xs) zero all = all.0
at_place P d none (x ∷ xs) (suc i) all = at_place P d none xs i all.1

-- the only state of a machine in a good world agrees with its chain
one_agrees : (world : World) (number : ℕ) (one : State) → IsGood world → states_of world number ≡ one ∷ [] → Agrees one world.chain
one_agrees world number one good alone = (subst (AllAgree world.chain) alone (at_place (AllAgree world.chain) [] tt world.machines number good.agree)).0

pub acknowledged_survives : AcknowledgedSurvives
acknowledged_survives request ids answers old carried is number earlier events from now reached alone since state among =
    let came : Came carried.new from.chain now.chain state = came_since number from carried.new alone events now since state among in
    let good : IsGood now = reached_is_good (events ++ earlier) now (reached_since earlier from reached events now since) in
    let agrees : Agrees carried.new from.chain = one_agrees from number carried.new (reached_is_good earlier from reached) alone in
    let start : LiveOn carried.new from.chain from.chain (added_by carried.step) carried.new =
    starts_surviving from.chain carried.step old carried.new agrees (step_of_group request ids answers old carried is) (carried_applies request ids answers old carried is) in
    (came, survives_in carried.new from.chain (added_by carried.step) agrees start now.chain state good.served.whole came)
