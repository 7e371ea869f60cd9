-- The task that was started last is among the candidates.
use Rattle.std.specs.Prelude.{is_some, is_none, nat_le, codes, IfSome}
use Rattle.std.proofs.Common.{◌≡◌, ℕ, Bool, true, false, cond, ◌||◌, List, [], ◌∷◌, ◌++◌, Option, Some, None, refl, sym, ap, subst, ◌∙◌}
use Rattle.std.proofs.lemmas.Cmp.{nat_list_cmp_total}
use Rattle.std.proofs.lemmas.List.Folds.{list_any-append}
use Rattle.std.specs.Cmp.Lexicographic.{texts_ties}
use Rattle.std.specs.List.{flat_map, AllByRecursion}
use Rattle.std.specs.Ordering.{eq_by_cmp}
use Rattle.std.specs.FinMap.{get, empty, insert, entries, find, entries_sorted, get-entries, get-empty}
use Rattle.std.specs.FinMap.Entries.{where_key, is_sorted-where_key, find-where_key, same_entries}
use Rattle.tw_model.specs.Maps.{bytes_cmp, same_bytes}
use Rattle.tw_model.specs.Ops.{TaskValue, TasksValue}
use Rattle.tw_model.proofs.Maps.{bytes_exact, same_bytes_exact, same_bytes_itself, get-set_at}
use Rattle.tw_urgency.specs.Stored.{moment_at}
use Rattle.tw_urgency.specs.Status.{has_status}
use Rattle.timew_bridge.specs.declared.active.Active.{Active}
use Rattle.timew_bridge.specs.Active.{started, started_from, later, latest_of, latest, uuid_if, active_uuids}
use Rattle.timew_bridge.specs.Candidates.{is_among, ChangedAmong, candidates, if_active, active_at, put_if, with_active, active_among}
use Rattle.timew_bridge.proofs.Again.{found_all}

same_uuid : (u v : List ℕ) → eq_by_cmp bytes_cmp u v ≡ true → u ≡ v
same_uuid u v e = same_bytes_exact u v (texts_ties u v ∙ e)

or_true : (b c : Bool) → c ≡ true → b || c ≡ true
or_true true c is = refl
or_true false c is = is

not_first : (a b : Bool) → a || b ≡ false → a ≡ false
not_first true b e = absurd cc
not_first false b e = refl

not_second : (a b : Bool) → a || b ≡ false → b ≡ false
not_second true b e = absurd cc
not_second false b e = e

-- ---- the active ones among some uuids

-- a part has, of each uuid, its active task or none
abbrev IsPart : TasksValue → (now : ℕ) → TasksValue → Type 0
IsPart tasks now part = (u : List ℕ) → IfSome (get part u) (λ task. active_at tasks now u ≡ Some task)

module _ (tasks : TasksValue) (now : ℕ) where
  get-put : (part : TasksValue) (u q : List ℕ) → IsPart tasks now part → get (put_if u (active_at tasks now u) part) q ≡ cond (same_bytes q u) (active_at tasks now q) (get part q)
  get-put part u q is = by (active_at tasks now u) refl
    where
      at_q : same_bytes q u ≡ true → active_at tasks now q ≡ active_at tasks now u
      at_q same = ap (active_at tasks now) (same_bytes_exact q u same)

      lacks : (o : Option TaskValue) → IfSome o (λ task. active_at tasks now q ≡ Some task) → active_at tasks now q ≡ None → o ≡ active_at tasks now q
      lacks None is e = sym e
      lacks (Some task) is e = absurd (let f : Some task ≡ None = sym is ∙ e in cc)

      kept : (b : Bool) → (b ≡ true → get part q ≡ active_at tasks now q) → get part q ≡ cond b (active_at tasks now q) (get part q)
      kept true same = same refl
      kept false same = refl

      set : (task : TaskValue) → active_at tasks now u ≡ Some task → (b : Bool) → same_bytes q u ≡ b → cond b (Some task) (get part q) ≡ cond b (active_at tasks now q) (get part q)
      set task e true same = sym (at_q same ∙ e)
      set task e false same = refl

      put : (task : TaskValue) → active_at tasks now u ≡ Some task → (o : Option TaskValue) → get part u ≡ o → get (cond (is_none o) (insert part u task) part) q ≡ cond (same_bytes q u) (active_at tasks now q) (get part q)
      put task e None had = get-set_at part u (Some task) q ∙ set task e (same_bytes q u) refl
      put task e (Some other) had = kept (same_bytes q u) (λ same.
          ap (get part) (same_bytes_exact q u same) ∙ had ∙ sym (at_q same ∙ subst (λ (o : Option TaskValue). IfSome o (λ t. active_at tasks now u ≡ Some t)) had (is u)))

      by : (a : Option TaskValue) → active_at tasks now u ≡ a → get (put_if u a part) q ≡ cond (same_bytes q u) (active_at tasks now q) (get part q)
      by None e = kept (same_bytes q u) (λ same. lacks (get part q) (is q) (at_q same ∙ e))
      by (Some task) e = put task e (get part u) refl

  still_part : (part : TasksValue) (u : List ℕ) → IsPart tasks now part → IsPart tasks now (put_if u (active_at tasks now u) part)
  still_part part u is q = subst (λ (o : Option TaskValue). IfSome o (λ task. active_at tasks now q ≡ Some task)) (sym (get-put part u q is)) (by (same_bytes q u))
    where
      itself : (o : Option TaskValue) → active_at tasks now q ≡ o → IfSome o (λ task. active_at tasks now q ≡ Some task)
      itself None e = tt
      itself (Some task) e = e

      by : (b : Bool) → IfSome (cond b (active_at tasks now q) (get part q)) (λ task. active_at tasks now q ≡ Some task)
      by true = itself (active_at tasks now q) refl
      by false = is q

  get-with : (us : List (List ℕ)) (part : TasksValue) (q : List ℕ) → IsPart tasks now part → get (with_active tasks now us part) q ≡ cond (is_among us q) (active_at tasks now q) (get part q)
  get-with [] part q is = refl
  get-with (u ∷ us) part q is =
      get-with us (put_if u (active_at tasks now u) part) q (still_part part u is)
      ∙ ap (cond (is_among us q) (active_at tasks now q)) (get-put part u q is)
      ∙ join (is_among us q) (same_bytes q u)
      ∙ ap (λ b. cond (b || is_among us q) (active_at tasks now q) (get part q)) (texts_ties q u)
    where
      join : (a b : Bool) → cond a (active_at tasks now q) (cond b (active_at tasks now q) (get part q)) ≡ cond (b || a) (active_at tasks now q) (get part q)
      join true true = refl
      join true false = refl
      join false true = refl
      join false false = refl

  get-among : (us : List (List ℕ)) (q : List ℕ) → get (active_among tasks now us) q ≡ cond (is_among us q) (active_at tasks now q) None
  get-among us q =
      get-with us empty q (λ u. subst (λ (o : Option TaskValue). IfSome o (λ task. active_at tasks now u ≡ Some task)) (sym (get-empty bytes_cmp u)) tt)
      ∙ ap (cond (is_among us q) (active_at tasks now q)) (get-empty bytes_cmp q)

  pub with-append : (us vs : List (List ℕ)) (part : TasksValue) → with_active tasks now (us ++ vs) part ≡ with_active tasks now vs (with_active tasks now us part)
  with-append [] vs part = refl
  with-append (u ∷ us) vs part = with-append us vs (put_if u (active_at tasks now u) part)

-- ---- those that are not among the candidates

module _ (now : ℕ) where
  named_if : (u : List ℕ) (b : Bool) (o : Option ℕ) → is_some (cond b (started_from now u o) None) ≡ true → is_among (uuid_if (cond b (started_from now u o) None)) u ≡ true
  named_if u false o is = absurd cc
  named_if u true None is = absurd cc
  named_if u true (Some s) is = by (nat_le s now) is
    where
      it : Active
      it = record { uuid = u; start = s }

      by : (t : Bool) → is_some (cond t (Some it) None) ≡ true → is_among (uuid_if (cond t (Some it) None)) u ≡ true
      by true is = ap (λ b. b || false) (sym (texts_ties u u) ∙ same_bytes_itself u)
      by false is = absurd cc

  all_named : (es : List (List ℕ × TaskValue)) (u : List ℕ) (task : TaskValue) → find bytes_cmp u es ≡ Some task → is_some (started now (u, task)) ≡ true → is_among (flat_map (λ e. uuid_if (started now e)) es) u ≡ true
  all_named [] u task found is = absurd cc
  all_named (e ∷ es) u task found is =
      list_any-append (eq_by_cmp bytes_cmp u) (uuid_if (started now e)) (flat_map (λ e. uuid_if (started now e)) es) ∙ by (eq_by_cmp bytes_cmp u e.0) refl found (λ later. all_named es u task later is)
    where
      others : List (List ℕ)
      others = flat_map (λ e. uuid_if (started now e)) es

      either : (b c : Bool) → b ≡ true → b || c ≡ true
      either b c e = ap (λ x. x || c) e

      by : (b : Bool) → eq_by_cmp bytes_cmp u e.0 ≡ b → cond b (Some e.1) (find bytes_cmp u es) ≡ Some task → (find bytes_cmp u es ≡ Some task → is_among others u ≡ true)
          → is_among (uuid_if (started now e)) u || is_among others u ≡ true
      by true same f rest =
          let key : u ≡ e.0 = same_uuid u e.0 same in
          let value : task ≡ e.1 = some_inj task e.1 (sym f) in
          either (is_among (uuid_if (started now e)) u) (is_among others u)
          (ap (is_among (uuid_if (started now e))) key
          ∙ named_if e.0 (has_status (codes "pending") e.1) (moment_at (codes "start") e.1) (sym (λ i. is_some (started now (key i, value i))) ∙ is))
        where
          some_inj : (x y : TaskValue) → Some x ≡ Some y → x ≡ y
          some_inj x y e = ap (λ (o : Option TaskValue). of o) e
            where
              of : Option TaskValue → TaskValue
              of None = x
              of (Some z) = z
      by false same f rest = or_true (is_among (uuid_if (started now e)) u) (is_among others u) (rest f)

  outside : (old new : TasksValue) (named : List (List ℕ)) (q : List ℕ) → ChangedAmong named old new → is_among (candidates old now named) q ≡ false → None ≡ active_at new now q
  outside old new named q changed out = by (get old q) refl ∙ ap (if_active now q) (sym (changed q (not_second first second neither)))
    where
      first : Bool
      first = is_among (active_uuids old now) q

      second : Bool
      second = is_among named q

      neither : first || second ≡ false
      neither = sym (list_any-append (eq_by_cmp bytes_cmp q) (active_uuids old now) named) ∙ out

      idle : (task : TaskValue) → get old q ≡ Some task → (b : Bool) → is_some (started now (q, task)) ≡ b → None ≡ cond b (Some task) None
      idle task e true is = absurd (let f : true ≡ false = sym (all_named (entries old) q task (sym (get-entries old q) ∙ e) is) ∙ not_first first second neither in cc)
      idle task e false is = refl

      by : (o : Option TaskValue) → get old q ≡ o → None ≡ if_active now q o
      by None e = refl
      by (Some task) e = idle task e (is_some (started now (q, task))) refl

-- ---- the one that was started last

later_none : (o : Option Active) → o ≡ later None o
later_none None = refl
later_none (Some a) = refl

module _ (tasks : TasksValue) (now : ℕ) where
  abbrev there : List ℕ → Bool
  there q = is_some (active_at tasks now q)

  still_there : (b : Bool) (task : TaskValue) → is_some (cond b (Some task) None) ≡ b
  still_there true task = refl
  still_there false task = refl

  latest_where : (es : List (List ℕ × TaskValue)) → AllByRecursion (λ e. get tasks e.0 ≡ Some e.1) es → latest_of now (where_key bytes_cmp there es) ≡ latest_of now es
  latest_where [] are = refl
  latest_where (e ∷ es) are =
      ap (λ b. latest_of now (cond b (e ∷ where_key bytes_cmp there es) (where_key bytes_cmp there es))) (ap (λ o. is_some (if_active now e.0 o)) are.0 ∙ still_there (is_some (started now e)) e.1)
      ∙ by (started now e) refl (latest_where es are.1)
    where
      by : (o : Option Active) → started now e ≡ o → latest_of now (where_key bytes_cmp there es) ≡ latest_of now es
          → latest_of now (cond (is_some o) (e ∷ where_key bytes_cmp there es) (where_key bytes_cmp there es)) ≡ later o (latest_of now es)
      by None s rest = rest ∙ later_none (latest_of now es)
      by (Some a) s rest = λ i. later (s i) (rest i)

  filtered : (q : List ℕ) (o : Option TaskValue) → if_active now q o ≡ cond (is_some (if_active now q o)) o None
  filtered q None = refl
  filtered q (Some task) = by (is_some (started now (q, task)))
    where
      by : (b : Bool) → cond b (Some task) None ≡ cond (is_some (cond b (Some task) None)) (Some task) None
      by true = refl
      by false = refl

  latest_same : (part : TasksValue) → ((q : List ℕ) → get part q ≡ active_at tasks now q) → latest part now ≡ latest tasks now
  latest_same part is =
      ap (latest_of now)
      (same_entries bytes_cmp nat_list_cmp_total bytes_exact (entries part) (where_key bytes_cmp there (entries tasks)) (entries_sorted part) (is_sorted-where_key bytes_cmp there (entries tasks) (entries_sorted tasks)) (λ q.
      sym (get-entries part q) ∙ is q ∙ filtered q (get tasks q) ∙ ap (λ o. cond (there q) o None) (get-entries tasks q)
      ∙ sym (find-where_key bytes_cmp there q (λ x tied. ap there (sym (bytes_exact q x tied))) (entries tasks))))
      ∙ latest_where (entries tasks) (found_all tasks)

pub enough : (old new : TasksValue) (named : List (List ℕ)) (now : ℕ) → ChangedAmong named old new → latest (active_among new now (candidates old now named)) now ≡ latest new now
enough old new named now changed = latest_same new now (active_among new now (candidates old now named)) (λ q. get-among new now (candidates old now named) q ∙ by q (is_among (candidates old now named) q) refl)
  where
    by : (q : List ℕ) (b : Bool) → is_among (candidates old now named) q ≡ b → cond b (active_at new now q) None ≡ active_at new now q
    by q true e = refl
    by q false e = outside now old new named q changed e
