-- Runs of hooks, one after another.
use Rattle.std.proofs.Common.{◌≡◌, ◌≤◌, inl, inr, ℕ, List, [], ◌∷◌, ◌++◌, None, Result, Ok, Err, IfErr, refl, sym, ap, subst, ◌∙◌, append_assoc, append-nil, arith}
use Rattle.tw_model.specs.Ops.{TaskValue}
use Rattle.tw_world.specs.Disk.{Rose}
use Rattle.tw_spawn.specs.Spawner.{Run, SpawnerModel, TellsRuns, SpawnerKept}
use Rattle.tw_hooks.specs.declared.event.Event.{Event}
use Rattle.tw_hooks.specs.declared.error.HookError.{HookError}
use Rattle.tw_hooks.specs.declared.error.HookError.TheVariants.{Refused, Answer, Fault, Memory}
use Rattle.tw_hooks.specs.Answer.{answered}
use Rattle.tw_hooks.specs.Hooked.{IsRunOf, Answers, Leads, Stopped, Begun, RanNow, IsReason, RefusedBy}
use Rattle.tw_hooks.specs.One.{NoneBegun, OneAnswered, OneRefused}

-- ---- what follows from an answer

pub if_err : {A E : Type 0} (r : Result A E) (P Q : E → Type 0) → ((e : E) → P e → Q e) → IfErr r P → IfErr r Q
if_err (Ok x) P Q f p = p
if_err (Err e) P Q f p = f e p

-- ---- one call after another

pub kept_same : {P : Type 0} (m : SpawnerModel P) (old : P) → SpawnerKept m old old
kept_same m old = record { faults = omega arith; tells = refl; names = refl }

module _ {P : Type 0} (m : SpawnerModel P) (old mid new : P) where
  pub kept_on : SpawnerKept m old mid → SpawnerKept m mid new → SpawnerKept m old new
  kept_on k l = record { faults = omega (arith, k.faults, l.faults); tells = l.tells ∙ k.tells; names = l.names ∙ k.names }

  pub tells_on : SpawnerKept m old mid → TellsRuns m old → TellsRuns m mid
  tells_on k tells = k.tells ∙ tells

  pub rose_on : m.faults old ≤ m.faults mid → Rose (m.faults mid) (m.faults new) → Rose (m.faults old) (m.faults new)
  rose_on le rose = omega (arith, le, rose)

  pub reason_on : SpawnerKept m old mid → (e : HookError) → IsReason m mid new e → IsReason m old new e
  reason_on k (Refused name status) r = r
  reason_on k (Answer name) r = tt
  reason_on k Fault r = rose_on k.faults r
  reason_on k Memory r = tt

  -- what ran in the second of two calls, the first of which ran nothing
  pub ran_since : (p q : List Run → Type 0) → SpawnerKept m old mid → (TellsRuns m old → m.runs mid ≡ m.runs old) → (TellsRuns m old → (runs : List Run) → p runs → q runs) → RanNow m mid new p → RanNow m old new q
  ran_since p q k none weaker ran tells =
      let r = ran (tells_on k tells) in
      (r.0, r.1 ∙ ap (λ l. l ++ r.0) (none tells), weaker tells r.0 r.2)

-- ---- the hooks of a task

module _ (event : Event) (u : List ℕ) (now : ℕ) (before : TaskValue) where
  -- one more hook answers
  pub one_more : (names : List (List ℕ)) (runs : List Run) (after : TaskValue) (name : List ℕ) (rest : List (List ℕ)) (so_far next : TaskValue) (run : Run)
      → Leads event u now before names runs after (name ∷ rest) so_far → Answers event u now before name so_far run next → Leads event u now before names (runs ++ run ∷ []) after rest next
  one_more names [] after name rest so_far next run leads is =
      subst (λ l. Leads event u now before l (run ∷ []) after rest next) leads.0
      (next, subst (λ t. Answers event u now before name t run next) leads.1 is, (refl, refl))
  one_more [] (r ∷ runs) after name rest so_far next run leads is = absurd leads
  one_more (n ∷ names) (r ∷ runs) after name rest so_far next run leads is = (leads.0, leads.1, one_more names runs leads.0 name rest so_far next run leads.2 is)

  module _ {P : Type 0} (m : SpawnerModel P) (names : List (List ℕ)) (after : TaskValue) where
    -- so far these hooks were run, and the rest were not
    pub record Led (old mid : P) (rest : List (List ℕ)) (so_far : TaskValue) : Type 0 where
      pub runs : List Run
      pub told : m.runs mid ≡ m.runs old ++ runs
      pub leads : Leads event u now before names runs after rest so_far

    pub led_none : (old : P) → Led old old names after
    led_none old = record { runs = []; told = sym (append-nil (m.runs old)); leads = (refl, refl) }

    -- no memory before the first hook
    pub none_begun : (old : P) → RefusedBy event u now before m old old names after Memory
    none_begun old = (tt, λ tells. ([], sym (append-nil (m.runs old)), inl (record { rest = names; so_far = after; leads = (refl, refl) })))

    module _ (old mid new : P) (left : List (List ℕ)) (name : List ℕ) (rest : List (List ℕ)) (so_far : TaskValue) (is_next : left ≡ name ∷ rest) (kept : SpawnerKept m old mid) (led : TellsRuns m old → Led old mid left so_far) where
      abbrev here : TellsRuns m old → Led old mid (name ∷ rest) so_far
      here tells = let l = led tells in record { runs = l.runs; told = l.told; leads = subst (λ names_left. Leads event u now before names l.runs after names_left so_far) is_next l.leads }

      -- one more run
      told_more : (tells : TellsRuns m old) (run : Run) → m.runs new ≡ m.runs mid ++ run ∷ [] → m.runs new ≡ m.runs old ++ ((led tells).runs ++ run ∷ [])
      told_more tells run is = is ∙ ap (λ l. l ++ run ∷ []) (led tells).told ∙ append_assoc (m.runs old) (led tells).runs (run ∷ [])

      pub led_more : (next : TaskValue) → OneAnswered event u now before m mid new name so_far next → TellsRuns m old → Led old new rest next
      led_more next ran tells =
          let r = ran (tells_on m old mid new kept tells) in
          record { runs = (led tells).runs ++ r.0 ∷ []; told = told_more tells r.0 r.1; leads = one_more names (led tells).runs after name rest so_far next r.0 (here tells).leads r.2 }

      abbrev stopped : (tells : TellsRuns m old) (run : Run) → IsRunOf event u now before name so_far run → Stopped event u now before names ((led tells).runs ++ run ∷ []) after name
      stopped tells run is = record { done = (led tells).runs; last = run; rest = rest; so_far = so_far; runs_are = refl; leads = (here tells).leads; last_is = is }

      abbrev begun : (tells : TellsRuns m old) → Begun event u now before names (led tells).runs after
      begun tells = record { rest = left; so_far = so_far; leads = (led tells).leads }

      -- a hook that refuses
      pub refused_at : (e : HookError) → OneRefused event u now before m mid new name so_far e → RefusedBy event u now before m old new names after e
      refused_at (Refused other status) r = (
        r.1,
        λ tells. let ran = r.2 (tells_on m old mid new kept tells) in (
          (led tells).runs ++ ran.0 ∷ [],
          told_more tells ran.0 ran.1,
          subst (λ n. (s : Stopped event u now before names ((led tells).runs ++ ran.0 ∷ []) after n) × (s.last.status ≡ status)) (sym r.0) (stopped tells ran.0 ran.2.0, ran.2.1),
        ),
      )
      refused_at (Answer other) r = (
        tt,
        λ tells. let ran = r.1 (tells_on m old mid new kept tells) in (
          (led tells).runs ++ ran.0 ∷ [],
          told_more tells ran.0 ran.1,
          subst (λ n. (s : Stopped event u now before names ((led tells).runs ++ ran.0 ∷ []) after n) × (s.last.status ≡ 0) × (answered u now s.last.output ≡ None)) (sym r.0) (stopped tells ran.0 ran.2.0, ran.2.1, ran.2.2),
        ),
      )
      refused_at Fault r =
          (rose_on m old mid new kept.faults r.0, λ tells. ((led tells).runs, r.1 (tells_on m old mid new kept tells) ∙ (led tells).told, begun tells))
      refused_at Memory (inl none) =
          (tt, λ tells. ((led tells).runs, none (tells_on m old mid new kept tells) ∙ (led tells).told, inl (begun tells)))
      refused_at Memory (inr r) = (
        tt,
        λ tells. let ran = r (tells_on m old mid new kept tells) in
            ((led tells).runs ++ ran.0 ∷ [], told_more tells ran.0 ran.1, inr (name, stopped tells ran.0 ran.2)),
      )

-- ---- no hook was begun

module _ (event : Event) (u : List ℕ) (now : ℕ) (before : TaskValue) {P : Type 0} (m : SpawnerModel P) (old new : P) (names : List (List ℕ)) (after : TaskValue) where
  pub refused_before : (e : HookError) → (TellsRuns m old → m.runs new ≡ m.runs old) → NoneBegun m old new e → RefusedBy event u now before m old new names after e
  refused_before (Refused name status) none r = absurd r
  refused_before (Answer name) none r = absurd r
  refused_before Fault none r = (r, λ tells. ([], none tells ∙ sym (append-nil (m.runs old)), record { rest = names; so_far = after; leads = (refl, refl) }))
  refused_before Memory none r = (tt, λ tells. ([], none tells ∙ sym (append-nil (m.runs old)), inl (record { rest = names; so_far = after; leads = (refl, refl) })))
