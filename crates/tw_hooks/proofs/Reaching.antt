-- Hooks of several tasks, one task after another.
use Rattle.std.proofs.Common.{◌≡◌, ℕ, ◌+◌, ◌<◌, ◌==◌, Bool, false, not, if◌then◌else◌, List, [], ◌∷◌, ◌++◌, drop, get_or, length, refl, sym, ap, subst, ◌∙◌, append_assoc, append-nil, inl}
use Rattle.std.proofs.lemmas.List.{drop_more}
use Rattle.tw_model.specs.Ops.{TaskValue}
use Rattle.tw_spawn.specs.Spawner.{Run, SpawnerModel, TellsRuns, SpawnerKept}
use Rattle.tw_hooks.specs.declared.all.Ask.{Ask}
use Rattle.tw_hooks.specs.declared.event.Event.{Event}
use Rattle.tw_hooks.specs.declared.error.HookError.{HookError}
use Rattle.tw_hooks.specs.declared.error.HookError.TheVariants.{Memory}
use Rattle.tw_hooks.specs.Hooked.{Hooked, RefusedAfter, RanNow, RefusedBy}
use Rattle.tw_hooks.specs.One.{NoneBegun}
use Rattle.tw_hooks.specs.All.{AllHooked, Reached, AllRefusedBy}
use Rattle.tw_hooks.proofs.Leading.{tells_on, reason_on, ran_since, refused_before}

module _ (event : Event) (now : ℕ) (names : List (List ℕ)) where
  -- one more task
  pub all_more : (done : List Ask) (runs : List Run) (finals : List TaskValue) (a : Ask) (own : List Run) (final : TaskValue)
      → AllHooked event now names done runs finals → Hooked event a.uuid now a.before names own a.after final → AllHooked event now names (done ++ a ∷ []) (runs ++ own) (finals ++ final ∷ [])
  all_more [] runs [] a own final all is = (own, [], ap (λ l. l ++ own) all ∙ sym (append-nil own), is, refl)
  all_more [] runs (f ∷ finals) a own final all is = absurd all
  all_more (d ∷ done) runs [] a own final all is = absurd all
  all_more (d ∷ done) runs (f ∷ finals) a own final all is =
      (all.0, all.1 ++ own, ap (λ l. l ++ own) all.2 ∙ append_assoc all.0 all.1 own, all.3, all_more done all.1 finals a own final all.4 is)

  module _ {P : Type 0} (m : SpawnerModel P) (asks : List Ask) where
    -- so far the hooks were run for these tasks, and for the rest they were not
    pub record Done (old mid : P) (rest : List Ask) (finals : List TaskValue) : Type 0 where
      pub done : List Ask
      pub asks_are : asks ≡ done ++ rest
      pub runs : List Run
      pub told : m.runs mid ≡ m.runs old ++ runs
      pub hooked : AllHooked event now names done runs finals

    pub done_none : (old : P) (finals : List TaskValue) → finals ≡ [] → Done old old asks finals
    done_none old finals is = record { done = []; asks_are = refl; runs = []; told = sym (append-nil (m.runs old)); hooked = subst (AllHooked event now names [] []) (sym is) refl }

    module _ (old mid new : P) (left : List Ask) (a : Ask) (rest : List Ask) (finals : List TaskValue) (is_next : left ≡ a ∷ rest) (kept : SpawnerKept m old mid) (d : TellsRuns m old → Done old mid left finals) where
      are_so : (tells : TellsRuns m old) → asks ≡ (d tells).done ++ a ∷ rest
      are_so tells = (d tells).asks_are ∙ ap (λ l. (d tells).done ++ l) is_next

      told_own : (tells : TellsRuns m old) (own : List Run) → m.runs new ≡ m.runs mid ++ own → m.runs new ≡ m.runs old ++ ((d tells).runs ++ own)
      told_own tells own is = is ∙ ap (λ l. l ++ own) (d tells).told ∙ append_assoc (m.runs old) (d tells).runs own

      pub done_more : (final : TaskValue) → RanNow m mid new (λ runs. Hooked event a.uuid now a.before names runs a.after final) → TellsRuns m old → Done old new rest (finals ++ final ∷ [])
      done_more final ran tells =
          let l = d tells in
          let r = ran (tells_on m old mid new kept tells) in
          record {
            done = l.done ++ a ∷ [];
            asks_are = are_so tells ∙ sym (append_assoc l.done (a ∷ []) rest);
            runs = l.runs ++ r.0;
            told = told_own tells r.0 r.1;
            hooked = all_more l.done l.runs finals a r.0 final l.hooked r.2;
          }

      abbrev reached : (tells : TellsRuns m old) (own : List Run) → Reached event now names asks ((d tells).runs ++ own)
      reached tells own = let l = d tells in record { done = l.done; ask = a; rest = rest; asks_are = are_so tells; earlier = l.runs; own = own; runs_are = refl; finals = finals; hooked = l.hooked }

      -- a task that is refused
      pub refused_among : (e : HookError) → RefusedBy event a.uuid now a.before m mid new names a.after e → AllRefusedBy event now m old new names asks e
      refused_among e r = (
        reason_on m old mid new kept e r.0,
        λ tells. let ran = r.1 (tells_on m old mid new kept tells) in
            ((d tells).runs ++ ran.0, told_own tells ran.0 ran.1, (reached tells ran.0, ran.2)),
      )

      -- no memory for what the last hook answered
      pub unlisted : (final : TaskValue) → RanNow m mid new (λ runs. Hooked event a.uuid now a.before names runs a.after final) → AllRefusedBy event now m old new names asks Memory
      unlisted final ran = refused_among Memory (tt, λ tells. let r = ran tells in (r.0, r.1, inl (record { rest = []; so_far = final; leads = r.2 })))

module _ (event : Event) (now : ℕ) {P : Type 0} (m : SpawnerModel P) (old mid new : P) (hooks names : List (List ℕ)) (asks : List Ask) where
  module _ (kept : SpawnerKept m old mid) (none : TellsRuns m old → m.runs mid ≡ m.runs old) (are : TellsRuns m old → hooks ≡ names) where
    pub all_refused_since : (e : HookError) → AllRefusedBy event now m mid new hooks asks e → AllRefusedBy event now m old new names asks e
    all_refused_since e r =
        (reason_on m old mid new kept e r.0, ran_since m old mid new _ _ kept none (λ tells runs. subst (λ l. (r : Reached event now l asks runs) × RefusedAfter event r.ask.uuid now r.ask.before e l r.own r.ask.after) (are tells)) r.1)

-- ---- the tasks that are left, and what was answered for the others

pub one_pushed : (new finals : List TaskValue) (last : TaskValue) (ok failed : Bool) → new ≡ (if ok then finals ++ last ∷ [] else finals) → ok ≡ not failed → failed ≡ false → new ≡ finals ++ last ∷ []
one_pushed new finals last ok failed is other none = is ∙ ap (λ b. if b then finals ++ last ∷ [] else finals) (other ∙ ap not none)

pub next_ask : (asks : List Ask) (i : ℕ) (a : Ask) → i < length asks → a ≡ get_or asks i a → drop i asks ≡ a ∷ drop (i + 1) asks
next_ask asks i a lt is = drop_more asks i a lt ∙ ap (λ x. x ∷ drop (i + 1) asks) (sym is)

-- ---- no hook was begun

module _ (event : Event) (now : ℕ) {P : Type 0} (m : SpawnerModel P) (old new : P) (names : List (List ℕ)) where
  first_refused : (a : Ask) (asks : List Ask) (e : HookError) → (TellsRuns m old → m.runs new ≡ m.runs old) → NoneBegun m old new e → AllRefusedBy event now m old new names (a ∷ asks) e
  first_refused a asks e none r =
      let first = refused_before event a.uuid now a.before m old new names a.after e none r in (
        first.0,
        λ tells. let ran = first.1 tells in
            (ran.0, ran.1, (record { done = []; ask = a; rest = asks; asks_are = refl; earlier = []; own = ran.0; runs_are = refl; finals = []; hooked = refl }, ran.2)),
      )

  pub all_refused_before : (asks : List Ask) (b : Bool) → b ≡ false → b ≡ (length asks == 0) → (e : HookError) → (TellsRuns m old → m.runs new ≡ m.runs old) → NoneBegun m old new e → AllRefusedBy event now m old new names asks e
  all_refused_before [] b some is e none r = absurd (cc)
  all_refused_before (a ∷ asks) b some is e none r = first_refused a asks e none r
