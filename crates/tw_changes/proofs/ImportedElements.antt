-- Elements of an import, one after another.
use Rattle.std.proofs.Common.{◌≡◌, ◌∙◌, ap, refl, ℕ, Bool, true, false, cond, ◌||◌, List, [], ◌∷◌, ◌++◌, Option, None}
use Rattle.tw_world.specs.declared.ids.IdWords.{IdWords}
use Rattle.tw_model.specs.Maps.{same_bytes}
use Rattle.tw_model.specs.Ops.{TasksValue}
use Rattle.tw_model.specs.declared.changes.Change.{Change}
use Rattle.tw_import.specs.declared.import.Imported.{Imported}
use Rattle.tw_changes.specs.Request.{drawn, after_draw}
use Rattle.tw_changes.specs.Makes.Import.{Imports, is_changed, is_taken, change_to, stopped, import_as, imports}

pub changed_more : (changes : List Change) (change : Change) (u : List ℕ) → is_changed (changes ++ change ∷ []) u ≡ is_changed changes u || same_bytes u change.uuid
changed_more [] change u = by (same_bytes u change.uuid)
  where
    by : (b : Bool) → b || false ≡ b
    by true = refl
    by false = refl
changed_more (c ∷ changes) change u = ap (λ b. same_bytes u c.uuid || b) (changed_more changes change u) ∙ by (same_bytes u c.uuid) (is_changed changes u) (same_bytes u change.uuid)
  where
    by : (a b c : Bool) → a || (b || c) ≡ (a || b) || c
    by true b c = refl
    by false b c = refl

module _ (ids : IdWords) (tasks : TasksValue) (before : List Change) (e : Imported) (es : List Imported) (none : e.uuid ≡ None) where
  chosen : List ℕ → Bool → Imports
  chosen u taken = cond taken (stopped u (after_draw ids)) (imports (after_draw ids) tasks (before ++ change_to u e.map ∷ []) es)

  one : imports ids tasks before (e ∷ es) ≡ chosen (drawn ids) (is_taken tasks before (drawn ids))
  unfolding chosen
  one = ap (λ (o : Option (List ℕ)). import_as o e.map ids tasks before (λ left more. imports left tasks more es)) none

  pub drawn_taken : is_taken tasks before (drawn ids) ≡ true → imports ids tasks before (e ∷ es) ≡ stopped (drawn ids) (after_draw ids)
  unfolding chosen
  drawn_taken taken = one ∙ ap (chosen (drawn ids)) taken

  pub drawn_free : is_taken tasks before (drawn ids) ≡ false → imports ids tasks before (e ∷ es) ≡ imports (after_draw ids) tasks (before ++ change_to (drawn ids) e.map ∷ []) es
  unfolding chosen
  drawn_free free = one ∙ ap (chosen (drawn ids)) free
