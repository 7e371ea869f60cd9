-- What a filter without numbers selects of equal tasks, and what `export` prints of that.
use Rattle.std.proofs.Common.{◌≡◌, ◌∙◌, ap, sym, refl, subst, ℕ, false, not, cond, List, [], ◌∷◌, filter, Option, Some, None, Ok}
use Rattle.std.proofs.Math.Path.{fun_ext}
use Rattle.std.proofs.lemmas.Bool.{or_parts}
use Rattle.std.specs.List.{list_any}
use Rattle.std.specs.FinMap.{get, keys}
use Rattle.tw_world.specs.declared.ids.IdWords.{IdWords}
use Rattle.tw_model.specs.Ops.{TaskValue}
use Rattle.tw_model.specs.Places.{Places}
use Rattle.tw_bodies.specs.Body.{Step}
use Rattle.tw_state.specs.State.{State, applied}
use Rattle.tw_urgency.specs.declared.coefficients.Coefficients.{Coefficients}
use Rattle.tw_terms.specs.Holds.{test_holds, term_holds, name_holds}
use Rattle.tw_terms.specs.Scenes.{Scene}
use Rattle.tw_terms.specs.declared.bad_word.BadWord.{BadWord}
use Rattle.tw_terms.specs.declared.id_word.Name.{Name}
use Rattle.tw_terms.specs.declared.id_word.Name.TheVariants.{Numbers, One}
use Rattle.tw_terms.specs.declared.term.Term.{Term}
use Rattle.tw_terms.specs.declared.term.Test.{Test}
use Rattle.tw_terms.specs.declared.term.Test.TheVariants.{DependsOnNumber}
use Rattle.tw_terms.specs.declared.token.Token.{Token}
use Rattle.tw_terms.specs.declared.token.Token.TheVariants.{Named, Asked}
use Rattle.tw_filter.specs.Evaluation.{Standing, beginning, standing, value, whole_frame, with_part, with_named, with_tokens, all_hold}
use Rattle.tw_filter.specs.Selected.{with_token_for, holds_there, selected}
use Rattle.tw_export.specs.Export.{export_text}
use Rattle.tw_settings.specs.Weights.{weights}
use Rattle.tw_words.specs.Readings.{first_bad}
use Rattle.tw_words.specs.declared.command.Command.{Command}
use Rattle.tw_words.specs.declared.command.Command.TheVariants.{Export}
use Rattle.tw_commands.specs.Request.{scene_in, selected_in}
use Rattle.tw_commands.specs.Plan.{Work, step_in}
use Rattle.tw_commands.specs.Plan.Show.{Text}
use Rattle.tw_commands.specs.Looks.{looking}
use Rattle.tw_commands.specs.Asks.{answered_with}
use Rattle.tw_commands.specs.Commands.{plan_by, unless_bad}
use Rattle.tw_commands.specs.Carried.{Carried, circle_in, unless_circle, with_text, then_concluded, carried_by}
use Rattle.tw_commands.specs.Laws.{IsCarriedOut}
use Rattle.tw_commands.specs.Exports.{is_of_numbers, asks_number, has_number, HasNoNumbers, SelectsByTasks, ExportAlike, ExportsAreEqual}
use Rattle.tw_changes.specs.declared.request.Request.{Request}

-- ---- what is selected

-- of two scenes that differ in their numbers alone
module _ (here : Scene) (others : Places) where
  abbrev there : Scene
  there = record { tasks = here.tasks; places = others; now = here.now; tz = here.tz }

  same_test : (u : List ℕ) (task : TaskValue) (test : Test) → asks_number test ≡ false → test_holds here u task test ≡ test_holds there u task test
  unfolding test_holds
  same_test u task (DependsOnNumber n) none = absurd cc
  same_test u task _ none = refl

  same_term : (u : List ℕ) (task : TaskValue) (term : Term) → asks_number term.test ≡ false → term_holds here u task term ≡ term_holds there u task term
  same_term u task term none = ap (λ b. cond term.wanted b (not b)) (same_test u task term.test none)

  same_name : (u : List ℕ) (name : Name) → is_of_numbers name ≡ false → name_holds here u name ≡ name_holds there u name
  same_name u (Numbers first last) none = absurd cc
  same_name u (One v) none = refl

  same_token : (u : List ℕ) (task : TaskValue) (s : Standing) (token : Token) → has_number token ≡ false
      → with_token_for here u task s token ≡ with_token_for there u task s token
  same_token u task s (Named name) none = ap (λ b. with_named b s) (same_name u name none)
  same_token u task s (Asked term) none = ap (λ b. standing (with_part b (whole_frame s)) s.outer) (same_term u task term none)
  same_token u task s _ none = refl

  same_tokens : (u : List ℕ) (task : TaskValue) (s : Standing) (tokens : List Token) → HasNoNumbers tokens
      → with_tokens (name_holds here u) (term_holds here u task) s tokens ≡ with_tokens (name_holds there u) (term_holds there u task) s tokens
  same_tokens u task s [] none = refl
  same_tokens u task s (t ∷ ts) none =
      let each = or_parts (has_number t) (list_any has_number ts) none in
      ap (λ next. with_tokens (name_holds here u) (term_holds here u task) next ts) (same_token u task s t each.0)
      ∙ same_tokens u task (with_token_for there u task s t) ts each.1

  same_holds : (u : List ℕ) (tokens : List Token) → HasNoNumbers tokens → (o : Option TaskValue) → holds_there here tokens u o ≡ holds_there there tokens u o
  unfolding all_hold
  same_holds u tokens none None = refl
  same_holds u tokens none (Some task) = ap (λ s. value (whole_frame s)) (same_tokens u task beginning tokens none)

  same_selected : (tokens : List Token) → HasNoNumbers tokens → selected here tokens ≡ selected there tokens
  same_selected tokens none = ap (λ test. filter test (keys here.tasks)) (fun_ext (λ u. same_holds u tokens none (get here.tasks u)))

pub selects_by_tasks : SelectsByTasks
selects_by_tasks request one other none same =
    same_selected (scene_in request one) other.numbers request.filter none
    ∙ (λ i. selected (record { tasks = same i; places = other.numbers; now = request.at.seconds; tz = request.zone.now }) request.filter)

-- ---- what is printed

is_text : (step : Step) (new : State) (circle : Option (List ℕ)) (text : List ℕ) (c : Carried) → with_text step new (unless_circle circle (Ok text)) ≡ Ok c → c.text ≡ text
is_text step new (Some d) text c e = absurd cc
is_text step new None text c e =
    let same : record { step = step; new = new; text = text } ≡ c = cc in
    ap (λ (d : Carried). d.text) (sym same)

is_shown : (request : Request) (old : State) (work : Work) (text : List ℕ) (step : Step) (o : Option State) (c : Carried)
    → then_concluded request (record { work = work; show = Text text }) old step o ≡ Ok c → c.text ≡ text
is_shown request old work text step None c e = absurd cc
is_shown request old work text step (Some new) c e = is_text step new (circle_in request.command old new) text c e

-- a plan that only shows a text prints it, whatever hooks answer
is_looked_at : (request : Request) (old : State) (text : List ℕ) (answers : List TaskValue) (c : Carried)
    → carried_by request old (answered_with answers old.tasks (Ok (looking text))) ≡ Ok c → c.text ≡ text
is_looked_at request old text [] c e =
    let work = (looking text).work in
    is_shown request old work text (step_in request.at old work) (applied old (step_in request.at old work)) c e
is_looked_at request old text (a ∷ answers) c e =
    let work = (looking text).work in
    is_shown request old work text (step_in request.at old work) (applied old (step_in request.at old work)) c e

is_named : (request : Request) (old : State) (text : List ℕ) (answers : List TaskValue) (bad : Option BadWord) (c : Carried)
    → carried_by request old (answered_with answers old.tasks (unless_bad bad (Ok (looking text)))) ≡ Ok c → c.text ≡ text
is_named request old text answers None c e = is_looked_at request old text answers c e
is_named request old text [] (Some b) c e = absurd cc
is_named request old text (a ∷ answers) (Some b) c e = absurd cc

-- what an export prints
abbrev exported : Request → State → List ℕ
exported request state = export_text (selected_in request state) state.tasks request.at.seconds (weights request.settings)

is_exported : (request : Request) (ids : IdWords) (answers : List TaskValue) (old : State) (c : Carried) → request.command ≡ Export
    → IsCarriedOut request ids answers old c → c.text ≡ exported request old
is_exported request ids answers old c exports e =
    let bad = first_bad (scene_in request old) request.line in
    is_named request old (exported request old) answers bad c
    (subst (λ (k : Command). carried_by request old (answered_with answers old.tasks (unless_bad bad (plan_by k request ids old))) ≡ Ok c) exports e)

-- what an export of a scene prints
abbrev printed : Scene → List Token → Coefficients → List ℕ
printed scene tokens usual = export_text (selected scene tokens) scene.tasks scene.now usual

same_printed : (one other : Request) (old new : State) → ExportAlike one other → HasNoNumbers one.filter → old.tasks ≡ new.tasks → exported one old ≡ exported other new
same_printed one other old new alike none same =
    let w = weights one.settings in
    ap (λ rows. export_text rows old.tasks one.at.seconds w) (same_selected (scene_in one old) new.numbers one.filter none)
    ∙ (λ i. printed (record { tasks = same i; places = new.numbers; now = (alike.at i).seconds; tz = alike.zone i }) (alike.filter i) (alike.weighed i))

pub exports_are_equal : ExportsAreEqual
exports_are_equal one other here there text copy alike none same (ids, answers, carried, is, shows) (drawn, others, c, does, prints) =
    shows ∙ is_exported one ids answers here carried alike.one_exports is
    ∙ same_printed one other here there alike none same
    ∙ sym (prints ∙ is_exported other drawn others there c alike.other_exports does)
