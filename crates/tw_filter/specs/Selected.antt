-- The tasks for which a filter holds: task(1), under "filters".
use Rattle.std.specs.Prelude.{ℕ, Bool, false, cond, filter, List, [], ◌∷◌, Option, Some, None}
use Rattle.std.specs.List.{list_all}
use Rattle.std.specs.FinMap.{get, keys}
use Rattle.tw_model.specs.Ops.{TaskValue}
use Rattle.tw_terms.specs.Holds.{term_holds, name_holds}
use Rattle.tw_terms.specs.Scenes.{Scene}
use Rattle.tw_terms.specs.Tokens.{is_name}
use Rattle.tw_terms.specs.declared.token.Token.{Token}
use Rattle.tw_filter.specs.Evaluation.{Standing, all_hold, with_token}
use Rattle.tw_filter.specs.Looked.{listing_part, listed}

-- with one more token, which holds for the task of a uuid or not
abbrev pub with_token_for : Scene → (u : List ℕ) → TaskValue → Standing → Token → Standing
with_token_for scene u task s token = with_token (name_holds scene u) (term_holds scene u task) s token

abbrev pub holds_there : Scene → List Token → (u : List ℕ) → Option TaskValue → Bool
holds_there scene tokens u None = false
holds_there scene tokens u (Some task) = all_hold (name_holds scene u) (term_holds scene u task) tokens

-- whether a filter holds for the task of a uuid
abbrev pub holds : Scene → List Token → List ℕ → Bool
holds scene tokens u = holds_there scene tokens u (get scene.tasks u)

-- the uuids of the tasks for which it holds, in byte order
abbrev pub selected : Scene → List Token → List (List ℕ)
selected scene tokens = filter (holds scene tokens) (keys scene.tasks)

-- whether a filter is numbers and uuids alone
abbrev pub are_names : List Token → Bool
are_names [] = false
are_names (t ∷ ts) = list_all is_name (t ∷ ts)

-- the tasks that a selection looks at: those that names stand for, else those that a part lists, and else all
abbrev pub looked : Scene → List Token → List (List ℕ)
looked scene tokens = cond (are_names tokens) (selected scene tokens) (listed (listing_part tokens) scene.tasks)
