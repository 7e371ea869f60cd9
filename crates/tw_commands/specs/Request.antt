-- What a request looks at, and what its words ask for.
use Rattle.std.specs.Prelude.{ℕ, List}
use Rattle.tw_state.specs.State.{State}
use Rattle.tw_filter.specs.Selected.{selected}
use Rattle.tw_terms.specs.Scenes.{Scene}
use Rattle.tw_words.specs.Readings.{taken}
use Rattle.tw_words.specs.declared.changes.modification.Modification.{Modification}
use Rattle.tw_changes.specs.declared.request.Request.{Request}

-- what a request looks at in a replica of this state
abbrev pub scene_in : Request → State → Scene
scene_in request state = record { tasks = state.tasks; places = state.numbers; now = request.at.seconds; tz = request.zone.now }

-- the uuids of the tasks that its filter selects, in byte order
abbrev pub selected_in : Request → State → List (List ℕ)
selected_in request state = selected (scene_in request state) request.filter

-- the modifications that its words ask for, if none is wrong
abbrev pub words_in : Request → State → List Modification
words_in request state = taken (scene_in request state) request.line
