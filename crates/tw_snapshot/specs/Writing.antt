-- The pieces of a snapshot's text.
use Rattle.std.specs.Prelude.{◌≡◌, ℕ, Bool, not, List, [], ◌∷◌, Some, ⊤}
use Rattle.std.specs.FinMap.{entries}
use Rattle.uuid.specs.Text.{parsed_hyphenated, hyphenated_text, lower}
use Rattle.json.specs.Token.{Token}
use Rattle.json.specs.Json.{object}
use Rattle.json.specs.Tree.{json_tokens}
use Rattle.json.specs.Print.{print_from}
use Rattle.tw_model.specs.Ops.{TaskValue}
use Rattle.tw_snapshot.specs.Snapshot.{property_members}

abbrev pub task_tokens : TaskValue → List Token
task_tokens task = json_tokens (object (property_members (entries task)))

-- a task's member, after a comma unless it is the first
abbrev pub entry_text : Bool → List ℕ → TaskValue → List ℕ
entry_text is_first u task = print_from (not is_first) (Token.key (hyphenated_text lower u) ∷ task_tokens task)

-- the text of a uuid reads as that uuid
abbrev pub IsSpelled : List ℕ → Type 0
IsSpelled u = parsed_hyphenated (hyphenated_text lower u) ≡ Some u

abbrev pub AreSpelled : List (List ℕ × TaskValue) → Type 0
AreSpelled [] = ⊤
AreSpelled (e ∷ es) = IsSpelled e.0 × AreSpelled es
