-- The tags of an interval that a task drives.
use Rattle.std.specs.Prelude.{ℕ, cond, ◌||◌, List, [], ◌∷◌, codes, drop, fold, Option, Some, None}
use Rattle.std.specs.FinMap.{entries}
use Rattle.tw_model.specs.Maps.{same_bytes}
use Rattle.tw_model.specs.Ops.{TaskValue}
use Rattle.tw_urgency.specs.Stored.{is_tag}
use Rattle.tw_text.specs.Columns.{cell_text}
use Rattle.tw_world.specs.Folder.{add_name as add_tag}

-- a text of a task by which one finds its hours: the description, the project, and each tag
abbrev pub text_of : List ℕ × List ℕ → Option (List ℕ)
text_of e = cond (same_bytes e.0 (codes "description") || same_bytes e.0 (codes "project")) (Some e.1) (cond (is_tag e.0) (Some (drop 4 e.0)) None)

-- with a text, if it is not empty
abbrev pub unless_empty : List ℕ → List (List ℕ) → List (List ℕ)
unless_empty [] tags = tags
unless_empty (b ∷ text) tags = add_tag (b ∷ text) tags

-- with a text, which has a space for each control character
abbrev pub with_text : Option (List ℕ) → List (List ℕ) → List (List ℕ)
with_text None tags = tags
with_text (Some text) tags = unless_empty (cell_text text) tags

abbrev pub with_texts : List (List ℕ) → List (List ℕ × List ℕ) → List (List ℕ)
with_texts tags es = fold (λ had e. with_text (text_of e) had) tags es

-- the texts of a task, in byte order, each once
abbrev pub label : TaskValue → List (List ℕ)
label task = with_texts [] (entries task)

-- the label of the task of a uuid
abbrev pub label_of : Option TaskValue → List (List ℕ)
label_of None = []
label_of (Some task) = label task
