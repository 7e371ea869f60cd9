-- What modifications make of a task: task(1), under "MODIFICATIONS".
use Rattle.std.specs.Prelude.{ℕ, Bool, true, false, cond, is_some, List, [], ◌∷◌, ◌++◌, Option, Some, None, Result, Ok, Err, codes, refl, filter}
use Rattle.std.specs.Coded.{Coded, code_by, coded×, coded_ℕ, coded_list, coded_option, coded_bool}
use Rattle.std.specs.FinMap as map
use Rattle.std.specs.FinMap.{keys}
use Rattle.tw_model.specs.Maps.{bytes_cmp, set_at}
use Rattle.tw_model.specs.Ops.{TaskValue}
use Rattle.tw_urgency.specs.Dependencies.{dependency_in}
use Rattle.tw_terms.specs.Scenes.{Scene}
use Rattle.tw_terms.specs.declared.bad_word.BadWord.{BadWord}
use Rattle.tw_words.specs.Lines.{Parts}
use Rattle.tw_words.specs.Readings.{modifications}
use Rattle.tw_words.specs.declared.changes.modification.Modification.{Modification}
use Rattle.tw_words.specs.declared.changes.modification.Modification.TheVariants.{Word, Description, Property, Independent}
use Rattle.tw_settings.specs.declared.word_error.WordError.{WordError}
use Rattle.tw_settings.specs.declared.word_error.WordError.TheVariants.{Bad}

-- a task that is being modified: its properties, the texts so far, the value of the last word of a description, and whether a text came after that
pub record Draft : Type 0 where
  pub task : TaskValue
  pub joined : Option (List ℕ)
  pub given : Option (List ℕ)
  pub by_words : Bool

abbrev pub text_code : Coded (List ℕ)
text_code = coded_list coded_ℕ

-- it is stored as the tuple of its fields
abbrev pub draft_code : Coded Draft
draft_code =
    code_by (TaskValue × (Option (List ℕ) × (Option (List ℕ) × Bool)))
    (coded× (map.code {R = bytes_cmp} text_code text_code) (coded× (coded_option text_code) (coded× (coded_option text_code) coded_bool)))
    (λ m. (m.task, (m.joined, (m.given, m.by_words)))) (λ p. record { task = p.0; joined = p.1.0; given = p.1.1.0; by_words = p.1.1.1 }) (λ _. refl)

-- ---- one modification

-- a task without these properties
abbrev pub without : List (List ℕ) → TaskValue → TaskValue
without [] task = task
without (name ∷ names) task = without names (set_at task name None)

-- the properties that are dependencies
abbrev pub dependencies : TaskValue → List (List ℕ)
dependencies task = filter (λ name. is_some (dependency_in name)) (keys task)

-- a task without dependencies
abbrev pub without_dependencies : TaskValue → TaskValue
without_dependencies task = without (dependencies task) task

abbrev pub with_task : Draft → TaskValue → Draft
with_task m task = record { task = task; joined = m.joined; given = m.given; by_words = m.by_words }

abbrev pub given : Draft → List ℕ → Draft
given m value = record { task = m.task; joined = m.joined; given = Some value; by_words = false }

-- words with one space between
abbrev pub joined_with : Option (List ℕ) → List ℕ → List ℕ
joined_with None word = word
joined_with (Some text) word = text ++ 32 ∷ word

abbrev pub with_text : Draft → List ℕ → Draft
with_text m word = record { task = m.task; joined = Some (joined_with m.joined word); given = m.given; by_words = true }

-- the task after one more modification
abbrev pub modified : Draft → Modification → Draft
modified m (Word word) = with_text m word
modified m (Description value) = given m value
modified m (Property name value) = with_task m (set_at m.task name value)
modified m Independent = with_task m (without_dependencies m.task)

-- ---- all of them

abbrev pub modified_by : Draft → List Modification → Draft
modified_by m [] = m
modified_by m (x ∷ xs) = modified_by (modified m x) xs

abbrev pub with_description : TaskValue → Option (List ℕ) → TaskValue
with_description task None = task
with_description task (Some text) = set_at task (codes "description") (Some text)

abbrev pub made : Draft → TaskValue
made m = with_description m.task (cond m.by_words m.joined m.given)

abbrev pub beginning : TaskValue → Draft
beginning task = record { task = task; joined = None; given = None; by_words = false }

-- what modifications make of a task
abbrev pub applied : List Modification → TaskValue → TaskValue
applied ms task = made (modified_by (beginning task) ms)

abbrev pub applied_if : Result (List Modification) BadWord → TaskValue → Result TaskValue WordError
applied_if (Ok ms) task = Ok (applied ms task)
applied_if (Err b) task = Err (Bad b)

-- what the modification words of a line make of a task, or the first word that is wrong
abbrev pub changed : Scene → Parts → TaskValue → Result TaskValue WordError
changed scene line task = applied_if (modifications scene line) task
