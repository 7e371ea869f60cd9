-- The first word that names no task: task(1), `depends` under "ATTRIBUTES AND METADATA". It is the same whatever task the words change.
use Rattle.std.specs.Prelude.{◌≡◌, ℕ, ◌+◌, not, Bool, false, is_none, List, [], ◌∷◌, Option, Some, None, Result, Ok, Err}
use Rattle.std.specs.List.{list_any}
use Rattle.tw_model.specs.Ops.{TaskValue}
use Rattle.tw_terms.specs.Cuts.{parts}
use Rattle.tw_terms.specs.Scenes.{Scene}
use Rattle.tw_terms.specs.declared.bad_word.BadWord.{BadWord}
use Rattle.tw_terms.specs.declared.bad_word.WordKind.TheVariants as bad
use Rattle.tw_terms.specs.declared.token.Token.{Token}
use Rattle.tw_words.specs.Lines.{Parts}
use Rattle.tw_words.specs.Commands.{rest_of}
use Rattle.tw_words.specs.Modifications.{is_plain, is_add, tag_of, pair_of, field_named, at_word, first_of, rest_words, unless}
use Rattle.tw_words.specs.Readings.{part_task}
use Rattle.tw_words.specs.Changed.{changed}
use Rattle.tw_words.specs.Faults.{judged}
use Rattle.tw_words.specs.declared.command.Rest.TheVariants as rest
use Rattle.tw_words.specs.declared.changes.field.Field.{Field}
use Rattle.tw_words.specs.declared.changes.field.Field.TheVariants as field
use Rattle.tw_settings.specs.declared.word_error.WordError.{WordError}
use Rattle.tw_settings.specs.declared.word_error.WordError.TheVariants.{Bad}

-- whether a part of `depends:` is to name a task and names none
abbrev pub names_none : Scene → List ℕ → Bool
names_none scene text = is_none (part_task scene text)

-- whether one of the parts does
abbrev pub lacks_task : Scene → List (List ℕ) → Bool
lacks_task scene texts = list_any (names_none scene) texts

abbrev pub value_unnamed : Scene → Field → List ℕ → Bool
value_unnamed scene field.Depends value = lacks_task scene (parts 44 value)
value_unnamed scene field.Description value = false
value_unnamed scene field.Project value = false
value_unnamed scene field.Priority value = false
value_unnamed scene field.Moment value = false
value_unnamed scene field.Recur value = false

abbrev pub field_unnamed : Scene → Option Field → List ℕ → Bool
field_unnamed scene None value = false
field_unnamed scene (Some field) [] = false
field_unnamed scene (Some field) (b ∷ bs) = value_unnamed scene field (b ∷ bs)

abbrev pub pair_unnamed : Scene → (adding : Bool) → Option (List ℕ × List ℕ) → Bool
pair_unnamed scene adding None = false
pair_unnamed scene adding (Some x) = field_unnamed scene (field_named adding x.0) x.1

abbrev pub tag_or_pair_unnamed : Scene → (adding plain : Bool) → List ℕ → Option (Bool × List ℕ) → Bool
tag_or_pair_unnamed scene adding plain word None = pair_unnamed scene adding (pair_of plain word)
tag_or_pair_unnamed scene adding plain word (Some x) = false

-- whether a modification word is to name a task and names none
abbrev pub word_unnamed : Scene → (adding plain : Bool) → List ℕ → Bool
word_unnamed scene adding plain word = tag_or_pair_unnamed scene adding plain word (tag_of plain word)

abbrev pub unnamed_from : Scene → Parts → ℕ → List (List ℕ) → Option BadWord
unnamed_from scene line n [] = None
unnamed_from scene line n (word ∷ words) =
    first_of (at_word line n (unless (not (word_unnamed scene (is_add line.command) (is_plain line n) word)) bad.Id)) (unnamed_from scene line (n + 1) words)

-- the first modification word that names no task
abbrev pub first_unnamed : Scene → Parts → Option BadWord
first_unnamed scene line = unnamed_from scene line line.rest_from (rest_words line)

-- refused at this word, or made
abbrev pub IsRefusedAt : {X : Type 0} → Option BadWord → Result X WordError → Type 0
IsRefusedAt {X = X} None made = (x : X) × (made ≡ Ok x)
IsRefusedAt (Some b) made = made ≡ Err (Bad b)

-- the words after the command's word are modifications
abbrev pub IsModifying : Parts → Type 0
IsModifying line = rest_of line.command ≡ rest.Modifications

-- a line was judged, and has this filter
abbrev pub IsJudged : Scene → Parts → List Token → Type 0
IsJudged scene line filter = judged line scene.now scene.tz ≡ Ok filter

-- words of a line that was judged are refused at the first that names no task, whatever the task is that they change, and else change it
abbrev pub ChangesWhereNamed : Type 0
ChangesWhereNamed = (scene : Scene) (line : Parts) (task : TaskValue) (filter : List Token) → IsModifying line → IsJudged scene line filter
    → IsRefusedAt (first_unnamed scene line) (changed scene line task)
