-- What reading modification words returned, beside what the definition gives.
use Rattle.std.specs.Prelude.{◌≡◌, ◌+◌, Bool, ℕ, List, Option, Some, None, Result, Ok, Err}
use Rattle.tw_terms.specs.declared.bad_word.BadWord.{BadWord}
use Rattle.tw_terms.specs.declared.bad_word.WordKind.{WordKind}
use Rattle.tw_terms.specs.Scenes.{Scene}
use Rattle.tw_words.specs.Lines.{Parts}
use Rattle.tw_words.specs.Readings.{with_words_from}
use Rattle.tw_words.specs.declared.changes.modification.Modification.{Modification}
use Rattle.tw_terms.specs.declared.bad_word.KindError.{KindError}
use Rattle.tw_terms.specs.declared.bad_word.KindError.TheVariants.{Bad, Memory}

abbrev pub Refuses : {X : Type 0} → KindError → Result X WordKind → Type 0
Refuses Memory wanted = Unit {0}
Refuses (Bad kind) wanted = wanted ≡ Err kind

-- what is made is what is wanted, unless memory ran out
abbrev pub Makes : {X : Type 0} → Result (Unit {0}) KindError → Result X WordKind → (made : X) → Type 0
Makes (Ok done) wanted made = wanted ≡ Ok made
Makes (Err e) wanted made = Refuses e wanted

-- a word of a line was read, and those after it are still to be read; or it is the first that is wrong
abbrev pub Takes : Scene → (sole : Bool) → Parts → ℕ → Option BadWord → (old new : List Modification) → Type 0
Takes scene sole line n None old new = with_words_from scene sole line old n ≡ with_words_from scene sole line new (n + 1)
Takes scene sole line n (Some b) old new = with_words_from scene sole line old n ≡ Err b

-- all words were read, or this is the first that is wrong
abbrev pub Reads : {X : Type 0} → Option BadWord → Result X BadWord → (made : X) → Type 0
Reads None wanted made = wanted ≡ Ok made
Reads (Some b) wanted made = wanted ≡ Err b

-- it was read so, or the first word that is wrong was
abbrev pub GivesRead : {X Y : Type 0} → (X → Y) → Result X BadWord → Result Y BadWord → Type 0
GivesRead view (Ok x) read = read ≡ Ok (view x)
GivesRead view (Err b) read = read ≡ Err b
