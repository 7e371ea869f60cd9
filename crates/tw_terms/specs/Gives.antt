-- What a reader returned, beside what the words spell.
use Rattle.std.specs.Prelude.{◌≡◌, Result, Ok, Err}
use Rattle.tw_terms.specs.declared.bad_word.WordKind.{WordKind}
use Rattle.tw_terms.specs.declared.bad_word.KindError.{KindError}
use Rattle.tw_terms.specs.declared.bad_word.KindError.TheVariants as term

-- a word was refused for this kind, or memory ran out
abbrev pub Refuses : {X : Type 0} → KindError → Result X WordKind → Type 0
Refuses (term.Bad kind) read = read ≡ Err kind
Refuses term.Memory read = Unit {0}

-- a word was read so, unless memory ran out
abbrev pub GivesTerm : {X : Type 0} → Result X KindError → Result X WordKind → Type 0
GivesTerm (Ok x) read = read ≡ Ok x
GivesTerm (Err e) read = Refuses e read
