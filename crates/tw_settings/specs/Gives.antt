-- What a reader returned, beside what the definition gives.
use Rattle.std.specs.Prelude.{◌≡◌, Result, Ok, Err}
use Rattle.tw_settings.specs.declared.word_error.WordError.{WordError}
use Rattle.tw_settings.specs.declared.word_error.WordError.TheVariants.{Bad, Setting, Memory}

-- it was refused so, or memory ran out
abbrev pub Refuses : {X : Type 0} → WordError → Result X WordError → Type 0
Refuses Memory read = Unit {0}
Refuses (Bad bad) read = read ≡ Err (Bad bad)
Refuses (Setting line) read = read ≡ Err (Setting line)

-- it was read so, unless memory ran out
abbrev pub Gives : {X Y : Type 0} → (X → Y) → Result X WordError → Result Y WordError → Type 0
Gives view (Ok x) read = read ≡ Ok (view x)
Gives view (Err e) read = Refuses e read

-- what is made is what is wanted, unless memory ran out
abbrev pub MakesAll : {X : Type 0} → Result (Unit {0}) WordError → Result X WordError → (made : X) → Type 0
MakesAll (Ok done) wanted made = wanted ≡ Ok made
MakesAll (Err e) wanted made = Refuses e wanted
