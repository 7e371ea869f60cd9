-- The tokens of a filter: task(1), under "filters".
use Rattle.std.specs.Prelude.{◌≡◌, ℕ, Bool, true, false, cond, List, [], ◌∷◌, ◌++◌, map, Option, Some, None, Result, Ok, Err, codes}
use Rattle.tw_time.specs.Moments.{TimeZone}
use Rattle.tw_time.specs.Tables.{look_up}
use Rattle.tw_terms.specs.IdWords.{names_in, range_in}
use Rattle.tw_terms.specs.Values.{asks}
use Rattle.tw_terms.specs.Terms.{term_of}
use Rattle.tw_terms.specs.declared.bad_word.WordKind.{WordKind}
use Rattle.tw_terms.specs.declared.bad_word.KindError.{KindError}
use Rattle.tw_terms.specs.declared.bad_word.KindError.TheVariants as error
use Rattle.tw_terms.specs.declared.id_word.Name.{Name}
use Rattle.tw_terms.specs.declared.term.Term.{Term}
use Rattle.tw_terms.specs.declared.term.Test.TheVariants.{Mentions}
use Rattle.tw_terms.specs.declared.token.Mark.{Mark}
use Rattle.tw_terms.specs.declared.token.Mark.TheVariants as mark
use Rattle.tw_terms.specs.declared.token.Token.{Token}
use Rattle.tw_terms.specs.declared.token.Token.TheVariants.{Xor, Or, And, Not, Open, Close, Named, Asked}

-- the marks
abbrev pub marks : List (List ℕ × Mark)
marks =
    (codes "xor", mark.Xor)
    ∷ (codes "or", mark.Or)
    ∷ (codes "and", mark.And)
    ∷ (codes "!", mark.Not)
    ∷ (codes "(", mark.Open)
    ∷ (codes ")", mark.Close)
    ∷ []

abbrev pub token_of : Mark → Token
token_of mark.Xor = Xor
token_of mark.Or = Or
token_of mark.And = And
token_of mark.Not = Not
token_of mark.Open = Open
token_of mark.Close = Close

-- the mark that a word is
unfoldable pub mark_of : List ℕ → Option Mark
mark_of word = look_up word marks

abbrev pub asked : Result Term WordKind → Result (List Token) WordKind
asked (Ok term) = Ok (Asked term ∷ [])
asked (Err kind) = Err kind

abbrev pub named : Option (List Name) → Result Term WordKind → Result (List Token) WordKind
named None term = asked term
named (Some names) term = Ok (map Named names)

abbrev pub marked : Option Mark → Option (List Name) → Result Term WordKind → Result (List Token) WordKind
marked None names term = named names term
marked (Some m) names term = Ok (token_of m ∷ [])

-- the tokens of a word; after `--` it stands for its text
unfoldable pub tokens_of : Bool → List ℕ → ℕ → TimeZone → Result (List Token) WordKind
tokens_of is_plain word now tz =
    cond is_plain (asked (asks true (Mentions word))) (marked (mark_of word) (names_in word) (term_of word now tz))

-- whether a token names tasks
abbrev pub is_name : Token → Bool
is_name (Named n) = true
is_name _ = false

-- ---- adding the tokens of a word

abbrev pub put_name : Option Name → List Token → List Token
put_name None tokens = tokens
put_name (Some name) tokens = Named name ∷ tokens

-- the tokens of those texts that are numbers or ranges
abbrev pub ranged : List (List ℕ) → List Token
ranged [] = []
ranged (text ∷ texts) = put_name (range_in text) (ranged texts)

-- the tokens of an id word were added, where the word is one
abbrev pub PushesNames : Option (List Name) → Bool → (old new : List Token) → Type 0
PushesNames None is old new = (is ≡ false) × (new ≡ old)
PushesNames (Some names) is old new = (is ≡ true) × (new ≡ old ++ map Named names)

-- a mark was added, where the word is one
abbrev pub PushesMark : Option Mark → Bool → (old new : List Token) → Type 0
PushesMark None is old new = (is ≡ false) × (new ≡ old)
PushesMark (Some m) is old new = (is ≡ true) × (new ≡ old ++ token_of m ∷ [])

-- the tokens of a word were added, or it was refused, or memory ran out
abbrev pub Pushes : Result (Unit {0}) KindError → Result (List Token) WordKind → (old new : List Token) → Type 0
Pushes (Ok done) (Ok tokens) old new = new ≡ old ++ tokens
Pushes (Ok done) (Err kind) old new = ⊥
Pushes (Err (error.Bad kind)) read old new = read ≡ Err kind
Pushes (Err error.Memory) read old new = Unit {0}
