-- Where a written head ends.
use Rattle.std.proofs.Common.{◌≡◌, ◌∙◌, ℕ, suc, List, [], ◌∷◌, ◌++◌, false, Some, refl, sym, ap, arith, option_map, length, ◌==◌, ◌&&◌, All, append_assoc}
use Rattle.std.proofs.lemmas.List.Elements.{All-head, All-tail}
use Rattle.tw_http.specs.Messages.{crlf, line}
use Rattle.tw_http.specs.Heads.{head_len, begins_with}
use Rattle.tw_http.proofs.HeadSteps.{found_here, not_here}

-- the text has no return
abbrev pub IsLine : List ℕ → Type 0
IsLine a = All (λ b. (b == 13) ≡ false) a

-- whatever follows, the head that begins the bytes is this one
abbrev pub IsHeadText : List ℕ → Type 0
IsHeadText h = (rest : List ℕ) → head_len (h ++ rest) ≡ Some (length h)

-- whatever follows, no line end comes first
abbrev pub IsMore : List ℕ → Type 0
IsMore h = (rest : List ℕ) → begins_with (13 ∷ 10 ∷ []) (h ++ rest) ≡ false

byte_on : (b : ℕ) (h : List ℕ) → (b == 13) ≡ false → IsHeadText h → IsHeadText (b ∷ h)
byte_on b h other ends rest = not_here b (h ++ rest) (ap (λ t. t && begins_with (10 ∷ 13 ∷ 10 ∷ []) (h ++ rest)) other) ∙ ap (option_map suc) (ends rest)

end_on : (h : List ℕ) → IsMore h → IsHeadText h → IsHeadText (13 ∷ 10 ∷ h)
end_on h more ends rest = not_here 13 (10 ∷ (h ++ rest)) (more rest) ∙ ap (option_map suc) (byte_on 10 h refl ends rest)

pub text_on : (a h : List ℕ) → IsLine a → IsHeadText h → IsHeadText (a ++ h)
text_on [] h all ends = ends
text_on (b ∷ a) h all ends = byte_on b (a ++ h) (All-head (λ x. (x == 13) ≡ false) b a all) (text_on a h (All-tail (λ x. (x == 13) ≡ false) b a all) ends)

last : IsHeadText (13 ∷ 10 ∷ 13 ∷ 10 ∷ [])
last rest = found_here (13 ∷ 10 ∷ 13 ∷ 10 ∷ rest) (omega arith) refl

-- a line before the others
pub line_on : (a h : List ℕ) → IsLine a → IsMore h → IsHeadText h → IsHeadText (line a ++ h)
line_on a h all more ends rest = ap (λ x. head_len (x ++ rest)) (append_assoc a crlf h) ∙ text_on a (crlf ++ h) all (end_on h more ends) rest ∙ ap (λ x. Some (length x)) (sym (append_assoc a crlf h))

-- the last line, and the empty one
pub last_line : (a : List ℕ) → IsLine a → IsHeadText (line a ++ crlf)
last_line a all rest = ap (λ x. head_len (x ++ rest)) (append_assoc a crlf crlf) ∙ text_on a (crlf ++ crlf) all last rest ∙ ap (λ x. Some (length x)) (sym (append_assoc a crlf crlf))
