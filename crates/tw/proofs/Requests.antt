-- The words of a request, and its client.
use Rattle.std.proofs.Common.{◌≡◌, ℕ, ◌+◌, min, length, List, [], ◌∷◌, Some, None, drop, take, ap, sym, refl, ◌∙◌}
use Rattle.std.proofs.lemmas.List.{drop-drop, take_min}
use Rattle.tw.specs.Asked.{after_client, after_blank, word_len, first_word, client_of, digits_or}

no_header : (bytes : List ℕ) → after_client bytes ≡ None → client_of (drop 1 bytes) ≡ client_of bytes
no_header [] none = refl
no_header (byte ∷ rest) none = sym (ap (λ found. digits_or found (client_of rest)) none)

-- a place at which no header begins is passed over
pub next_place : (at : ℕ) (bytes : List ℕ) → after_client (drop at bytes) ≡ None → client_of (drop (at + 1) bytes) ≡ client_of (drop at bytes)
next_place at bytes none = ap client_of (sym (drop-drop 1 at bytes)) ∙ no_header (drop at bytes) none

-- the header that begins at a place names the client
pub found_here : (bytes value : List ℕ) → after_client bytes ≡ Some value → client_of bytes ≡ take 8 (first_word (after_blank value))
found_here [] value found = absurd (cc)
found_here (byte ∷ rest) value found = ap (λ o. digits_or o (client_of rest)) found

-- the first eight bytes of the word that follows a blank
pub eight_of : (word value bytes : List ℕ) (n m : ℕ) → n ≡ min 8 (length word) → m ≡ word_len value → word ≡ take m value → value ≡ after_blank bytes
    → take n word ≡ take 8 (first_word (after_blank bytes))
eight_of word value bytes n m least len front blank =
    ap (λ k. take k word) least ∙ take_min 8 word ∙ ap (take 8) (front ∙ ap (λ k. take k value) len ∙ ap first_word blank)
