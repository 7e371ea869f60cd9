-- Lines, bodies and fields of messages of both kinds.
use Rattle.std.proofs.Common.{◌≡◌, ◌∙◌, ℕ, ◌+◌, ◌-◌, ◌<◌, ◌≤◌, List, [], ◌∷◌, ◌++◌, true, false, not, Some, Result, Ok, ap, arith, take, length, ◌==◌, codes}
use Rattle.std.specs.List.{list_all}
use Rattle.std.proofs.lemmas.Bool.{not-true, le-ltb}
use Rattle.std.proofs.lemmas.List.{take_all, length-append}
use Rattle.std.proofs.lemmas.List.Elements.{All-append}
use Rattle.std.proofs.lemmas.List.Sums.{AllPass-from_list_all}
use Rattle.std.proofs.Math.Seq.{take-append_seam}
use Rattle.httparse.specs.Grammar as grammar
use Rattle.httparse.specs.Grammar.{AllPass, Field, IsField, is_token_byte}
use Rattle.tw_http.specs.declared.message.HttpError.{HttpError}
use Rattle.tw_http.specs.Messages.{max_head, max_body, crlf, line, is_visible_byte}
use Rattle.tw_http.specs.Heads.{◌>>=◌, head_len}
use Rattle.tw_http.specs.Bodies.{body_of}
use Rattle.tw_http.proofs.Deciding.{there, take-append}
use Rattle.tw_http.proofs.Visible.{Visible, all_on, no_return, value_text}
use Rattle.tw_http.proofs.WrittenHeads.{IsLine, IsHeadText}

pub plain_line : (xs : List ℕ) → list_all (λ b. not (b == 13)) xs ≡ true → IsLine xs
plain_line xs e = all_on xs (λ b h. not-true (b == 13) h) (AllPass-from_list_all (λ b. not (b == 13)) xs e)

pub visible_line : (xs : List ℕ) → Visible xs → IsLine xs
visible_line xs all = all_on xs no_return all

pub line_of : (name v : List ℕ) → list_all (λ b. not (b == 13)) name ≡ true → Visible v → IsLine (name ++ v)
line_of name v e all = All-append (λ b. (b == 13) ≡ false) name v (plain_line name e) (visible_line v all)

pub length_line : (a b : List ℕ) → length (line a ++ b) ≡ length a + 2 + length b
length_line a b = length-append (a ++ crlf) b ∙ ap (λ n. n + length b) (length-append a crlf)

pub found_head : (front rest : List ℕ) → IsHeadText front → length front ≤ max_head → head_len (take max_head (front ++ rest)) ≡ Some (length front)
found_head front rest ends few = ap head_len (take-append max_head front rest ∙ ap (λ f. f ++ take (max_head - length front) rest) (take_all max_head front few)) ∙ ends (take (max_head - length front) rest)

pub bind_ok : {A B : Type 0} (x : Result A HttpError) (f : A → Result B HttpError) (a : A) (r : Result B HttpError) → x ≡ Ok a → f a ≡ r → (x >>= f) ≡ r
bind_ok x f a r e h = ap (λ y. y >>= f) e ∙ h

pub body_back : (segment more : List ℕ) → length segment ≤ max_body → body_of (length segment) (segment ++ more) ≡ Ok segment
body_back segment more few =
    there (length segment) (segment ++ more) (le-ltb max_body (length segment) few) (le-ltb (length (segment ++ more)) (length segment) (omega (arith, length-append segment more)))
    ∙ ap Ok (take-append_seam segment more)

pub field_is : (name v : List ℕ) → list_all is_token_byte name ≡ true → 0 < length name → Visible v → IsField (record { name = name; raw = 32 ∷ v; end = grammar.crlf })
field_is name v e some all = record { name = (some, AllPass-from_list_all is_token_byte name e); raw = value_text v all }

abbrev pub field : List ℕ → List ℕ → Field
field name v = record { name = name; raw = 32 ∷ v; end = grammar.crlf }

abbrev pub closing : List Field
closing = field (codes "Connection") (codes "close") ∷ []

pub visible : (xs : List ℕ) → list_all is_visible_byte xs ≡ true → Visible xs
visible xs e = AllPass-from_list_all is_visible_byte xs e
