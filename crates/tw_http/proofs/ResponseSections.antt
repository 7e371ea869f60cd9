-- A written response is read back.
use Rattle.std.proofs.Common.{◌≡◌, ◌∙◌, ℕ, ◌+◌, ◌≤◌, inl, List, [], ◌∷◌, ◌++◌, true, not, Some, Result, refl, sym, ap, subst, arith, map, drop, length, ◌==◌, codes, append_assoc, flat_map}
use Rattle.std.specs.List.{list_all}
use Rattle.std.specs.Char.{is_ascii_digit}
use Rattle.std.specs.Str.Parse.{digits_value}
use Rattle.std.proofs.lemmas.List.{append-nil}
use Rattle.std.proofs.lemmas.List.Sums.{AllPass-from_list_all}
use Rattle.std.proofs.Math.Seq.{take-append_seam, drop-append_seam}
use Rattle.http.specs.StatusCode.{code_digits}
use Rattle.httparse.specs.Grammar as grammar
use Rattle.httparse.specs.Grammar.{AllPass, Field, IsField, ResponseHead, ReadsResponse, print_response, print_field, is_token_byte, is_value_byte, status_code}
use Rattle.httparse.specs.Spans.{name_and_value}
use Rattle.httparse.proofs.GrammarLemmas.{print_response-append}
use Rattle.tw_http.specs.declared.message.HttpError.{HttpError}
use Rattle.tw_http.specs.declared.message.Response.{Response}
use Rattle.tw_http.specs.declared.message.Asked.{Asked}
use Rattle.tw_http.specs.Messages.{max_head, crlf, line}
use Rattle.tw_http.specs.Fields.{Fields}
use Rattle.tw_http.specs.Responses.{response_after, IsResponseHeadAnswer, IsResponseAnswerAt, IsResponseAnswer}
use Rattle.tw_http.proofs.WrittenHeads.{IsHeadText, line_on}
use Rattle.tw_http.proofs.MessageParts.{plain_line, length_line, found_head}
use Rattle.tw_http.proofs.Sections.{IsSection}

response_answer : (what : Asked) (front rest : List ℕ) (r : Result Response HttpError) → IsHeadText front → length front ≤ max_head → IsResponseHeadAnswer what front rest r → IsResponseAnswer what (front ++ rest) r
response_answer what front rest r ends few x =
    subst (λ o. IsResponseAnswerAt what o (front ++ rest) r) (sym (found_head front rest ends few))
    (subst (λ f. IsResponseHeadAnswer what f (drop (length front) (front ++ rest)) r) (sym (take-append_seam front rest))
    (subst (λ q. IsResponseHeadAnswer what front q r) (sym (drop-append_seam front rest)) x))

abbrev pub front_of : ℕ → List ℕ → List ℕ → List ℕ
front_of status w t = line (codes "HTTP/1.1 " ++ code_digits status ++ 32 ∷ w) ++ t

abbrev head_of : ℕ → List ℕ → List Field → ResponseHead
head_of status w fs = record { blank = []; minor = 1; digits = code_digits status; reason = Some w; line_end = grammar.crlf; fields = fs; last = grammar.crlf }

front_is : (status : ℕ) (w t : List ℕ) (fs : List Field) → t ≡ flat_map print_field fs ++ crlf → front_of status w t ≡ print_response (head_of status w fs) ++ []
front_is status w t fs e =
    ap (λ x. codes "HTTP/1.1 " ++ code_digits status ++ 32 ∷ x) (append_assoc w crlf t ∙ ap (λ x. w ++ (crlf ++ x)) (e ∙ sym (append-nil (flat_map print_field fs ++ crlf))))
    ∙ sym (print_response-append (head_of status w fs) [])

-- the answer to a status line and a section
pub section_answer : (what : Asked) (status : ℕ) (w : List ℕ) (fs : List Field) (t : List ℕ) (ps : Fields) (most : ℕ) (rest : List ℕ) (r : Result Response HttpError)
    → list_all is_ascii_digit (code_digits status) ≡ true → digits_value 10 (code_digits status) ≡ status
    → list_all is_value_byte w ≡ true → list_all (λ b. not (b == 13)) (codes "HTTP/1.1 " ++ code_digits status ++ 32 ∷ w) ≡ true → length w ≤ 100
    → IsSection fs t ps most → most ≤ 16_000 → length fs ≤ 64 → response_after what status ps rest ≡ r
    → IsResponseAnswer what (front_of status w t ++ rest) r
section_answer what status w fs t ps most rest r digit value text plain brief s few lines is =
    let start = codes "HTTP/1.1 " ++ code_digits status ++ 32 ∷ w in
    let one = length_line start t in
    let short = s.short in
    let two : length start ≡ length w + 13 = omega arith in
    response_answer what (front_of status w t) rest r (line_on start t (plain_line start plain) s.more s.ends) (omega (arith, one, two, short, few, brief))
    (inl (
      head_of status w fs,
      (record { minor = omega arith; digits = (refl, AllPass-from_list_all is_ascii_digit (code_digits status) digit); reason = AllPass-from_list_all is_value_byte w text; fields = s.all }, front_is status w t fs s.prints),
      lines,
      sym (ap (λ n. response_after what n (map name_and_value fs) rest) value ∙ ap (λ x. response_after what status x rest) s.reads ∙ is),
    ))
