-- The fields of a head from its last line to its first.
use Rattle.std.proofs.Common.{◌≡◌, ◌∙◌, ℕ, ◌+◌, ◌<◌, ◌≤◌, List, [], ◌∷◌, ◌++◌, true, not, refl, sym, ap, arith, map, length, ◌==◌, All, codes, decimal, append_assoc, flat_map}
use Rattle.std.specs.List.{list_all}
use Rattle.std.proofs.lemmas.List.{length-append}
use Rattle.std.proofs.lemmas.List.Elements.{All-cons, All-nil}
use Rattle.std.proofs.lemmas.Fmt.{length-decimal-le}
use Rattle.httparse.specs.Grammar.{Field, IsField, print_field, is_token_byte}
use Rattle.httparse.specs.Spans.{name_and_value}
use Rattle.httparse.proofs.GrammarLemmas.{cons-append}
use Rattle.tw_http.specs.Messages.{max_body, crlf, line, uuid_text}
use Rattle.tw_http.specs.Fields.{Fields}
use Rattle.tw_http.proofs.Visible.{Visible, trimmed, uuid_visible, decimal_visible}
use Rattle.tw_http.proofs.WrittenHeads.{IsMore, IsHeadText, line_on, last_line}
use Rattle.tw_http.proofs.MessageParts.{plain_line, line_of, length_line, field_is, field, closing, visible}

-- the fields from some line on, with their text and what they read as
pub record IsSection (fields : List Field) (text : List ℕ) (pairs : Fields) (most : ℕ) : Type 0 where
  pub all : All IsField fields
  pub prints : text ≡ flat_map print_field fields ++ crlf
  pub ends : IsHeadText text
  pub more : IsMore text
  pub reads : map name_and_value fields ≡ pairs
  pub short : length text ≤ most

pub closed : IsSection closing (line (codes "Connection: close") ++ crlf) ((codes "Connection", codes "close") ∷ []) 30
unfolding is_token_byte
closed = record {
  all = All-cons IsField (field (codes "Connection") (codes "close")) [] (field_is (codes "Connection") (codes "close") refl (omega arith) (visible (codes "close") refl)) (All-nil IsField);
  prints = refl;
  ends = last_line (codes "Connection: close") (plain_line (codes "Connection: close") refl);
  more = λ rest. refl;
  reads = rw (trimmed (codes "close") (visible (codes "close") refl)) refl;
  short = omega arith;
}

field_text : (name v t : List ℕ) → line (name ++ (58 ∷ 32 ∷ []) ++ v) ++ t ≡ print_field (field name v) ++ t
field_text name v t = simp (append_assoc, cons-append)

pub field_on : (name v : List ℕ) (fs : List Field) (t : List ℕ) (ps : Fields) (most : ℕ) → list_all is_token_byte name ≡ true → 0 < length name
    → list_all (λ b. not (b == 13)) (name ++ (58 ∷ 32 ∷ [])) ≡ true → Visible v
    → IsMore (line (name ++ (58 ∷ 32 ∷ []) ++ v) ++ t) → IsSection fs t ps most
    → IsSection (field name v ∷ fs) (line (name ++ (58 ∷ 32 ∷ []) ++ v) ++ t) ((name, v) ∷ ps) (length name + length v + 4 + most)
field_on name v fs t ps most token some plain vv starts s = record {
  all = All-cons IsField (field name v) fs (field_is name v token some vv) s.all;
  prints = field_text name v t ∙ ap (λ x. print_field (field name v) ++ x) s.prints ∙ sym (append_assoc (print_field (field name v)) (flat_map print_field fs) crlf);
  ends = line_on (name ++ (58 ∷ 32 ∷ []) ++ v) t (line_of (name ++ (58 ∷ 32 ∷ [])) v plain vv) s.more s.ends;
  more = starts;
  reads = ap (λ x. (name, x) ∷ map name_and_value fs) (trimmed v vv) ∙ ap (λ x. (name, v) ∷ x) s.reads;
  short =
      let one = length_line (name ++ (58 ∷ 32 ∷ []) ++ v) t in
      let two = length-append (name ++ (58 ∷ 32 ∷ [])) v in
      let three = length-append name (58 ∷ 32 ∷ []) in
      let few = s.short in
      omega (arith, one, two, three, few);
}

-- ---- the lines

abbrev pub closing_pairs : Fields
closing_pairs = (codes "Connection", codes "close") ∷ []

abbrev pub closing_text : List ℕ
closing_text = line (codes "Connection: close") ++ crlf

pub length_on : (n : ℕ) (fs : List Field) (t : List ℕ) (ps : Fields) (most : ℕ) → n ≤ max_body → IsSection fs t ps most
    → IsSection (field (codes "Content-Length") (decimal n) ∷ fs) (line (codes "Content-Length: " ++ decimal n) ++ t) ((codes "Content-Length", decimal n) ∷ ps) (14 + length (decimal n) + 4 + most)
unfolding is_token_byte
length_on n fs t ps most few s = field_on (codes "Content-Length") (decimal n) fs t ps most refl (omega arith) refl (decimal_visible n (omega (arith, few))) (λ rest. refl) s

pub id_on : (uuid : List ℕ) (fs : List Field) (t : List ℕ) (ps : Fields) (most : ℕ) → IsSection fs t ps most
    → IsSection (field (codes "X-Version-Id") (uuid_text uuid) ∷ fs) (line (codes "X-Version-Id: " ++ uuid_text uuid) ++ t) ((codes "X-Version-Id", uuid_text uuid) ∷ ps) (12 + length (uuid_text uuid) + 4 + most)
unfolding is_token_byte
id_on uuid fs t ps most s = field_on (codes "X-Version-Id") (uuid_text uuid) fs t ps most refl (omega arith) refl (uuid_visible uuid) (λ rest. refl) s

pub parent_on : (uuid : List ℕ) (fs : List Field) (t : List ℕ) (ps : Fields) (most : ℕ) → IsSection fs t ps most
    → IsSection (field (codes "X-Parent-Version-Id") (uuid_text uuid) ∷ fs) (line (codes "X-Parent-Version-Id: " ++ uuid_text uuid) ++ t) ((codes "X-Parent-Version-Id", uuid_text uuid) ∷ ps) (19 + length (uuid_text uuid) + 4 + most)
unfolding is_token_byte
parent_on uuid fs t ps most s = field_on (codes "X-Parent-Version-Id") (uuid_text uuid) fs t ps most refl (omega arith) refl (uuid_visible uuid) (λ rest. refl) s

pub type_on : (type : List ℕ) (fs : List Field) (t : List ℕ) (ps : Fields) (most : ℕ) → Visible type → IsSection fs t ps most
    → IsSection (field (codes "Content-Type") type ∷ fs) (line (codes "Content-Type: " ++ type) ++ t) ((codes "Content-Type", type) ∷ ps) (12 + length type + 4 + most)
unfolding is_token_byte
type_on type fs t ps most vv s = field_on (codes "Content-Type") type fs t ps most refl (omega arith) refl vv (λ rest. refl) s

pub client_on : (uuid : List ℕ) (fs : List Field) (t : List ℕ) (ps : Fields) (most : ℕ) → IsSection fs t ps most
    → IsSection (field (codes "X-Client-Id") (uuid_text uuid) ∷ fs) (line (codes "X-Client-Id: " ++ uuid_text uuid) ++ t) ((codes "X-Client-Id", uuid_text uuid) ∷ ps) (11 + length (uuid_text uuid) + 4 + most)
unfolding is_token_byte
client_on uuid fs t ps most s = field_on (codes "X-Client-Id") (uuid_text uuid) fs t ps most refl (omega arith) refl (uuid_visible uuid) (λ rest. refl) s

pub host_on : (host : List ℕ) (fs : List Field) (t : List ℕ) (ps : Fields) (most : ℕ) → Visible host → IsSection fs t ps most
    → IsSection (field (codes "Host") host ∷ fs) (line (codes "Host: " ++ host) ++ t) ((codes "Host", host) ∷ ps) (4 + length host + 4 + most)
unfolding is_token_byte
host_on host fs t ps most vv s = field_on (codes "Host") host fs t ps most refl (omega arith) refl vv (λ rest. refl) s

pub wanted_on : (fs : List Field) (t : List ℕ) (ps : Fields) (most : ℕ) → IsSection fs t ps most
    → IsSection (field (codes "X-Snapshot-Request") (codes "urgency=high") ∷ fs) (line (codes "X-Snapshot-Request: urgency=high") ++ t) ((codes "X-Snapshot-Request", codes "urgency=high") ∷ ps) (18 + 12 + 4 + most)
unfolding is_token_byte
wanted_on fs t ps most s = field_on (codes "X-Snapshot-Request") (codes "urgency=high") fs t ps most refl (omega arith) refl (visible (codes "urgency=high") refl) (λ rest. refl) s

pub short_decimal : (n : ℕ) → n ≤ max_body → length (decimal n) ≤ 19
short_decimal n few = length-decimal-le 19 n (omega arith) (omega (arith, few)) (omega (arith, few))
