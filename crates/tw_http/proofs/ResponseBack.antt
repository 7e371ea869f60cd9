-- Each response is read back.
use Rattle.std.proofs.Common.{◌≡◌, ◌∙◌, ℕ, ◌+◌, ◌≤◌, Bool, false, List, [], ◌∷◌, ◌++◌, true, not, Some, Result, Ok, refl, sym, ap, subst, arith, length, ◌==◌, IsTrue, codes, decimal, append_assoc}
use Rattle.std.specs.List.{list_all}
use Rattle.std.specs.Char.{is_ascii_digit}
use Rattle.std.specs.Str.Parse.{digits_value}
use Rattle.std.proofs.lemmas.Bool.{false≢true}
use Rattle.std.proofs.lemmas.List.{append-nil}
use Rattle.uuid.specs.Text.{parsed_hyphenated}
use Rattle.http.specs.StatusCode.{code_digits}
use Rattle.httparse.specs.Grammar.{Field, is_value_byte}
use Rattle.tw_http.specs.declared.message.HttpError.{HttpError}
use Rattle.tw_http.specs.declared.message.HttpError.TheVariants.{Header, Length}
use Rattle.tw_http.specs.declared.message.Response.{Response}
use Rattle.tw_http.specs.declared.message.Response.TheVariants as answer
use Rattle.tw_http.specs.declared.message.Asked.{Asked}
use Rattle.tw_http.specs.declared.message.Asked.TheVariants as asked
use Rattle.tw_http.specs.declared.response_reader.Kind.{Kind}
use Rattle.tw_http.specs.declared.response_reader.Kind.TheVariants as kinds
use Rattle.tw_http.specs.Messages.{max_body, line, uuid_text, segment_type, snapshot_type, head_of_parts, response_text, response_body, id_of, parent_of}
use Rattle.tw_http.specs.Fields.{Fields, uuid_field}
use Rattle.tw_http.specs.Heads.{◌>>=◌, or_err}
use Rattle.tw_http.specs.Bodies.{body_len, body_of}
use Rattle.tw_http.specs.Responses.{kind_in, response_made, response_after, answers, IsResponseAnswer}
use Rattle.tw_http.specs.Messages.{IsReadBack}
use Rattle.tw_http.proofs.Visible.{uuid_long, length_reads}
use Rattle.tw_http.proofs.MessageParts.{bind_ok, body_back, field, closing, visible}
use Rattle.tw_http.proofs.Sections.{IsSection, closed, closing_pairs, closing_text, length_on, id_on, parent_on, type_on, wanted_on, short_decimal}
use Rattle.tw_http.proofs.ResponseSections.{front_of, section_answer}

after_is : (what : Asked) (status : ℕ) (ps : Fields) (kind : Kind) (segment more : List ℕ) → kind_in what status ps ≡ Ok kind → body_len true ps ≡ Ok (length segment) → length segment ≤ max_body
    → response_after what status ps (segment ++ more) ≡ Ok (response_made kind segment)
unfolding response_after
after_is what status ps kind segment more ne le few =
    let r : Result Response HttpError = Ok (response_made kind segment) in
    bind_ok (kind_in what status ps) _ kind r ne
    (bind_ok (body_len true ps) _ (length segment) r le
    (bind_ok (body_of (length segment) (segment ++ more)) _ segment r (body_back segment more few) refl))

-- ---- responses with no header of their own

abbrev bare_pairs : Fields
bare_pairs = (codes "Content-Length", decimal 0) ∷ closing_pairs

abbrev bare_text : List ℕ
bare_text = line (codes "Content-Length: " ++ decimal 0) ++ closing_text

bare : (what : Asked) (status : ℕ) (w : List ℕ) (kind : Kind) (more : List ℕ)
    → list_all is_ascii_digit (code_digits status) ≡ true → digits_value 10 (code_digits status) ≡ status
    → list_all is_value_byte w ≡ true → list_all (λ b. not (b == 13)) (codes "HTTP/1.1 " ++ code_digits status ++ 32 ∷ w) ≡ true → length w ≤ 100
    → kind_in what status bare_pairs ≡ Ok kind
    → IsResponseAnswer what (front_of status w bare_text ++ [] ++ more) (Ok (response_made kind []))
bare what status w kind more digit value text plain brief ne =
    let short = short_decimal 0 (omega arith) in
    subst (λ bytes. IsResponseAnswer what (bytes ++ more) (Ok (response_made kind []))) (sym (append-nil (front_of status w bare_text)))
    (section_answer what status w (field (codes "Content-Length") (decimal 0) ∷ closing) bare_text bare_pairs (14 + length (decimal 0) + 4 + 30) more (Ok (response_made kind [])) digit value text plain brief
    (length_on 0 closing closing_text closing_pairs 30 (omega arith) closed) (omega (arith, short)) (omega arith)
    (after_is what status bare_pairs kind [] more ne (ap (λ o. or_err Length o) (length_reads 0 (omega arith))) (omega arith)))

up_to_date : (more : List ℕ) → IsResponseAnswer asked.Child (response_text answer.UpToDate ++ more) (Ok answer.UpToDate)
unfolding head_of_parts
up_to_date more = bare asked.Child 404 (codes "Not Found") kinds.UpToDate more refl refl refl refl (omega arith) refl

gone : (more : List ℕ) → IsResponseAnswer asked.Child (response_text answer.Gone ++ more) (Ok answer.Gone)
unfolding head_of_parts
gone more = bare asked.Child 410 (codes "Gone") kinds.Gone more refl refl refl refl (omega arith) refl

bad : (what : Asked) (more : List ℕ) → IsResponseAnswer what (response_text answer.Bad ++ more) (Ok answer.Bad)
unfolding head_of_parts
bad asked.Add more = bare asked.Add 400 (codes "Bad Request") kinds.Bad more refl refl refl refl (omega arith) refl
bad asked.Child more = bare asked.Child 400 (codes "Bad Request") kinds.Bad more refl refl refl refl (omega arith) refl
bad asked.AddSnapshot more = bare asked.AddSnapshot 400 (codes "Bad Request") kinds.Bad more refl refl refl refl (omega arith) refl
bad asked.Snapshot more = bare asked.Snapshot 400 (codes "Bad Request") kinds.Bad more refl refl refl refl (omega arith) refl

too_long : (what : Asked) (more : List ℕ) → IsResponseAnswer what (response_text answer.TooLong ++ more) (Ok answer.TooLong)
unfolding head_of_parts
too_long asked.Add more = bare asked.Add 413 (codes "Payload Too Large") kinds.TooLong more refl refl refl refl (omega arith) refl
too_long asked.Child more = bare asked.Child 413 (codes "Payload Too Large") kinds.TooLong more refl refl refl refl (omega arith) refl
too_long asked.AddSnapshot more = bare asked.AddSnapshot 413 (codes "Payload Too Large") kinds.TooLong more refl refl refl refl (omega arith) refl
too_long asked.Snapshot more = bare asked.Snapshot 413 (codes "Payload Too Large") kinds.TooLong more refl refl refl refl (omega arith) refl

taken : (what : Asked) (more : List ℕ) → IsResponseAnswer what (response_text answer.Taken ++ more) (Ok answer.Taken)
unfolding head_of_parts
taken asked.Add more = bare asked.Add 500 (codes "Internal Server Error") kinds.Taken more refl refl refl refl (omega arith) refl
taken asked.Child more = bare asked.Child 500 (codes "Internal Server Error") kinds.Taken more refl refl refl refl (omega arith) refl
taken asked.AddSnapshot more = bare asked.AddSnapshot 500 (codes "Internal Server Error") kinds.Taken more refl refl refl refl (omega arith) refl
taken asked.Snapshot more = bare asked.Snapshot 500 (codes "Internal Server Error") kinds.Taken more refl refl refl refl (omega arith) refl

stored : (more : List ℕ) → IsResponseAnswer asked.AddSnapshot (response_text answer.Stored ++ more) (Ok answer.Stored)
unfolding head_of_parts
stored more = bare asked.AddSnapshot 200 (codes "OK") kinds.Stored more refl refl refl refl (omega arith) refl

none_stored : (more : List ℕ) → IsResponseAnswer asked.Snapshot (response_text answer.UpToDate ++ more) (Ok answer.UpToDate)
unfolding head_of_parts
none_stored more = bare asked.Snapshot 404 (codes "Not Found") kinds.UpToDate more refl refl refl refl (omega arith) refl

-- ---- the three with uuids

abbrev added_pairs : List ℕ → Fields → Fields
added_pairs id ps = (codes "Content-Length", decimal 0) ∷ (codes "X-Version-Id", uuid_text id) ∷ ps

added_on : (id : List ℕ) (wanted : Bool) (fs : List Field) (t : List ℕ) (ps : Fields) (most : ℕ) (more : List ℕ) → parsed_hyphenated (uuid_text id) ≡ Some id
    → IsSection fs t ps most → most ≤ 100 → length fs ≤ 10 → kind_in asked.Add 200 (added_pairs id ps) ≡ (uuid_field (codes "X-Version-Id") (added_pairs id ps) >>= λ x. Ok (kinds.Added x wanted))
    → uuid_field (codes "X-Version-Id") (added_pairs id ps) ≡ Ok id → body_len true (added_pairs id ps) ≡ Ok 0
    → IsResponseAnswer asked.Add (front_of 200 (codes "OK") (line (codes "Content-Length: " ++ decimal 0) ++ (line (codes "X-Version-Id: " ++ uuid_text id) ++ t)) ++ [] ++ more) (Ok (answer.Added id wanted))
added_on id wanted fs t ps most more ide s few lines kind ue le =
    let t1 = line (codes "X-Version-Id: " ++ uuid_text id) ++ t in
    let f1 = field (codes "X-Version-Id") (uuid_text id) ∷ fs in
    let m1 = 12 + length (uuid_text id) + 4 + most in
    let front = front_of 200 (codes "OK") (line (codes "Content-Length: " ++ decimal 0) ++ t1) in
    let short = short_decimal 0 (omega arith) in
    let long = uuid_long id in
    subst (λ bytes. IsResponseAnswer asked.Add (bytes ++ more) (Ok (answer.Added id wanted))) (sym (append-nil front))
    (section_answer asked.Add 200 (codes "OK") (field (codes "Content-Length") (decimal 0) ∷ f1) (line (codes "Content-Length: " ++ decimal 0) ++ t1) (added_pairs id ps) (14 + length (decimal 0) + 4 + m1) more (Ok (answer.Added id wanted)) refl refl refl refl (omega arith)
    (length_on 0 f1 t1 ((codes "X-Version-Id", uuid_text id) ∷ ps) m1 (omega arith) (id_on id fs t ps most s)) (omega (arith, short, long, few)) (omega (arith, lines))
    (after_is asked.Add 200 (added_pairs id ps) (kinds.Added id wanted) [] more
    (kind ∙ bind_ok (uuid_field (codes "X-Version-Id") (added_pairs id ps)) _ id (Ok (kinds.Added id wanted)) ue refl) le (omega arith)))

added : (id : List ℕ) (wanted : Bool) (more : List ℕ) → parsed_hyphenated (uuid_text id) ≡ Some id → IsResponseAnswer asked.Add (response_text (answer.Added id wanted) ++ more) (Ok (answer.Added id wanted))
unfolding head_of_parts
added id true more ide =
    added_on id true (field (codes "X-Snapshot-Request") (codes "urgency=high") ∷ closing) (line (codes "X-Snapshot-Request: urgency=high") ++ closing_text) ((codes "X-Snapshot-Request", codes "urgency=high") ∷ closing_pairs) (18 + 12 + 4 + 30) more ide
    (wanted_on closing closing_text closing_pairs 30 closed) (omega arith) (omega arith) refl (ap (or_err Header) ide) (ap (or_err Length) (length_reads 0 (omega arith)))
added id false more ide =
    added_on id false closing closing_text closing_pairs 30 more ide closed (omega arith) (omega arith) refl (ap (or_err Header) ide) (ap (or_err Length) (length_reads 0 (omega arith)))

abbrev conflict_pairs : List ℕ → Fields
conflict_pairs id = (codes "Content-Length", decimal 0) ∷ (codes "X-Parent-Version-Id", uuid_text id) ∷ closing_pairs

conflict : (id more : List ℕ) → parsed_hyphenated (uuid_text id) ≡ Some id → IsResponseAnswer asked.Add (response_text (answer.Conflict id) ++ more) (Ok (answer.Conflict id))
unfolding head_of_parts
conflict id more ide =
    let t1 = line (codes "X-Parent-Version-Id: " ++ uuid_text id) ++ closing_text in
    let f1 = field (codes "X-Parent-Version-Id") (uuid_text id) ∷ closing in
    let m1 = 19 + length (uuid_text id) + 4 + 30 in
    let front = front_of 409 (codes "Conflict") (line (codes "Content-Length: " ++ decimal 0) ++ t1) in
    let short = short_decimal 0 (omega arith) in
    let long = uuid_long id in
    subst (λ bytes. IsResponseAnswer asked.Add (bytes ++ more) (Ok (answer.Conflict id))) (sym (append-nil front))
    (section_answer asked.Add 409 (codes "Conflict") (field (codes "Content-Length") (decimal 0) ∷ f1) (line (codes "Content-Length: " ++ decimal 0) ++ t1) (conflict_pairs id) (14 + length (decimal 0) + 4 + m1) more (Ok (answer.Conflict id)) refl refl refl refl (omega arith)
    (length_on 0 f1 t1 ((codes "X-Parent-Version-Id", uuid_text id) ∷ closing_pairs) m1 (omega arith) (parent_on id closing closing_text closing_pairs 30 closed)) (omega (arith, short, long)) (omega arith)
    (after_is asked.Add 409 (conflict_pairs id) (kinds.Conflict id) [] more
    (bind_ok (uuid_field (codes "X-Parent-Version-Id") (conflict_pairs id)) _ id (Ok (kinds.Conflict id)) (ap (λ o. or_err Header o) ide) refl)
    (ap (λ o. or_err Length o) (length_reads 0 (omega arith))) (omega arith)))

abbrev child_pairs : List ℕ → List ℕ → List ℕ → Fields
child_pairs id parent d = (codes "Content-Type", segment_type) ∷ (codes "Content-Length", d) ∷ (codes "X-Version-Id", uuid_text id) ∷ (codes "X-Parent-Version-Id", uuid_text parent) ∷ closing_pairs

child : (id parent segment more : List ℕ) → parsed_hyphenated (uuid_text id) ≡ Some id → parsed_hyphenated (uuid_text parent) ≡ Some parent → length segment ≤ max_body
    → IsResponseAnswer asked.Child (response_text (answer.Child id parent segment) ++ more) (Ok (answer.Child id parent segment))
unfolding head_of_parts
child id parent segment more ide pe few =
    let d = decimal (length segment) in
    let t1 = line (codes "X-Parent-Version-Id: " ++ uuid_text parent) ++ closing_text in
    let f1 = field (codes "X-Parent-Version-Id") (uuid_text parent) ∷ closing in
    let p1 : Fields = (codes "X-Parent-Version-Id", uuid_text parent) ∷ closing_pairs in
    let m1 = 19 + length (uuid_text parent) + 4 + 30 in
    let t2 = line (codes "X-Version-Id: " ++ uuid_text id) ++ t1 in
    let f2 = field (codes "X-Version-Id") (uuid_text id) ∷ f1 in
    let p2 : Fields = (codes "X-Version-Id", uuid_text id) ∷ p1 in
    let m2 = 12 + length (uuid_text id) + 4 + m1 in
    let t3 = line (codes "Content-Length: " ++ d) ++ t2 in
    let f3 = field (codes "Content-Length") d ∷ f2 in
    let p3 : Fields = (codes "Content-Length", d) ∷ p2 in
    let m3 = 14 + length d + 4 + m2 in
    let t4 = line (codes "Content-Type: " ++ segment_type) ++ t3 in
    let f4 = field (codes "Content-Type") segment_type ∷ f3 in
    let r : Result Response HttpError = Ok (answer.Child id parent segment) in
    let short = short_decimal (length segment) few in
    let long = uuid_long id in
    let long2 = uuid_long parent in
    let ps = child_pairs id parent d in
    subst (λ bytes. IsResponseAnswer asked.Child bytes r) (sym (append_assoc (front_of 200 (codes "OK") t4) segment more))
    (section_answer asked.Child 200 (codes "OK") f4 t4 ps (12 + length segment_type + 4 + m3) (segment ++ more) r refl refl refl refl (omega arith)
    (type_on segment_type f3 t3 p3 m3 (visible segment_type refl) (length_on (length segment) f2 t2 p2 m2 few (id_on id f1 t1 p1 m1 (parent_on parent closing closing_text closing_pairs 30 closed)))) (omega (arith, short, long, long2)) (omega arith)
    (after_is asked.Child 200 ps (kinds.Child id parent) segment more
    (bind_ok (uuid_field (codes "X-Version-Id") ps) _ id (Ok (kinds.Child id parent)) (ap (λ o. or_err Header o) ide)
    (bind_ok (uuid_field (codes "X-Parent-Version-Id") ps) _ parent (Ok (kinds.Child id parent)) (ap (λ o. or_err Header o) pe) refl))
    (ap (λ o. or_err Length o) (length_reads (length segment) few)) few))

abbrev snapshot_pairs : List ℕ → List ℕ → Fields
snapshot_pairs version d = (codes "Content-Type", snapshot_type) ∷ (codes "Content-Length", d) ∷ (codes "X-Version-Id", uuid_text version) ∷ closing_pairs

snapshot : (version body more : List ℕ) → parsed_hyphenated (uuid_text version) ≡ Some version → length body ≤ max_body
    → IsResponseAnswer asked.Snapshot (response_text (answer.Snapshot version body) ++ more) (Ok (answer.Snapshot version body))
unfolding head_of_parts
snapshot version body more ve few =
    let d = decimal (length body) in
    let t2 = line (codes "X-Version-Id: " ++ uuid_text version) ++ closing_text in
    let f2 = field (codes "X-Version-Id") (uuid_text version) ∷ closing in
    let p2 : Fields = (codes "X-Version-Id", uuid_text version) ∷ closing_pairs in
    let m2 = 12 + length (uuid_text version) + 4 + 30 in
    let t3 = line (codes "Content-Length: " ++ d) ++ t2 in
    let f3 = field (codes "Content-Length") d ∷ f2 in
    let p3 : Fields = (codes "Content-Length", d) ∷ p2 in
    let m3 = 14 + length d + 4 + m2 in
    let t4 = line (codes "Content-Type: " ++ snapshot_type) ++ t3 in
    let f4 = field (codes "Content-Type") snapshot_type ∷ f3 in
    let r : Result Response HttpError = Ok (answer.Snapshot version body) in
    let short = short_decimal (length body) few in
    let long = uuid_long version in
    let ps = snapshot_pairs version d in
    subst (λ bytes. IsResponseAnswer asked.Snapshot bytes r) (sym (append_assoc (front_of 200 (codes "OK") t4) body more))
    (section_answer asked.Snapshot 200 (codes "OK") f4 t4 ps (12 + length snapshot_type + 4 + m3) (body ++ more) r refl refl refl refl (omega arith)
    (type_on snapshot_type f3 t3 p3 m3 (visible snapshot_type refl) (length_on (length body) f2 t2 p2 m2 few (id_on version closing closing_text closing_pairs 30 closed))) (omega (arith, short, long)) (omega arith)
    (after_is asked.Snapshot 200 ps (kinds.Snapshot version) body more
    (bind_ok (uuid_field (codes "X-Version-Id") ps) _ version (Ok (kinds.Snapshot version)) (ap (or_err Header) ve) refl)
    (ap (or_err Length) (length_reads (length body) few)) few))

-- what was written in answer to a request is read as it, whatever follows
pub response_back : (what : Asked) (response : Response) (more : List ℕ) → IsReadBack (id_of response) → IsReadBack (parent_of response) → IsTrue (answers what response) → length (response_body response) ≤ max_body
    → IsResponseAnswer what (response_text response ++ more) (Ok response)
response_back asked.Add (answer.Added id wanted) more ide pe fits few = added id wanted more ide
response_back asked.Add (answer.Conflict latest) more ide pe fits few = conflict latest more pe
response_back asked.Add (answer.Child id parent segment) more ide pe fits few = absurd (false≢true fits)
response_back asked.Add answer.UpToDate more ide pe fits few = absurd (false≢true fits)
response_back asked.Add answer.Gone more ide pe fits few = absurd (false≢true fits)
response_back asked.Add answer.Bad more ide pe fits few = bad asked.Add more
response_back asked.Add answer.TooLong more ide pe fits few = too_long asked.Add more
response_back asked.Add answer.Taken more ide pe fits few = taken asked.Add more
response_back asked.Add answer.Stored more ide pe fits few = absurd (false≢true fits)
response_back asked.Add (answer.Snapshot version bytes) more ide pe fits few = absurd (false≢true fits)
response_back asked.Child (answer.Added id wanted) more ide pe fits few = absurd (false≢true fits)
response_back asked.Child (answer.Conflict latest) more ide pe fits few = absurd (false≢true fits)
response_back asked.Child (answer.Child id parent segment) more ide pe fits few = child id parent segment more ide pe few
response_back asked.Child answer.UpToDate more ide pe fits few = up_to_date more
response_back asked.Child answer.Gone more ide pe fits few = gone more
response_back asked.Child answer.Bad more ide pe fits few = bad asked.Child more
response_back asked.Child answer.TooLong more ide pe fits few = too_long asked.Child more
response_back asked.Child answer.Taken more ide pe fits few = taken asked.Child more
response_back asked.Child answer.Stored more ide pe fits few = absurd (false≢true fits)
response_back asked.Child (answer.Snapshot version bytes) more ide pe fits few = absurd (false≢true fits)
response_back asked.AddSnapshot (answer.Added id wanted) more ide pe fits few = absurd (false≢true fits)
response_back asked.AddSnapshot (answer.Conflict latest) more ide pe fits few = absurd (false≢true fits)
response_back asked.AddSnapshot (answer.Child id parent segment) more ide pe fits few = absurd (false≢true fits)
response_back asked.AddSnapshot answer.UpToDate more ide pe fits few = absurd (false≢true fits)
response_back asked.AddSnapshot answer.Gone more ide pe fits few = absurd (false≢true fits)
response_back asked.AddSnapshot answer.Bad more ide pe fits few = bad asked.AddSnapshot more
response_back asked.AddSnapshot answer.TooLong more ide pe fits few = too_long asked.AddSnapshot more
response_back asked.AddSnapshot answer.Taken more ide pe fits few = taken asked.AddSnapshot more
response_back asked.AddSnapshot answer.Stored more ide pe fits few = stored more
response_back asked.AddSnapshot (answer.Snapshot version bytes) more ide pe fits few = absurd (false≢true fits)
response_back asked.Snapshot (answer.Added id wanted) more ide pe fits few = absurd (false≢true fits)
response_back asked.Snapshot (answer.Conflict latest) more ide pe fits few = absurd (false≢true fits)
response_back asked.Snapshot (answer.Child id parent segment) more ide pe fits few = absurd (false≢true fits)
response_back asked.Snapshot answer.UpToDate more ide pe fits few = none_stored more
response_back asked.Snapshot answer.Gone more ide pe fits few = absurd (false≢true fits)
response_back asked.Snapshot answer.Bad more ide pe fits few = bad asked.Snapshot more
response_back asked.Snapshot answer.TooLong more ide pe fits few = too_long asked.Snapshot more
response_back asked.Snapshot answer.Taken more ide pe fits few = taken asked.Snapshot more
response_back asked.Snapshot answer.Stored more ide pe fits few = absurd (false≢true fits)
response_back asked.Snapshot (answer.Snapshot version bytes) more ide pe fits few = snapshot version bytes more ide few
