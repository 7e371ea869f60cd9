-- A written request is read back.
use Rattle.std.proofs.Common.{◌≡◌, ◌∙◌, ℕ, ◌+◌, ◌<◌, ◌≤◌, inl, List, [], ◌∷◌, ◌++◌, true, false, not, Some, None, option_map, All, Result, Ok, refl, sym, ap, subst, arith, drop, length, ◌==◌, IsTrue, codes, decimal, append_assoc, flat_map}
use Rattle.std.specs.List.{list_all}
use Rattle.std.proofs.lemmas.List.{append-nil, length-append}
use Rattle.std.proofs.lemmas.List.Elements.{All-append}
use Rattle.std.proofs.lemmas.List.Sums.{AllPass-from_list_all}
use Rattle.std.proofs.lemmas.Str.{IsUtf8-from_ascii}
use Rattle.std.proofs.Math.Seq.{take-append_seam, drop-append_seam}
use Rattle.httparse.specs.Grammar as grammar
use Rattle.httparse.specs.Grammar.{AllPass, Field, RequestHead, print_request, print_field, is_token_byte}
use Rattle.httparse.proofs.GrammarLemmas.{print_request-append, cons-append}
use Rattle.tw_http.specs.declared.message.HttpError.{HttpError}
use Rattle.tw_http.specs.declared.message.HttpError.TheVariants.{Path, Header, Length}
use Rattle.tw_http.specs.declared.message.Request.{Request}
use Rattle.tw_http.specs.declared.message.Request.TheVariants.{Add, Child, AddSnapshot, Snapshot}
use Rattle.tw_http.specs.declared.request_reader.Target.{Target}
use Rattle.tw_http.specs.declared.request_reader.Target.TheVariants as at
use Rattle.tw_http.specs.Messages.{max_head, max_body, crlf, line, is_visible_byte, uuid_text, segment_type, snapshot_type, add_path, child_path, store_path, fetch_path, get_lines, get_head, post_head, request_text, request_body, asked_uuid, IsHost, IsReadBack}
use Rattle.tw_http.specs.Heads.{or_err}
use Rattle.tw_http.specs.Fields.{Fields, uuid_field}
use Rattle.tw_http.specs.Requests.{asked_of, content_type, has_body, typed_as, request_made, request_after, posted_at, fetched_at, IsRequestHeadAnswer, IsRequestAnswerAt, IsRequestAnswer}
use Rattle.tw_http.specs.Serving.{client_of}
use Rattle.tw_http.specs.Bodies.{body_len, body_of}
use Rattle.tw_http.proofs.Visible.{Visible, uuid_long, uuid_visible, length_reads, uri_text, ascii_text}
use Rattle.tw_http.proofs.WrittenHeads.{IsHeadText, line_on}
use Rattle.tw_http.proofs.MessageParts.{plain_line, line_of, length_line, found_head, bind_ok, body_back, field, closing, visible}
use Rattle.tw_http.proofs.Sections.{IsSection, closed, closing_pairs, closing_text, length_on, type_on, client_on, host_on, short_decimal}

request_answer : (front rest : List ℕ) (r : Result Request HttpError) → IsHeadText front → length front ≤ max_head → IsRequestHeadAnswer front rest r → IsRequestAnswer (front ++ rest) r
request_answer front rest r ends few x =
    subst (λ o. IsRequestAnswerAt o (front ++ rest) r) (sym (found_head front rest ends few))
    (subst (λ f. IsRequestHeadAnswer f (drop (length front) (front ++ rest)) r) (sym (take-append_seam front rest))
    (subst (λ q. IsRequestHeadAnswer front q r) (sym (drop-append_seam front rest)) x))

abbrev start_of : List ℕ → List ℕ → List ℕ
start_of method target = method ++ (32 ∷ (target ++ codes " HTTP/1.1"))

abbrev front_of : List ℕ → List ℕ → List ℕ → List ℕ
front_of method target t = line (start_of method target) ++ t

abbrev head_of : List ℕ → List ℕ → List Field → RequestHead
head_of method target fs = record { blank = []; method = method; target = target; minor = 1; line_end = grammar.crlf; fields = fs; last = grammar.crlf }

regroup : (method target version t : List ℕ) → ((method ++ (32 ∷ (target ++ version))) ++ crlf) ++ t ≡ method ++ (32 ∷ (target ++ (version ++ (crlf ++ t))))
regroup method target version t = simp (append_assoc, cons-append)

front_is : (method target t : List ℕ) (fs : List Field) → t ≡ flat_map print_field fs ++ crlf → front_of method target t ≡ print_request (head_of method target fs) ++ []
front_is method target t fs e =
    regroup method target (codes " HTTP/1.1") t
    ∙ ap (λ x. method ++ (32 ∷ (target ++ (codes " HTTP/1.1" ++ (crlf ++ x))))) (e ∙ sym (append-nil (flat_map print_field fs ++ crlf)))
    ∙ sym (print_request-append (head_of method target fs) [])

-- the answer to a start line and a section
section_request : (method target : List ℕ) (fs : List Field) (t : List ℕ) (ps : Fields) (most : ℕ) (rest : List ℕ) (r : Result Request HttpError)
    → list_all is_token_byte method ≡ true → 0 < length method → list_all (λ b. not (b == 13)) (method ++ (32 ∷ [])) ≡ true → length method ≤ 10
    → Visible target → 0 < length target → length target ≤ 100
    → IsSection fs t ps most → most ≤ 16_000 → length fs ≤ 64 → request_after method target ps rest ≡ r
    → IsRequestAnswer (front_of method target t ++ rest) r
section_request method target fs t ps most rest r token some plain brief vt some_target short_target s few lines is =
    let start = start_of method target in
    let one = length_line start t in
    let two = length-append method (32 ∷ (target ++ codes " HTTP/1.1")) in
    let three = length-append target (codes " HTTP/1.1") in
    let short = s.short in
    let whole : start ≡ (method ++ (32 ∷ [])) ++ target ++ codes " HTTP/1.1" = regroup_start method target (codes " HTTP/1.1") in
    request_answer (front_of method target t) rest r
    (line_on start t (subst (λ x. All (λ b. (b == 13) ≡ false) x) (sym whole) (All-append (λ b. (b == 13) ≡ false) ((method ++ (32 ∷ [])) ++ target) (codes " HTTP/1.1") (line_of (method ++ (32 ∷ [])) target plain vt) (plain_line (codes " HTTP/1.1") refl))) s.more s.ends)
    (omega (arith, one, two, three, short, few, brief, short_target))
    (inl (
      head_of method target fs,
      (
        record {
          method = (some, AllPass-from_list_all is_token_byte method token);
          target = (some_target, uri_text target vt);
          target_text = IsUtf8-from_ascii target (ascii_text target vt);
          minor = omega arith;
          fields = s.all;
        },
        front_is method target t fs s.prints,
      ),
      lines,
      sym (ap (λ x. request_after method target x rest) s.reads ∙ is),
    ))
  where
    regroup_start : (m u v : List ℕ) → m ++ (32 ∷ (u ++ v)) ≡ (m ++ (32 ∷ [])) ++ u ++ v
    regroup_start m u v = simp (append_assoc, cons-append)

-- ---- without a body

abbrev get_pairs : List ℕ → List ℕ → Fields
get_pairs host client = (codes "Host", host) ∷ (codes "X-Client-Id", uuid_text client) ∷ closing_pairs

get_answer : (target client host rest : List ℕ) (r : Result Request HttpError) → IsHost host → Visible target → 0 < length target → length target ≤ 100
    → request_after (codes "GET") target (get_pairs host client) rest ≡ r → IsRequestAnswer (get_head target client host ++ rest) r
unfolding get_lines is_token_byte
get_answer target client host rest r h vt some short is =
    let few = h.few in
    let long = uuid_long client in
    let t1 = line (codes "X-Client-Id: " ++ uuid_text client) ++ closing_text in
    let f1 = field (codes "X-Client-Id") (uuid_text client) ∷ closing in
    let p1 : Fields = (codes "X-Client-Id", uuid_text client) ∷ closing_pairs in
    let m1 = 11 + length (uuid_text client) + 4 + 30 in
    section_request (codes "GET") target (field (codes "Host") host ∷ f1) (line (codes "Host: " ++ host) ++ t1) (get_pairs host client) (4 + length host + 4 + m1) rest r
    refl (omega arith) refl (omega arith) vt some short
    (host_on host f1 t1 p1 m1 h.plain (client_on client closing closing_text closing_pairs 30 closed)) (omega (arith, few, long)) (omega arith) is

get_after : (target : List ℕ) (asked : Target) (client host more : List ℕ) → has_body asked ≡ false → content_type asked ≡ None → asked_of (codes "GET") target ≡ Some asked → IsReadBack (Some client)
    → request_after (codes "GET") target (get_pairs host client) more ≡ Ok (request_made asked client [])
unfolding request_after
get_after target asked client host more bare none ae ce =
    let fs = get_pairs host client in
    let r : Result Request HttpError = Ok (request_made asked client []) in
    bind_ok (or_err Path (asked_of (codes "GET") target)) _ asked r (ap (or_err Path) ae)
    (bind_ok (uuid_field (codes "X-Client-Id") fs) _ client r (ap (or_err Header) ce)
    (bind_ok (typed_as (content_type asked) fs) _ tt r (ap (λ o. typed_as o fs) none)
    (bind_ok (body_len (has_body asked) fs) _ 0 r (ap (λ b. body_len b fs) bare)
    (bind_ok (body_of 0 more) _ [] r (body_back [] more (omega arith)) refl))))

on_path : (path uuid : List ℕ) → list_all is_visible_byte path ≡ true → Visible (path ++ uuid_text uuid)
on_path path uuid e = All-append (λ b. IsTrue (is_visible_byte b)) path (uuid_text uuid) (visible path e) (uuid_visible uuid)

child_back : (client parent host more : List ℕ) → IsHost host → IsReadBack (Some client) → IsReadBack (Some parent) → IsRequestAnswer (request_text (Child client parent) host ++ more) (Ok (Child client parent))
child_back client parent host more h ce pe =
    let long = uuid_long parent in
    let target = child_path ++ uuid_text parent in
    subst (λ bytes. IsRequestAnswer (bytes ++ more) (Ok (Child client parent))) (sym (append-nil (get_head target client host)))
    (get_answer target client host more (Ok (Child client parent)) h (on_path child_path parent refl) (omega arith) (omega (arith, long))
    (get_after target (at.Child parent) client host more refl refl (ap (fetched_at target) pe) ce))

snapshot_back : (client host more : List ℕ) → IsHost host → IsReadBack (Some client) → IsRequestAnswer (request_text (Snapshot client) host ++ more) (Ok (Snapshot client))
snapshot_back client host more h ce =
    subst (λ bytes. IsRequestAnswer (bytes ++ more) (Ok (Snapshot client))) (sym (append-nil (get_head fetch_path client host)))
    (get_answer fetch_path client host more (Ok (Snapshot client)) h (visible fetch_path refl) (omega arith) (omega arith)
    (get_after fetch_path at.Fetch client host more refl refl refl ce))

-- ---- with a body

abbrev post_pairs : List ℕ → List ℕ → List ℕ → ℕ → Fields
post_pairs host client type n = (codes "Host", host) ∷ (codes "X-Client-Id", uuid_text client) ∷ (codes "Content-Type", type) ∷ (codes "Content-Length", decimal n) ∷ closing_pairs

post_answer : (target type client host : List ℕ) (n : ℕ) (rest : List ℕ) (r : Result Request HttpError) → IsHost host → Visible target → 0 < length target → length target ≤ 100 → Visible type → length type ≤ 100 → n ≤ max_body
    → request_after (codes "POST") target (post_pairs host client type n) rest ≡ r → IsRequestAnswer (post_head target type client host n ++ rest) r
unfolding post_head is_token_byte
post_answer target type client host n rest r h vt some short vy short_type small is =
    let few = h.few in
    let long = uuid_long client in
    let digits = short_decimal n small in
    let t1 = line (codes "Content-Length: " ++ decimal n) ++ closing_text in
    let f1 = field (codes "Content-Length") (decimal n) ∷ closing in
    let p1 : Fields = (codes "Content-Length", decimal n) ∷ closing_pairs in
    let m1 = 14 + length (decimal n) + 4 + 30 in
    let t2 = line (codes "Content-Type: " ++ type) ++ t1 in
    let f2 = field (codes "Content-Type") type ∷ f1 in
    let p2 : Fields = (codes "Content-Type", type) ∷ p1 in
    let m2 = 12 + length type + 4 + m1 in
    let t3 = line (codes "X-Client-Id: " ++ uuid_text client) ++ t2 in
    let f3 = field (codes "X-Client-Id") (uuid_text client) ∷ f2 in
    let p3 : Fields = (codes "X-Client-Id", uuid_text client) ∷ p2 in
    let m3 = 11 + length (uuid_text client) + 4 + m2 in
    section_request (codes "POST") target (field (codes "Host") host ∷ f3) (line (codes "Host: " ++ host) ++ t3) (post_pairs host client type n) (4 + length host + 4 + m3) rest r
    refl (omega arith) refl (omega arith) vt some short
    (host_on host f3 t3 p3 m3 h.plain (client_on client f2 t2 p2 m2 (type_on type f1 t1 p1 m1 vy (length_on n closing closing_text closing_pairs 30 small closed))))
    (omega (arith, few, long, digits, short_type)) (omega arith) is

post_after : (target type : List ℕ) (asked : Target) (client host body more : List ℕ) → has_body asked ≡ true → typed_as (content_type asked) (post_pairs host client type (length body)) ≡ Ok tt
    → asked_of (codes "POST") target ≡ Some asked → IsReadBack (Some client) → length body ≤ max_body
    → request_after (codes "POST") target (post_pairs host client type (length body)) (body ++ more) ≡ Ok (request_made asked client body)
unfolding request_after
post_after target type asked client host body more full typed ae ce few =
    let fs = post_pairs host client type (length body) in
    let r : Result Request HttpError = Ok (request_made asked client body) in
    bind_ok (or_err Path (asked_of (codes "POST") target)) _ asked r (ap (or_err Path) ae)
    (bind_ok (uuid_field (codes "X-Client-Id") fs) _ client r (ap (or_err Header) ce)
    (bind_ok (typed_as (content_type asked) fs) _ tt r typed
    (bind_ok (body_len (has_body asked) fs) _ (length body) r (ap (λ b. body_len b fs) full ∙ ap (or_err Length) (length_reads (length body) few))
    (bind_ok (body_of (length body) (body ++ more)) _ body r (body_back body more few) refl))))

add_back : (client parent segment host more : List ℕ) → IsHost host → length segment ≤ max_body → IsReadBack (Some client) → IsReadBack (Some parent) → IsRequestAnswer (request_text (Add client parent segment) host ++ more) (Ok (Add client parent segment))
add_back client parent segment host more h few ce pe =
    let long = uuid_long parent in
    let target = add_path ++ uuid_text parent in
    subst (λ bytes. IsRequestAnswer bytes (Ok (Add client parent segment))) (sym (append_assoc (post_head target segment_type client host (length segment)) segment more))
    (post_answer target segment_type client host (length segment) (segment ++ more) (Ok (Add client parent segment)) h (on_path add_path parent refl) (omega arith) (omega (arith, long)) (visible segment_type refl) (omega arith) few
    (post_after target segment_type (at.Add parent) client host segment more refl refl (ap (posted_at target) pe) ce few))

store_back : (client version snapshot host more : List ℕ) → IsHost host → length snapshot ≤ max_body → IsReadBack (Some client) → IsReadBack (Some version) → IsRequestAnswer (request_text (AddSnapshot client version snapshot) host ++ more) (Ok (AddSnapshot client version snapshot))
store_back client version snapshot host more h few ce ve =
    let long = uuid_long version in
    let target = store_path ++ uuid_text version in
    subst (λ bytes. IsRequestAnswer bytes (Ok (AddSnapshot client version snapshot))) (sym (append_assoc (post_head target snapshot_type client host (length snapshot)) snapshot more))
    (post_answer target snapshot_type client host (length snapshot) (snapshot ++ more) (Ok (AddSnapshot client version snapshot)) h (on_path store_path version refl) (omega arith) (omega (arith, long)) (visible snapshot_type refl) (omega arith) few
    (post_after target snapshot_type (at.Store version) client host snapshot more refl refl (ap (λ o. option_map at.Store o) ve) ce few))

-- what was written is read as it, whatever follows
pub request_back : (request : Request) (host more : List ℕ) → IsHost host → length (request_body request) ≤ max_body → IsReadBack (Some (client_of request)) → IsReadBack (asked_uuid request) → IsRequestAnswer (request_text request host ++ more) (Ok request)
request_back (Add client parent segment) host more h few ce ue = add_back client parent segment host more h few ce ue
request_back (Child client parent) host more h few ce ue = child_back client parent host more h ce ue
request_back (AddSnapshot client version snapshot) host more h few ce ue = store_back client version snapshot host more h few ce ue
request_back (Snapshot client) host more h few ce ue = snapshot_back client host more h ce
