-- What bytes are read as, if a request is awaited. The answer is determined, and each refusal comes in this order.
use Rattle.std.specs.Prelude.{◌≡◌, ◌⊎◌, ℕ, ◌-◌, ◌<◌, ◌≤◌, nat_eq, Bool, true, false, not, if◌then◌else◌}
use Rattle.std.specs.Prelude.{List, [], codes, length, take, drop, map, bytes_eq, Option, Some, None, option_map, Result, Ok, Err}
use Rattle.std.specs.List.{starts_with, take_while, suffix_len}
use Rattle.std.specs.Char.{is_ascii_whitespace}
use Rattle.httparse.specs.Grammar.{RequestHead, ReadsRequest}
use Rattle.httparse.specs.Spans.{name_and_value}
use Rattle.tw_http.specs.declared.message.Request.{Request}
use Rattle.tw_http.specs.declared.message.Request.TheVariants.{Add, Child, AddSnapshot, Snapshot}
use Rattle.tw_http.specs.declared.request_reader.Target.{Target}
use Rattle.tw_http.specs.declared.request_reader.Target.TheVariants as at
use Rattle.tw_http.specs.declared.message.HttpError.{HttpError}
use Rattle.tw_http.specs.declared.message.HttpError.TheVariants.{Head, Path, Header}
use Rattle.tw_http.specs.Messages.{max_head, max_lines, segment_type, snapshot_type, add_path, child_path, store_path, fetch_path}
use Rattle.tw_http.specs.Heads.{◌>>=◌, or_err, head_len, no_head}
use Rattle.tw_http.specs.Fields.{Fields, same_name, values_of, only, parsed_only, uuid_field}
use Rattle.tw_http.specs.Bodies.{body_len, body_of}

-- what follows a prefix
abbrev pub after_prefix : List ℕ → List ℕ → Option (List ℕ)
after_prefix prefix text = if starts_with nat_eq text prefix then Some (drop (length prefix) text) else None

abbrev pub uuid_after : List ℕ → List ℕ → Option (List ℕ)
uuid_after prefix target = parsed_only (after_prefix prefix target)

-- what a POST asks: of the uuid after the one path, or after the other
abbrev pub posted_at : List ℕ → Option (List ℕ) → Option Target
posted_at target (Some parent) = Some (at.Add parent)
posted_at target None = option_map at.Store (uuid_after store_path target)

abbrev pub posted : List ℕ → Option Target
posted target = posted_at target (uuid_after add_path target)

-- what a GET asks: of the uuid after the path, or of the client alone
abbrev pub fetched_at : List ℕ → Option (List ℕ) → Option Target
fetched_at target (Some parent) = Some (at.Child parent)
fetched_at target None = if bytes_eq target fetch_path then Some at.Fetch else None

abbrev pub fetched : List ℕ → Option Target
fetched target = fetched_at target (uuid_after child_path target)

-- what a method and a target ask
abbrev pub asked_of : List ℕ → List ℕ → Option Target
asked_of method target = if bytes_eq method (codes "POST") then posted target else if bytes_eq method (codes "GET") then fetched target else None

-- the type of the body of what is asked
abbrev pub content_type : Target → Option (List ℕ)
content_type (at.Add parent) = Some segment_type
content_type (at.Child parent) = None
content_type (at.Store version) = Some snapshot_type
content_type at.Fetch = None

abbrev pub has_body : Target → Bool
has_body (at.Add parent) = true
has_body (at.Child parent) = false
has_body (at.Store version) = true
has_body at.Fetch = false

-- parameters begin at a semicolon
abbrev pub is_before_parameters : ℕ → Bool
is_before_parameters c = not (nat_eq c 59)

abbrev pub trimmed_end : List ℕ → List ℕ
trimmed_end text = take (length text - suffix_len is_ascii_whitespace text) text

-- a media type, without its parameters and the blanks before them
abbrev pub media_type : List ℕ → List ℕ
media_type value = trimmed_end (take_while is_before_parameters value)

-- media types are the same in any case, whatever their parameters (RFC 9110, section 8.3.1)
abbrev pub is_type : List ℕ → Option (List ℕ) → Bool
is_type needed None = false
is_type needed (Some v) = same_name (media_type v) needed

-- a request with a body has the one type
abbrev pub typed_as : Option (List ℕ) → Fields → Result (Unit {0}) HttpError
typed_as None fs = Ok tt
typed_as (Some needed) fs = if is_type needed (only (values_of (codes "Content-Type") fs)) then Ok tt else Err Header

abbrev pub request_made : Target → List ℕ → List ℕ → Request
request_made (at.Add parent) client body = Add client parent body
request_made (at.Child parent) client body = Child client parent
request_made (at.Store version) client body = AddSnapshot client version body
request_made at.Fetch client body = Snapshot client

-- the request of a head and what follows it, or the first refusal
unfoldable pub request_after : List ℕ → List ℕ → Fields → List ℕ → Result Request HttpError
request_after method target fs rest = do
  asked ← or_err Path (asked_of method target)
  client ← uuid_field (codes "X-Client-Id") fs
  typed ← typed_as (content_type asked) fs
  n ← body_len (has_body asked) fs
  body ← body_of n rest
  Ok (request_made asked client body)

-- the front is one request head of few lines, and what follows it gives the answer; or it is none
abbrev pub IsRequestHeadAnswer : List ℕ → List ℕ → Result Request HttpError → Type 0
IsRequestHeadAnswer front rest r =
    ((h : RequestHead) × ReadsRequest front h [] × (length h.fields ≤ max_lines) × (r ≡ request_after h.method h.target (map name_and_value h.fields) rest))
    ⊎ (((h : RequestHead) → ReadsRequest front h [] → max_lines < length h.fields) × (r ≡ Err Head))

abbrev pub IsRequestAnswerAt : Option ℕ → List ℕ → Result Request HttpError → Type 0
IsRequestAnswerAt None bytes r = r ≡ Err (no_head bytes)
IsRequestAnswerAt (Some n) bytes r = IsRequestHeadAnswer (take n bytes) (drop n bytes) r

-- the reader's answer to bytes
abbrev pub IsRequestAnswer : List ℕ → Result Request HttpError → Type 0
IsRequestAnswer bytes r = IsRequestAnswerAt (head_len (take max_head bytes)) bytes r
