-- What bytes are read as, if a response is awaited. The answer is determined, and each refusal comes in this order.
use Rattle.std.specs.Prelude.{◌≡◌, ◌⊎◌, ℕ, suc, ◌<◌, ◌≤◌, ◌==◌, ◌&&◌, ◌||◌, Bool, true, false, IsTrue, if◌then◌else◌}
use Rattle.std.specs.Prelude.{List, [], ◌∷◌, ◌++◌, codes, length, take, drop, map, bytes_eq, Option, Some, None, Result, Ok, Err}
use Rattle.httparse.specs.Grammar.{ResponseHead, ReadsResponse, status_code}
use Rattle.httparse.specs.Spans.{name_and_value}
use Rattle.tw_http.specs.declared.message.Asked.{Asked}
use Rattle.tw_http.specs.declared.message.Asked.TheVariants as asked
use Rattle.tw_http.specs.declared.message.Response.{Response}
use Rattle.tw_http.specs.declared.message.Response.TheVariants as answer
use Rattle.tw_http.specs.declared.response_reader.Kind.{Kind}
use Rattle.tw_http.specs.declared.response_reader.Kind.TheVariants as kinds
use Rattle.tw_http.specs.declared.message.HttpError.{HttpError}
use Rattle.tw_http.specs.declared.message.HttpError.TheVariants.{Head, Status}
use Rattle.tw_http.specs.Messages.{max_head, max_lines, max_body, response_body}
use Rattle.tw_http.specs.Heads.{◌>>=◌, head_len, no_head}
use Rattle.tw_http.specs.Fields.{Fields, same_name, uuid_field}
use Rattle.tw_http.specs.Bodies.{body_len, body_of}

-- the statuses that any request may get
abbrev pub refused : ℕ → Result Kind HttpError
refused status =
    if status == 400 then Ok kinds.Bad
    else if status == 413 then Ok kinds.TooLong
    else if status == 500 then Ok kinds.Taken
    else Err (Status status)

-- a field that asks for a snapshot
abbrev pub is_urgent : List ℕ × List ℕ → Bool
is_urgent f = same_name f.0 (codes "X-Snapshot-Request") && (bytes_eq f.1 (codes "urgency=high") || bytes_eq f.1 (codes "urgency=low"))

-- how many of the fields ask for a snapshot
abbrev pub urgent : Fields → ℕ
urgent [] = 0
urgent (f ∷ fs) = if is_urgent f then suc (urgent fs) else urgent fs

abbrev pub wanted_in : Fields → Bool
wanted_in fs = urgent fs == 1

abbrev pub added_in : Fields → Result Kind HttpError
added_in fs = uuid_field (codes "X-Version-Id") fs >>= λ id. Ok (kinds.Added id (wanted_in fs))

abbrev pub conflict_in : Fields → Result Kind HttpError
conflict_in fs = uuid_field (codes "X-Parent-Version-Id") fs >>= λ latest. Ok (kinds.Conflict latest)

abbrev pub child_in : Fields → Result Kind HttpError
child_in fs = do
  id ← uuid_field (codes "X-Version-Id") fs
  parent ← uuid_field (codes "X-Parent-Version-Id") fs
  Ok (kinds.Child id parent)

abbrev pub snapshot_in : Fields → Result Kind HttpError
snapshot_in fs = uuid_field (codes "X-Version-Id") fs >>= λ version. Ok (kinds.Snapshot version)

-- the response of a status and its fields to what was asked, without its body
abbrev pub kind_in : Asked → ℕ → Fields → Result Kind HttpError
kind_in asked.Add status fs = if status == 200 then added_in fs else if status == 409 then conflict_in fs else refused status
kind_in asked.Child status fs =
    if status == 200 then child_in fs
    else if status == 404 then Ok kinds.UpToDate
    else if status == 410 then Ok kinds.Gone
    else refused status
kind_in asked.AddSnapshot status fs = if status == 200 then Ok kinds.Stored else refused status
kind_in asked.Snapshot status fs = if status == 200 then snapshot_in fs else if status == 404 then Ok kinds.UpToDate else refused status

abbrev pub response_made : Kind → List ℕ → Response
response_made (kinds.Added id wanted) body = answer.Added id wanted
response_made (kinds.Conflict latest) body = answer.Conflict latest
response_made (kinds.Child id parent) body = answer.Child id parent body
response_made kinds.UpToDate body = answer.UpToDate
response_made kinds.Gone body = answer.Gone
response_made kinds.Bad body = answer.Bad
response_made kinds.TooLong body = answer.TooLong
response_made kinds.Taken body = answer.Taken
response_made kinds.Stored body = answer.Stored
response_made (kinds.Snapshot version) body = answer.Snapshot version body

-- the response of a head and what follows it, or the first refusal
unfoldable pub response_after : Asked → ℕ → Fields → List ℕ → Result Response HttpError
response_after what status fs rest = do
  kind ← kind_in what status fs
  n ← body_len true fs
  body ← body_of n rest
  Ok (response_made kind body)

-- the response of a head that was read and what follows it
abbrev pub response_of_head : Asked → ResponseHead → List ℕ → Result Response HttpError
response_of_head what h rest = response_after what (status_code h) (map name_and_value h.fields) rest

-- the responses that may come to a request
abbrev pub answers : Asked → Response → Bool
answers asked.Add (answer.Added id wanted) = true
answers asked.Add (answer.Conflict latest) = true
answers asked.Add (answer.Child id parent segment) = false
answers asked.Add answer.UpToDate = false
answers asked.Add answer.Gone = false
answers asked.Add answer.Bad = true
answers asked.Add answer.TooLong = true
answers asked.Add answer.Taken = true
answers asked.Add answer.Stored = false
answers asked.Add (answer.Snapshot version bytes) = false
answers asked.Child (answer.Added id wanted) = false
answers asked.Child (answer.Conflict latest) = false
answers asked.Child (answer.Child id parent segment) = true
answers asked.Child answer.UpToDate = true
answers asked.Child answer.Gone = true
answers asked.Child answer.Bad = true
answers asked.Child answer.TooLong = true
answers asked.Child answer.Taken = true
answers asked.Child answer.Stored = false
answers asked.Child (answer.Snapshot version bytes) = false
answers asked.AddSnapshot (answer.Added id wanted) = false
answers asked.AddSnapshot (answer.Conflict latest) = false
answers asked.AddSnapshot (answer.Child id parent segment) = false
answers asked.AddSnapshot answer.UpToDate = false
answers asked.AddSnapshot answer.Gone = false
answers asked.AddSnapshot answer.Bad = true
answers asked.AddSnapshot answer.TooLong = true
answers asked.AddSnapshot answer.Taken = true
answers asked.AddSnapshot answer.Stored = true
answers asked.AddSnapshot (answer.Snapshot version bytes) = false
answers asked.Snapshot (answer.Added id wanted) = false
answers asked.Snapshot (answer.Conflict latest) = false
answers asked.Snapshot (answer.Child id parent segment) = false
answers asked.Snapshot answer.UpToDate = true
answers asked.Snapshot answer.Gone = false
answers asked.Snapshot answer.Bad = true
answers asked.Snapshot answer.TooLong = true
answers asked.Snapshot answer.Taken = true
answers asked.Snapshot answer.Stored = false
answers asked.Snapshot (answer.Snapshot version bytes) = true

abbrev pub IsResponseHeadAnswer : Asked → List ℕ → List ℕ → Result Response HttpError → Type 0
IsResponseHeadAnswer what front rest r =
    ((h : ResponseHead) × ReadsResponse front h [] × (length h.fields ≤ max_lines) × (r ≡ response_of_head what h rest))
    ⊎ (((h : ResponseHead) → ReadsResponse front h [] → max_lines < length h.fields) × (r ≡ Err Head))

abbrev pub IsResponseAnswerAt : Asked → Option ℕ → List ℕ → Result Response HttpError → Type 0
IsResponseAnswerAt what None bytes r = r ≡ Err (no_head bytes)
IsResponseAnswerAt what (Some n) bytes r = IsResponseHeadAnswer what (take n bytes) (drop n bytes) r

abbrev pub IsResponseAnswer : Asked → List ℕ → Result Response HttpError → Type 0
IsResponseAnswer what bytes r = IsResponseAnswerAt what (head_len (take max_head bytes)) bytes r

-- a text is read as a response to what it answers, whatever follows the text, if the body fits
abbrev pub IsReadAs : Response → List ℕ → Type 0
IsReadAs response text = (what : Asked) (more : List ℕ) → IsTrue (answers what response) → length (response_body response) ≤ max_body
    → IsResponseAnswer what (text ++ more) (Ok response)
