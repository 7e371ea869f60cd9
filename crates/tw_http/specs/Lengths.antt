-- How many bytes a response has (RFC 9112, section 6.3).
use Rattle.std.specs.Prelude.{◌≡◌, ◌⊎◌, ◌↔◌, ℕ, ◌+◌, ◌<◌, ◌≤◌, nat_lt, true, if◌then◌else◌}
use Rattle.std.specs.Prelude.{List, [], length, take, map, Option, Some, None, Result, Ok, Err}
use Rattle.httparse.specs.Grammar.{ResponseHead, ReadsResponse}
use Rattle.httparse.specs.Spans.{name_and_value}
use Rattle.tw_http.specs.declared.message.Asked.{Asked}
use Rattle.tw_http.specs.declared.message.Response.{Response}
use Rattle.tw_http.specs.declared.message.HttpError.{HttpError}
use Rattle.tw_http.specs.Messages.{max_head, max_lines, max_body}
use Rattle.tw_http.specs.Heads.{head_len}
use Rattle.tw_http.specs.Bodies.{body_len}
use Rattle.tw_http.specs.Responses.{IsResponseAnswer}

-- how many bytes of a body are read: none of one that is too long
abbrev pub read_of_body : ℕ → ℕ
read_of_body n = if nat_lt max_body n then 0 else n

-- so many bytes, and those of a body whose length is given
abbrev pub with_body : ℕ → Result ℕ HttpError → Option ℕ
with_body head (Ok n) = Some (head + read_of_body n)
with_body head (Err e) = None

-- the length that a head gives
abbrev pub len_of_head : ℕ → ResponseHead → Option ℕ
len_of_head head h = with_body head (body_len true (map name_and_value h.fields))

-- the length of a response by its head; none if it is no head of few lines or gives no length
abbrev pub IsLenByHead : List ℕ → Option ℕ → Type 0
IsLenByHead front r =
    ((h : ResponseHead) × ReadsResponse front h [] × (length h.fields ≤ max_lines) × (r ≡ len_of_head (length front) h))
    ⊎ (((h : ResponseHead) → ReadsResponse front h [] → max_lines < length h.fields) × (r ≡ None))

abbrev pub IsResponseLenAt : Option ℕ → List ℕ → Option ℕ → Type 0
IsResponseLenAt None bytes r = r ≡ None
IsResponseLenAt (Some n) bytes r = IsLenByHead (take n bytes) r

-- the length of the response that bytes begin with, as soon as its head is there
abbrev pub IsResponseLen : List ℕ → Option ℕ → Type 0
IsResponseLen bytes r = IsResponseLenAt (head_len (take max_head bytes)) bytes r

-- The response that these bytes begin has n bytes: all of them are read as the first n are, and fewer than n are read as no response.
pub record ResponseEndsAt (bytes : List ℕ) (n : ℕ) : Type 0 where
  pub len : IsResponseLen bytes (Some n)
  pub whole : n ≤ length bytes → (what : Asked) (r : Result Response HttpError) → IsResponseAnswer what bytes r ↔ IsResponseAnswer what (take n bytes) r
  pub cut : length bytes < n → (what : Asked) (response : Response) → ¬ IsResponseAnswer what bytes (Ok response)
