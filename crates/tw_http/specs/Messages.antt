-- The texts of requests and responses.
use Rattle.std.specs.Prelude.{◌≡◌, ℕ, ◌≤◌, ◌&&◌, nat_le, Bool, true, false, IsTrue, Option, Some, None, unwrap_or}
use Rattle.std.specs.Prelude.{List, [], ◌∷◌, ◌++◌, codes, length, decimal, All}
use Rattle.http.specs.StatusCode.{reason_phrase, code_digits}
use Rattle.uuid.specs.Text.{hyphenated_text, lower, parsed_hyphenated}
use Rattle.tw_http.specs.declared.message.Request.{Request}
use Rattle.tw_http.specs.declared.message.Request.TheVariants.{Add, Child, AddSnapshot, Snapshot}
use Rattle.tw_http.specs.declared.message.Response.{Response}
use Rattle.tw_http.specs.declared.message.Response.TheVariants as answer

-- the most bytes of a head, the most header lines, the most bytes of a body
abbrev pub max_head : ℕ
max_head = 16_384

abbrev pub max_lines : ℕ
max_lines = 64

abbrev pub max_body : ℕ
max_body = 16_777_216

abbrev pub crlf : List ℕ
crlf = 13 ∷ 10 ∷ []

abbrev pub line : List ℕ → List ℕ
line text = text ++ crlf

abbrev pub uuid_text : List ℕ → List ℕ
uuid_text uuid = hyphenated_text lower uuid

abbrev pub segment_type : List ℕ
segment_type = codes "application/vnd.taskchampion.history-segment"

abbrev pub add_path : List ℕ
add_path = codes "/v1/client/add-version/"

abbrev pub child_path : List ℕ
child_path = codes "/v1/client/get-child-version/"

abbrev pub store_path : List ℕ
store_path = codes "/v1/client/add-snapshot/"

abbrev pub fetch_path : List ℕ
fetch_path = codes "/v1/client/snapshot"

abbrev pub snapshot_type : List ℕ
snapshot_type = codes "application/vnd.taskchampion.snapshot"

-- the lines after the first of a request without a body
unfoldable pub get_lines : (client host : List ℕ) → List ℕ
get_lines client host =
    line (codes "Host: " ++ host)
    ++ (line (codes "X-Client-Id: " ++ uuid_text client)
    ++ (line (codes "Connection: close")
    ++ crlf))

-- the head of a request without a body, with the empty line that ends it
abbrev pub get_head : (target client host : List ℕ) → List ℕ
get_head target client host = line (codes "GET " ++ target ++ codes " HTTP/1.1") ++ get_lines client host

-- the head of a request with a body of this type and so many bytes
unfoldable pub post_head : (target type client host : List ℕ) → ℕ → List ℕ
post_head target type client host n =
    line (codes "POST " ++ target ++ codes " HTTP/1.1")
    ++ (line (codes "Host: " ++ host)
    ++ (line (codes "X-Client-Id: " ++ uuid_text client)
    ++ (line (codes "Content-Type: " ++ type)
    ++ (line (codes "Content-Length: " ++ decimal n)
    ++ (line (codes "Connection: close")
    ++ crlf)))))

abbrev pub request_head : Request → List ℕ → List ℕ
request_head (Add client parent segment) host = post_head (add_path ++ uuid_text parent) segment_type client host (length segment)
request_head (Child client parent) host = get_head (child_path ++ uuid_text parent) client host
request_head (AddSnapshot client version snapshot) host = post_head (store_path ++ uuid_text version) snapshot_type client host (length snapshot)
request_head (Snapshot client) host = get_head fetch_path client host

abbrev pub request_body : Request → List ℕ
request_body (Add client parent segment) = segment
request_body (Child client parent) = []
request_body (AddSnapshot client version snapshot) = snapshot
request_body (Snapshot client) = []

-- the uuid in its target
abbrev pub asked_uuid : Request → Option (List ℕ)
asked_uuid (Add client parent segment) = Some parent
asked_uuid (Child client parent) = Some parent
asked_uuid (AddSnapshot client version snapshot) = Some version
asked_uuid (Snapshot client) = None

abbrev pub request_text : Request → List ℕ → List ℕ
request_text request host = request_head request host ++ request_body request

-- a character from `!` to `~` (RFC 5234, VCHAR)
abbrev pub is_visible_byte : ℕ → Bool
is_visible_byte b = nat_le 33 b && nat_le b 126

-- 1 to 300 of them
pub record IsHost (host : List ℕ) : Type 0 where
  pub some : 1 ≤ length host
  pub few : length host ≤ 300
  pub plain : All (λ b. IsTrue (is_visible_byte b)) host

-- ---- responses

abbrev pub status_of : Response → ℕ
status_of (answer.Added id wanted) = 200
status_of (answer.Conflict latest) = 409
status_of (answer.Child id parent segment) = 200
status_of answer.UpToDate = 404
status_of answer.Gone = 410
status_of answer.Bad = 400
status_of answer.TooLong = 413
status_of answer.Taken = 500
status_of answer.Stored = 200
status_of (answer.Snapshot version bytes) = 200

-- the status and its phrase
abbrev pub status_line : ℕ → List ℕ
status_line status = line (codes "HTTP/1.1 " ++ code_digits status ++ 32 ∷ unwrap_or (reason_phrase status) [])

-- what a response brings besides its status: its type with the bytes, two uuids, and whether a snapshot is wanted
pub record Parts : Type 0 where
  pub content : Option (List ℕ × List ℕ)
  pub id : Option (List ℕ)
  pub parent : Option (List ℕ)
  pub wanted : Bool

abbrev pub no_parts : Parts
no_parts = record { content = None; id = None; parent = None; wanted = false }

abbrev pub parts_of : Response → Parts
parts_of (answer.Added id wanted) = record { content = None; id = Some id; parent = None; wanted = wanted }
parts_of (answer.Conflict latest) = record { content = None; id = None; parent = Some latest; wanted = false }
parts_of (answer.Child id parent segment) = record { content = Some (segment_type, segment); id = Some id; parent = Some parent; wanted = false }
parts_of answer.UpToDate = no_parts
parts_of answer.Gone = no_parts
parts_of answer.Bad = no_parts
parts_of answer.TooLong = no_parts
parts_of answer.Taken = no_parts
parts_of answer.Stored = no_parts
parts_of (answer.Snapshot version bytes) = record { content = Some (snapshot_type, bytes); id = Some version; parent = None; wanted = false }

abbrev pub content_of : Response → Option (List ℕ × List ℕ)
content_of response = (parts_of response).content

abbrev pub id_of : Response → Option (List ℕ)
id_of response = (parts_of response).id

abbrev pub parent_of : Response → Option (List ℕ)
parent_of response = (parts_of response).parent

abbrev pub is_wanted : Response → Bool
is_wanted response = (parts_of response).wanted

-- the lines that only some responses have
abbrev pub type_line : Option (List ℕ × List ℕ) → List ℕ
type_line None = []
type_line (Some content) = line (codes "Content-Type: " ++ content.0)

abbrev pub bytes_in : Option (List ℕ × List ℕ) → List ℕ
bytes_in None = []
bytes_in (Some content) = content.1

abbrev pub uuid_line : List ℕ → Option (List ℕ) → List ℕ
uuid_line name None = []
uuid_line name (Some uuid) = line (name ++ uuid_text uuid)

abbrev pub wanted_line : Bool → List ℕ
wanted_line true = line (codes "X-Snapshot-Request: urgency=high")
wanted_line false = []

-- the head of a response, with the empty line that ends it
unfoldable pub head_of_parts : ℕ → Option (List ℕ × List ℕ) → Option (List ℕ) → Option (List ℕ) → Bool → List ℕ
head_of_parts status content id parent wanted =
    status_line status
    ++ (type_line content
    ++ (line (codes "Content-Length: " ++ decimal (length (bytes_in content)))
    ++ (uuid_line (codes "X-Version-Id: ") id
    ++ (uuid_line (codes "X-Parent-Version-Id: ") parent
    ++ (wanted_line wanted
    ++ (line (codes "Connection: close")
    ++ crlf))))))

-- the text of a response with these parts
abbrev pub text_of_parts : ℕ → Option (List ℕ × List ℕ) → Option (List ℕ) → Option (List ℕ) → Bool → List ℕ
text_of_parts status content id parent wanted = head_of_parts status content id parent wanted ++ bytes_in content

abbrev pub response_body : Response → List ℕ
response_body response = bytes_in (content_of response)

abbrev pub response_text : Response → List ℕ
response_text response = text_of_parts (status_of response) (content_of response) (id_of response) (parent_of response) (is_wanted response)

-- the text of a uuid reads as that uuid
abbrev pub IsReadBack : Option (List ℕ) → Type 0
IsReadBack None = Unit {0}
IsReadBack (Some uuid) = parsed_hyphenated (uuid_text uuid) ≡ Some uuid
