-- What a snapshot is: the JSON value of tasks, and the tasks of a JSON value (the TaskChampion book, "Snapshots").
use Rattle.std.specs.Prelude.{ℕ, cond, ◌&&◌, nat_le, List, [], ◌∷◌, length, Option, Some, None, option_and_then, is_none}
use Rattle.std.specs.Str.{is_utf8}
use Rattle.std.specs.FinMap.{entries, get, insert, empty}
use Rattle.uuid.specs.Text.{parsed_hyphenated, hyphenated_text, lower}
use Rattle.json.specs.Json.{Json, null, boolean, number, string, array, object, Members, no_members, member, document}
use Rattle.json.specs.Tree.{json_tokens}
use Rattle.json.specs.Print.{print}
use Rattle.tw_model.specs.Ops.{TaskValue, TasksValue}

-- the most bytes of a snapshot
abbrev pub max_len : ℕ
max_len = 16_777_216

-- ---- as it is written

-- the members of a task's object: its properties in byte order
abbrev pub property_members : List (List ℕ × List ℕ) → Members
property_members [] = no_members
property_members (e ∷ es) = member e.0 (string e.1) (property_members es)

-- the members of the whole: the uuids in byte order, with hyphens and in lower case
abbrev pub task_members : List (List ℕ × TaskValue) → Members
task_members [] = no_members
task_members (e ∷ es) = member (hyphenated_text lower e.0) (object (property_members (entries e.1))) (task_members es)

-- the JSON value of tasks
abbrev pub snapshot_json : TasksValue → Json
snapshot_json tasks = object (task_members (entries tasks))

-- the one text of tasks, without spaces
abbrev pub snapshot_text : TasksValue → List ℕ
snapshot_text tasks = print (json_tokens (snapshot_json tasks))

-- that text, if it is within the limit
abbrev pub text_within : TasksValue → Option (List ℕ)
text_within tasks = cond (nat_le (length (snapshot_text tasks)) max_len) (Some (snapshot_text tasks)) None

-- ---- as it is read

infixl 10 ◌>>=◌
abbrev pub ◌>>=◌ : {A B : Type 0} → Option A → (A → Option B) → Option B
o >>= f = option_and_then f o

-- a value with members put into it one after another, if each can be
abbrev pub put_members : {A : Type 0} → (A → List ℕ → Json → Option A) → A → Members → Option A
put_members put a no_members = Some a
put_members put a (member k j ms) = put a k j >>= (λ b. put_members put b ms)

-- a property is a text. Of those with one name the last counts
abbrev pub put_property : TaskValue → List ℕ → Json → Option TaskValue
put_property task k null = None
put_property task k (boolean b) = None
put_property task k (number n) = None
put_property task k (string s) = Some (insert task k s)
put_property task k (array js) = None
put_property task k (object ms) = None

-- the task of a uuid that has none yet
abbrev pub put_new : TasksValue → List ℕ → TaskValue → Option TasksValue
put_new tasks u task = cond (is_none (get tasks u)) (Some (insert tasks u task)) None

-- a task is an object of properties under a hyphenated uuid, in either case
abbrev pub put_task : TasksValue → List ℕ → Json → Option TasksValue
put_task tasks k null = None
put_task tasks k (boolean b) = None
put_task tasks k (number n) = None
put_task tasks k (string s) = None
put_task tasks k (array js) = None
put_task tasks k (object ms) = do
  u ← parsed_hyphenated k
  task ← put_members put_property empty ms
  put_new tasks u task

-- the tasks of a JSON value
abbrev pub tasks_of : Json → Option TasksValue
tasks_of null = None
tasks_of (boolean b) = None
tasks_of (number n) = None
tasks_of (string s) = None
tasks_of (array js) = None
tasks_of (object ms) = put_members put_task empty ms

-- the tasks of bytes: of a JSON text (RFC 8259) within the limit
abbrev pub snapshot_of : List ℕ → Option TasksValue
snapshot_of bytes = cond (nat_le (length bytes) max_len && is_utf8 bytes) (document bytes >>= tasks_of) None
