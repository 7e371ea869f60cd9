-- What a step of the reading takes from the tokens.
use Rattle.std.specs.Prelude.{ℕ, List, [], ◌∷◌, length, Option, Some, None, option_map, option_and_then}
use Rattle.std.specs.FinMap.{empty}
use Rattle.json.specs.Token.{Token}
use Rattle.json.specs.Json.{value, members}
use Rattle.tw_model.specs.Ops.{TaskValue, TasksValue}
use Rattle.tw_snapshot.specs.Snapshot.{put_members, put_property, put_task}

-- what is read, made into something else if it can be
abbrev pub converted : {A B : Type 0} → (A → Option B) → Option (A × List Token) → Option (B × List Token)
converted f o = option_and_then (λ p. option_map (λ b. (b, p.1)) (f p.0)) o

-- what was read, and the tokens after it
abbrev pub with_rest : {A : Type 0} → List Token → Option A → Option (A × List Token)
with_rest rest o = option_map (λ a. (a, rest)) o

-- the tokens after the brace that opens an object, if one is there
abbrev pub opened : List Token → Option (List Token)
opened [] = None
opened (Token.begin_object ∷ ts) = Some ts
opened (Token.end_object ∷ ts) = None
opened (Token.begin_array ∷ ts) = None
opened (Token.end_array ∷ ts) = None
opened (Token.key s ∷ ts) = None
opened (Token.string s ∷ ts) = None
opened (Token.number s ∷ ts) = None
opened (Token.boolean b ∷ ts) = None
opened (Token.null ∷ ts) = None
opened (Token.bad ∷ ts) = None

-- a text, and the tokens after it, if one is there
abbrev pub text_at : List Token → Option (List ℕ × List Token)
text_at [] = None
text_at (Token.begin_object ∷ ts) = None
text_at (Token.end_object ∷ ts) = None
text_at (Token.begin_array ∷ ts) = None
text_at (Token.end_array ∷ ts) = None
text_at (Token.key s ∷ ts) = None
text_at (Token.string s ∷ ts) = Some (s, ts)
text_at (Token.number s ∷ ts) = None
text_at (Token.boolean b ∷ ts) = None
text_at (Token.null ∷ ts) = None
text_at (Token.bad ∷ ts) = None

-- a value at the front, put into a task or into tasks. What nests too deep for a grammar of 128 is no task
abbrev pub property_at : TaskValue → List ℕ → List Token → Option (TaskValue × List Token)
property_at task k ts = converted (put_property task k) (value 126 ts)

abbrev pub task_at : TasksValue → List ℕ → List Token → Option (TasksValue × List Token)
task_at tasks k ts = converted (put_task tasks k) (value 127 ts)

-- the members up to the brace that closes an object, put into a task or into tasks
abbrev pub properties_at : List Token → Option (TaskValue × List Token)
properties_at ts = converted (put_members put_property empty) (members (value 126) (length ts) ts)

abbrev pub tasks_at : List Token → Option (TasksValue × List Token)
tasks_at ts = converted (put_members put_task empty) (members (value 127) (length ts) ts)
