-- What the members of a task and of the whole lead to.
use Rattle.std.proofs.Common.{◌≡◌, ℕ, Bool, true, false, cond, List, [], ◌∷◌, length, Option, Some, None, option_map, option_and_then, is_none, Result, Ok, Err, IfOk, OnOk, refl, sym, ap, ◌∙◌, arith}
use Rattle.std.specs.FinMap.{get, insert, empty}
use Rattle.uuid.specs.Text.{parsed_hyphenated}
use Rattle.json.specs.Token.{Token}
use Rattle.json.specs.Json.{Json, null, boolean, number, string, array, object, Members, members, value, parse_map, if_last, document, max_depth}
use Rattle.json.specs.Lex.{tokens}
use Rattle.tw_model.specs.Ops.{TaskValue, TasksValue}
use Rattle.tw_model.specs.Maps.{set_if_none}
use Rattle.tw_snapshot.specs.Snapshot.{put_members, put_property, put_new, put_task, tasks_of}
use Rattle.tw_snapshot.specs.Reading.{converted, opened, property_at, task_at, properties_at, tasks_at, text_at}
use Rattle.tw_snapshot.proofs.Loops.{converted_some}
use Rattle.tw_snapshot.proofs.Fronts.{is_object, converted-none, converted-object, not_opened, no_text, value-opened, value-text, property_is_text, task_is_object}

-- ---- a property

pub property_read : (m : TaskValue) (k s : List ℕ) (ts r : List Token) → text_at ts ≡ Some (s, r) → property_at m k ts ≡ Some (insert m k s, r)
property_read m k s ts r e = ap (converted (put_property m k)) (value-text 126 ts r s e)

pub property_not_read : (m : TaskValue) (k : List ℕ) (ts : List Token) → text_at ts ≡ None → property_at m k ts ≡ None
property_not_read m k ts e = no_text (put_property m k) (property_is_text m k) 126 ts e

-- ---- a task

-- the task of a uuid that has none, and the tokens after it
abbrev put_behind : TasksValue → List ℕ → Option (TaskValue × List Token) → Option (TasksValue × List Token)
put_behind t u o = option_and_then (λ p. option_map (λ x. (x, p.1)) (put_new t u p.0)) o

put_parsed : (t : TasksValue) (u : List ℕ) (r : List Token) (x : Option TaskValue) → option_map {U = TasksValue × List Token} (λ y. (y, r)) (option_and_then (λ task. put_new t u task) x) ≡ put_behind t u (option_map (λ task. (task, r)) x)
put_parsed t u r None = refl
put_parsed t u r (Some task) = refl

put_inside : (t : TasksValue) (k u : List ℕ) → parsed_hyphenated k ≡ Some u → (o : Option (Members × List Token)) → converted (λ ms. put_task t k (object ms)) o ≡ put_behind t u (converted (put_members put_property empty) o)
put_inside t k u e None = refl
put_inside t k u e (Some p) =
    ap (λ x. option_map (λ y. (y, p.1)) (option_and_then (λ v. option_and_then (λ task. put_new t v task) (put_members put_property empty p.0)) x)) e
    ∙ put_parsed t u p.1 (put_members put_property empty p.0)

pub task_read : (t : TasksValue) (k u : List ℕ) (ts r : List Token) → parsed_hyphenated k ≡ Some u → opened ts ≡ Some r → task_at t k ts ≡ put_behind t u (properties_at r)
task_read t k u ts r e o =
    ap (converted (put_task t k)) (value-opened 127 ts r (omega arith) o)
    ∙ converted-object (put_task t k) (members (value 126) (length r) r)
    ∙ put_inside t k u e (members (value 126) (length r) r)

pub no_object_read : (t : TasksValue) (k : List ℕ) (ts : List Token) → opened ts ≡ None → task_at t k ts ≡ None
no_object_read t k ts e = not_opened (put_task t k) (task_is_object t k) 127 ts e

none_put : (t : TasksValue) (k : List ℕ) → parsed_hyphenated k ≡ None → (j : Json) → put_task t k j ≡ None
none_put t k e null = refl
none_put t k e (boolean b) = refl
none_put t k e (number s) = refl
none_put t k e (string s) = refl
none_put t k e (array js) = refl
none_put t k e (object ms) = ap (λ x. option_and_then (λ v. option_and_then (λ task. put_new t v task) (put_members put_property empty ms)) x) e

pub no_uuid_read : (t : TasksValue) (k : List ℕ) (ts : List Token) → parsed_hyphenated k ≡ None → task_at t k ts ≡ None
no_uuid_read t k ts e = converted-none (put_task t k) (none_put t k e) (value 127 ts)

pub no_task_read : (t : TasksValue) (k u : List ℕ) (ts r : List Token) → parsed_hyphenated k ≡ Some u → opened ts ≡ Some r → properties_at r ≡ None → task_at t k ts ≡ None
no_task_read t k u ts r e o none = task_read t k u ts r e o ∙ ap (put_behind t u) none

-- whether the task could be put, and the tasks then
abbrev Puts : TasksValue → List ℕ → TaskValue → List Token → Bool → TasksValue → Type 0
Puts t u m r true new = put_behind t u (Some (m, r)) ≡ Some (new, r)
Puts t u m r false new = put_behind t u (Some (m, r)) ≡ None

puts : (t : TasksValue) (u : List ℕ) (m : TaskValue) (r : List Token) (x : Option TaskValue) (is : Bool) (new : TasksValue) → get t u ≡ x → is ≡ is_none x → new ≡ cond (is_none x) (insert t u m) t → Puts t u m r is new
puts t u m r None true new g e s = ap (λ x. option_map (λ y. (y, r)) (cond (is_none x) (Some (insert t u m)) None)) g ∙ ap (λ y. Some (y, r)) (sym s)
puts t u m r None false new g e s = absurd (cc)
puts t u m r (Some y) true new g e s = absurd (cc)
puts t u m r (Some y) false new g e s = ap (λ x. option_map (λ y. (y, r)) (cond (is_none x) (Some (insert t u m)) None)) g

pub task_put : (t : TasksValue) (k u : List ℕ) (ts s r : List Token) (m : TaskValue) (new : TasksValue) → parsed_hyphenated k ≡ Some u → opened ts ≡ Some s → properties_at s ≡ Some (m, r) → true ≡ is_none (get t u) → new ≡ set_if_none t u m → task_at t k ts ≡ Some (new, r)
task_put t k u ts s r m new e o there fits is = task_read t k u ts s e o ∙ ap (put_behind t u) there ∙ puts t u m r (get t u) true new refl fits is

pub task_twice : (t : TasksValue) (k u : List ℕ) (ts s r : List Token) (m : TaskValue) (new : TasksValue) → parsed_hyphenated k ≡ Some u → opened ts ≡ Some s → properties_at s ≡ Some (m, r) → false ≡ is_none (get t u) → new ≡ set_if_none t u m → task_at t k ts ≡ None
task_twice t k u ts s r m new e o there fits is = task_read t k u ts s e o ∙ ap (put_behind t u) there ∙ puts t u m r (get t u) false new refl fits is

-- from the two clauses of an insertion, if it was answered
pub put_if : {E P Q : Type 0} {x : Bool} (b : Bool) (r : Result Bool E) → IfOk r (λ fitted. fitted ≡ x) → OnOk r P → (b ≡ x → P → Q) → IfOk r (λ is. is ≡ b → Q)
put_if b (Ok is) fits p f = λ e. f (sym e ∙ fits) p
put_if b (Err e) fits p f = tt

-- ---- the whole

abbrev whole : Option (Json × List Token) → Option TasksValue
whole o = option_and_then tasks_of (option_and_then (λ p. if_last p.0 p.1) o)

document-tasks : (o : Option (Members × List Token)) (r : List Token) (t : TasksValue) → converted (put_members put_task empty) o ≡ Some (t, r) → (ms : Members) × (o ≡ Some (ms, r)) × (put_members put_task empty ms ≡ Some t)
document-tasks o r t e = converted_some (put_members put_task empty) o t r e

none_whole : (o : Option (Members × List Token)) → converted (put_members put_task empty) o ≡ None → whole (parse_map object o) ≡ None
none_whole None e = refl
none_whole (Some (ms, [])) e = no_rest (put_members put_task empty ms) e
  where
    no_rest : (x : Option TasksValue) → option_map {U = TasksValue × List Token} (λ y. (y, [])) x ≡ None → x ≡ None
    no_rest None e = refl
    no_rest (Some y) e = absurd (cc)
none_whole (Some (ms, x ∷ r)) e = refl

abbrev inner : List Token → Option (Members × List Token)
inner s = members (value 127) (length s) s

module _ (text : List ℕ) (s : List Token) (begins : opened (tokens text) ≡ Some s) where
  is_whole : option_and_then tasks_of (document text) ≡ whole (parse_map object (inner s))
  is_whole = ap whole (value-opened max_depth (tokens text) s (omega arith) begins)

  pub whole_read : (t : TasksValue) → tasks_at s ≡ Some (t, []) → option_and_then tasks_of (document text) ≡ Some t
  whole_read t e = let ms = document-tasks (inner s) [] t e in is_whole ∙ ap (λ o. whole (parse_map object o)) ms.1 ∙ ms.2

  pub more_read : (t : TasksValue) (x : Token) (r : List Token) → tasks_at s ≡ Some (t, x ∷ r) → option_and_then tasks_of (document text) ≡ None
  more_read t x r e = let ms = document-tasks (inner s) (x ∷ r) t e in is_whole ∙ ap (λ o. whole (parse_map object o)) ms.1

  pub none_read : tasks_at s ≡ None → option_and_then tasks_of (document text) ≡ None
  none_read e = is_whole ∙ none_whole (inner s) e

none_of_others : (j : Json) → is_object j ≡ false → tasks_of j ≡ None
none_of_others null h = refl
none_of_others (boolean b) h = refl
none_of_others (number s) h = refl
none_of_others (string s) h = refl
none_of_others (array js) h = refl
none_of_others (object ms) h = absurd (cc)

none_last : (o : Option (Json × List Token)) → converted tasks_of o ≡ None → whole o ≡ None
none_last None e = refl
none_last (Some (j, [])) e = no_rest (tasks_of j) e
  where
    no_rest : (x : Option TasksValue) → option_map {U = TasksValue × List Token} (λ y. (y, [])) x ≡ None → x ≡ None
    no_rest None e = refl
    no_rest (Some y) e = absurd (cc)
none_last (Some (j, x ∷ r)) e = refl

pub not_begun : (text : List ℕ) → opened (tokens text) ≡ None → option_and_then tasks_of (document text) ≡ None
not_begun text e = none_last (value max_depth (tokens text)) (not_opened tasks_of none_of_others max_depth (tokens text) e)
