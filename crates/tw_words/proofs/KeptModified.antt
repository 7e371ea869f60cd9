-- Modification words leave a task its `modified`.
use Rattle.std.proofs.Common.{◌≡◌, ◌∙◌, ap, sym, refl, ℕ, ◌+◌, ◌==◌, Bool, true, false, not, cond, List, [], ◌∷◌, ◌++◌, Option, Some, None, Result, Ok, Err, is_some, codes, filter}
use Rattle.std.specs.Fmt.{decimal}
use Rattle.std.specs.FinMap.{get, keys}
use Rattle.tw_model.specs.Maps.{same_bytes, set_at}
use Rattle.tw_model.specs.Ops.{TaskValue}
use Rattle.tw_model.proofs.Maps.{same_bytes_exact, get-set_at_apart}
use Rattle.tw_time.specs.Moments.{moment}
use Rattle.tw_time.specs.declared.error.DateError.{DateError}
use Rattle.tw_urgency.specs.Dependencies.{dependency_in}
use Rattle.tw_terms.specs.Cuts.{parts}
use Rattle.tw_terms.specs.Scenes.{Scene}
use Rattle.tw_terms.specs.declared.bad_word.WordKind.{WordKind}
use Rattle.tw_words.specs.Lines.{Parts}
use Rattle.tw_words.specs.Modifications.{field_named, takes_out, is_plain, is_add, tag_of, pair_of, word_fault, tally_of, rest_words}
use Rattle.tw_words.specs.Readings.{part_task, set_to, dependency_on, going_on, with_one, with_items, dated, with_value, without_value, with_pair, pair_or_text, tag_or_pair, unless_wrong, with_word}
use Rattle.tw_words.specs.Readings.{with_words, going_on_behind, modifications, or_none, taken}
use Rattle.tw_words.specs.Changed.{Draft, without, modified, modified_by, with_description, made, beginning, applied}
use Rattle.tw_words.specs.declared.changes.modification.Modification.{Modification}
use Rattle.tw_words.specs.declared.changes.modification.Modification.TheVariants.{Word, Description, Property, Independent}
use Rattle.tw_words.specs.declared.changes.field.Field.{Field}
use Rattle.tw_words.specs.declared.changes.field.Field.TheVariants as field
use Rattle.tw_terms.specs.declared.bad_word.BadWord.{BadWord}

abbrev modified_name : List ℕ
modified_name = codes "modified"

-- a task has what another has of a property
abbrev Keeps : (p : List ℕ) → (before after : TaskValue) → Type 0
Keeps p before after = get after p ≡ get before p

-- a modification sets another property
abbrev IsApart : Modification → Type 0
IsApart (Property name value) = same_bytes modified_name name ≡ false
IsApart _ = Unit {0}

abbrev AreApart : List Modification → Type 0
AreApart [] = Unit {0}
AreApart (m ∷ ms) = IsApart m × AreApart ms

abbrev AreApartIn : {E : Type 0} → Result (List Modification) E → Type 0
AreApartIn (Ok ms) = AreApart ms
AreApartIn (Err error) = Unit {0}

one_apart : (ms : List Modification) (m : Modification) → AreApart ms → IsApart m → AreApart (with_one ms m)
one_apart [] m so_far is = (is, tt)
one_apart (x ∷ xs) m so_far is = (so_far.0, one_apart xs m so_far.1 is)

-- ---- modification words

-- no word sets `modified`
no_field : (adding : Bool) → field_named adding modified_name ≡ None
unfolding field_named
no_field adding = refl

no_dependency : dependency_in modified_name ≡ None
unfolding dependency_in
no_dependency = refl

none_some : {X : Type 0} (o : Option X) (x : X) → o ≡ None → o ≡ Some x → ⊥
none_some None x e f = cc
none_some (Some y) x e f = cc

field_apart : (adding : Bool) (name : List ℕ) (f : Field) → field_named adding name ≡ Some f → same_bytes modified_name name ≡ false
field_apart adding name f e = by (same_bytes modified_name name) refl
  where
    by : (b : Bool) → same_bytes modified_name name ≡ b → b ≡ false
    by true same = absurd (none_some (field_named adding name) f (ap (field_named adding) (sym (same_bytes_exact modified_name name same)) ∙ no_field adding) e)
    by false apart = refl

dependency_apart : (name : List ℕ) → is_some (dependency_in name) ≡ true → same_bytes modified_name name ≡ false
dependency_apart name e = by (same_bytes modified_name name) refl
  where
    by : (b : Bool) → same_bytes modified_name name ≡ b → b ≡ false
    by true same = let none : is_some (dependency_in name) ≡ false = ap is_some (ap dependency_in (sym (same_bytes_exact modified_name name same)) ∙ no_dependency) in absurd cc
    by false apart = refl

-- ---- what is read

items_apart : (scene : Scene) (ms : List Modification) (texts : List (List ℕ)) → AreApart ms → AreApartIn (with_items scene ms texts)
items_apart scene ms [] so_far = so_far
items_apart scene ms (text ∷ texts) so_far = by (part_task scene text) (λ t. items_apart scene t texts)
  where
    by : (o : Option (List ℕ)) → ((t : List Modification) → AreApart t → AreApartIn (with_items scene t texts))
        → AreApartIn (going_on o (λ u. with_items scene (with_one ms (set_to (not (takes_out text)) (dependency_on u))) texts))
    by None on = tt
    by (Some u) on =
        on (with_one ms (set_to (not (takes_out text)) (dependency_on u))) (one_apart ms (set_to (not (takes_out text)) (dependency_on u)) so_far refl)

date_apart : (ms : List Modification) (name : List ℕ) (r : Result ℕ DateError) → same_bytes modified_name name ≡ false → AreApart ms → AreApartIn (dated ms name r)
date_apart ms name (Ok at) apart so_far = one_apart ms (Property name (Some (decimal at))) so_far apart
date_apart ms name (Err e) apart so_far = tt

value_apart : (scene : Scene) (ms : List Modification) (f : Field) (name value : List ℕ) → same_bytes modified_name name ≡ false → AreApart ms → AreApartIn (with_value scene ms f name value)
value_apart scene ms field.Description name value apart so_far = one_apart ms (Description value) so_far tt
value_apart scene ms field.Project name value apart so_far = one_apart ms (Property name (Some value)) so_far apart
value_apart scene ms field.Priority name value apart so_far = one_apart ms (Property name (Some value)) so_far apart
value_apart scene ms field.Moment name value apart so_far = date_apart ms name (moment value scene.now scene.tz) apart so_far
value_apart scene ms field.Depends name value apart so_far = items_apart scene ms (parts 44 value) so_far
value_apart scene ms field.Recur name value apart so_far = one_apart ms (Property name (Some value)) so_far apart

gone_apart : (f : Field) (name : List ℕ) → same_bytes modified_name name ≡ false → IsApart (without_value f name)
gone_apart field.Description name apart = apart
gone_apart field.Project name apart = apart
gone_apart field.Priority name apart = apart
gone_apart field.Moment name apart = apart
gone_apart field.Depends name apart = tt
gone_apart field.Recur name apart = apart

field_kept : (scene : Scene) (adding : Bool) (ms : List Modification) (o : Option Field) (name value : List ℕ) → field_named adding name ≡ o → AreApart ms → AreApartIn (with_pair scene ms o name value)
field_kept scene adding ms None name value is so_far = tt
field_kept scene adding ms (Some f) name [] is so_far = one_apart ms (without_value f name) so_far (gone_apart f name (field_apart adding name f is))
field_kept scene adding ms (Some f) name (b ∷ bs) is so_far = value_apart scene ms f name (b ∷ bs) (field_apart adding name f is) so_far

pair_apart : (scene : Scene) (adding : Bool) (ms : List Modification) (word : List ℕ) (o : Option (List ℕ × List ℕ)) → AreApart ms → AreApartIn (pair_or_text scene adding ms word o)
pair_apart scene adding ms word None so_far = one_apart ms (Word word) so_far tt
pair_apart scene adding ms word (Some x) so_far = field_kept scene adding ms (field_named adding x.0) x.0 x.1 refl so_far

tag_apart : (scene : Scene) (adding plain : Bool) (ms : List Modification) (word : List ℕ) (o : Option (Bool × List ℕ)) → AreApart ms → AreApartIn (tag_or_pair scene adding plain ms word o)
tag_apart scene adding plain ms word None so_far = pair_apart scene adding ms word (pair_of plain word) so_far
tag_apart scene adding plain ms word (Some x) so_far = one_apart ms (set_to x.0 (codes "tag_" ++ x.1)) so_far refl

word_apart : (scene : Scene) (adding sole plain : Bool) (ms : List Modification) (word : List ℕ) → AreApart ms → AreApartIn (with_word scene adding sole plain ms word)
word_apart scene adding sole plain ms word so_far = by (word_fault (Some (scene.now, scene.tz)) adding sole plain word)
  where
    by : (o : Option WordKind) → AreApartIn (unless_wrong o (tag_or_pair scene adding plain ms word (tag_of plain word)))
    by None = tag_apart scene adding plain ms word (tag_of plain word) so_far
    by (Some kind) = tt

words_apart : (scene : Scene) (sole : Bool) (line : Parts) (ms : List Modification) (n : ℕ) (words : List (List ℕ)) → AreApart ms → AreApartIn (with_words scene sole line ms n words)
words_apart scene sole line ms n [] so_far = so_far
words_apart scene sole line ms n (word ∷ words) so_far =
    by (with_word scene (is_add line.command) sole (is_plain line n) ms word) (word_apart scene (is_add line.command) sole (is_plain line n) ms word so_far) (λ d. words_apart scene sole line d (n + 1) words)
  where
    by : (r : Result (List Modification) WordKind) → AreApartIn r → ((d : List Modification) → AreApart d → AreApartIn (with_words scene sole line d (n + 1) words))
        → AreApartIn (going_on_behind line n r (λ d. with_words scene sole line d (n + 1) words))
    by (Ok d) is on = on d is
    by (Err kind) is on = tt

read_apart : (r : Result (List Modification) BadWord) → AreApartIn r → AreApart (or_none r)
read_apart (Ok ms) is = is
read_apart (Err b) is = tt

taken_apart : (scene : Scene) (line : Parts) → AreApart (taken scene line)
taken_apart scene line =
    read_apart (modifications scene line) (words_apart scene ((tally_of line).texts == 1) line [] line.rest_from (rest_words line) tt)

-- ---- what is made of it

module _ (first : TaskValue) where
  names_kept : (names : List (List ℕ)) (task : TaskValue) → Keeps modified_name first task → Keeps modified_name first (without (filter (λ name. is_some (dependency_in name)) names) task)
  names_kept [] task so_far = so_far
  names_kept (name ∷ names) task so_far = by (is_some (dependency_in name)) refl (λ t. names_kept names t)
    where
      by : (b : Bool) → is_some (dependency_in name) ≡ b → ((t : TaskValue) → Keeps modified_name first t → Keeps modified_name first (without (filter (λ name. is_some (dependency_in name)) names) t))
          → Keeps modified_name first (without (cond b (name ∷ filter (λ name. is_some (dependency_in name)) names) (filter (λ name. is_some (dependency_in name)) names)) task)
      by true is on = on (set_at task name None) (get-set_at_apart task name None modified_name (dependency_apart name is) ∙ so_far)
      by false is on = on task so_far

  one_kept : (m : Draft) (x : Modification) → IsApart x → Keeps modified_name first m.task → Keeps modified_name first (modified m x).task
  one_kept m (Word word) apart so_far = so_far
  one_kept m (Description value) apart so_far = so_far
  one_kept m (Property name value) apart so_far = get-set_at_apart m.task name value modified_name apart ∙ so_far
  one_kept m Independent apart so_far = names_kept (keys m.task) m.task so_far

  all_kept : (m : Draft) (xs : List Modification) → AreApart xs → Keeps modified_name first m.task → Keeps modified_name first (modified_by m xs).task
  all_kept m [] apart so_far = so_far
  all_kept m (x ∷ xs) apart so_far = all_kept (modified m x) xs apart.1 (one_kept m x apart.0 so_far)

  described : (m : Draft) → Keeps modified_name first m.task → Keeps modified_name first (made m)
  described m so_far = by (cond m.by_words m.joined m.given)
    where
      by : (o : Option (List ℕ)) → Keeps modified_name first (with_description m.task o)
      by None = so_far
      by (Some text) = get-set_at_apart m.task (codes "description") (Some text) modified_name refl ∙ so_far

-- modifications that words ask for leave a task its `modified`
pub taken_kept : (scene : Scene) (line : Parts) (task : TaskValue) → get (applied (taken scene line) task) modified_name ≡ get task modified_name
taken_kept scene line task =
    described task (modified_by (beginning task) (taken scene line)) (all_kept task (beginning task) (taken scene line) (taken_apart scene line) refl)
