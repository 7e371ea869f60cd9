-- Words that are right but for the tasks that they name.
use Rattle.std.proofs.Common.{◌≡◌, ℕ, ◌+◌, ◌∙◌, ◌==◌, ◌||◌, not, Bool, true, false, is_none, List, [], ◌∷◌, Option, Some, None, Result, Ok, Err, drop, refl, sym, ap, subst}
use Rattle.tw_model.specs.Ops.{TaskValue}
use Rattle.tw_time.specs.Moments.{moment}
use Rattle.tw_time.specs.declared.error.DateError.{DateError}
use Rattle.tw_terms.specs.Cuts.{parts}
use Rattle.tw_terms.specs.Scenes.{Scene}
use Rattle.tw_terms.specs.declared.bad_word.BadWord.{BadWord}
use Rattle.tw_terms.specs.declared.bad_word.WordKind.{WordKind}
use Rattle.tw_terms.specs.declared.bad_word.WordKind.TheVariants as bad
use Rattle.tw_words.specs.Lines.{Parts}
use Rattle.tw_words.specs.Modifications.{takes_out, is_plain, is_add, tag_of, pair_of, field_named, word_fault, full_fault, field_fault, date_fault, first_fault, at_word, first_of, rest_words, tally_of, number_at, unless}
use Rattle.tw_words.specs.Modifications.{untagged_fault, tagged_fault}
use Rattle.tw_words.specs.Readings.{part_task, dependency_on, with_one, set_to, going_on, with_items, dated, with_value, without_value, with_pair, pair_or_text, tag_or_pair, unless_wrong, with_word, with_words}
use Rattle.tw_words.specs.Readings.{going_on_behind, modifications}
use Rattle.tw_words.specs.Changed.{applied, applied_if}
use Rattle.tw_words.specs.declared.changes.modification.Modification.{Modification}
use Rattle.tw_words.specs.declared.changes.modification.Modification.TheVariants.{Word, Description, Property}
use Rattle.tw_time.specs.Moments.{TimeZone}
use Rattle.tw_terms.specs.declared.token.Token.{Token}
use Rattle.tw_words.specs.Commands.{filtering_of}
use Rattle.tw_words.specs.Faults.{filter_fault, lack_fault, rest_fault, rest_fault_by, fault_of, unless_bad, filter_by, with_rest}
use Rattle.tw_words.specs.Unnamed.{lacks_task, value_unnamed, field_unnamed, pair_unnamed, tag_or_pair_unnamed, word_unnamed, unnamed_from, first_unnamed, IsRefusedAt, IsModifying, IsJudged, ChangesWhereNamed}
use Rattle.tw_words.specs.declared.changes.field.Field.{Field}
use Rattle.tw_words.specs.declared.changes.field.Field.TheVariants as field
use Rattle.tw_settings.specs.declared.word_error.WordError.{WordError}
use Rattle.tw_settings.specs.declared.word_error.WordError.TheVariants.{Bad}

-- refused for a task that is not there, or made
abbrev IsMade : {X : Type 0} → Bool → Result X WordKind → Type 0
IsMade {X = X} false made = (x : X) × (made ≡ Ok x)
IsMade true made = made ≡ Err bad.Id

items_made : (scene : Scene) (ms : List Modification) (texts : List (List ℕ)) → IsMade (lacks_task scene texts) (with_items scene ms texts)
items_made scene ms [] = (ms, refl)
items_made scene ms (text ∷ texts) = by (part_task scene text) (λ t. items_made scene t texts)
  where
    by : (o : Option (List ℕ)) → ((t : List Modification) → IsMade (lacks_task scene texts) (with_items scene t texts))
        → IsMade (is_none o || lacks_task scene texts) (going_on o (λ u. with_items scene (with_one ms (set_to (not (takes_out text)) (dependency_on u))) texts))
    by None others = refl
    by (Some u) others = others (with_one ms (set_to (not (takes_out text)) (dependency_on u)))

date_made : (ms : List Modification) (name : List ℕ) (r : Result ℕ DateError) → date_fault r ≡ None → IsMade false (dated ms name r)
date_made ms name (Ok at) h = (_, refl)
date_made ms name (Err e) h = absurd (cc)

value_made : (scene : Scene) (m : List Modification) (f : Field) (name value : List ℕ) → full_fault (Some (scene.now, scene.tz)) f value ≡ None → IsMade (value_unnamed scene f value) (with_value scene m f name value)
unfolding full_fault
value_made scene m field.Description name value h = (with_one m (Description value), refl)
value_made scene m field.Project name value h = (with_one m (Property name (Some value)), refl)
value_made scene m field.Priority name value h = (with_one m (Property name (Some value)), refl)
value_made scene m field.Moment name value h = date_made m name (moment value scene.now scene.tz) h
value_made scene m field.Depends name value h = items_made scene m (parts 44 value)
value_made scene m field.Recur name value h = (with_one m (Property name (Some value)), refl)

field_made : (scene : Scene) (m : List Modification) (o : Option Field) (name value : List ℕ) → field_fault (Some (scene.now, scene.tz)) o value ≡ None → IsMade (field_unnamed scene o value) (with_pair scene m o name value)
field_made scene m None name value h = absurd (cc)
field_made scene m (Some f) name [] h = (with_one m (without_value f name), refl)
field_made scene m (Some f) name (b ∷ bs) h = value_made scene m f name (b ∷ bs) h

pair_made : (scene : Scene) (adding sole : Bool) (m : List Modification) (word : List ℕ) (o : Option (List ℕ × List ℕ)) → untagged_fault (Some (scene.now, scene.tz)) adding sole word o ≡ None
    → IsMade (pair_unnamed scene adding o) (pair_or_text scene adding m word o)
pair_made scene adding sole m word None h = (with_one m (Word word), refl)
pair_made scene adding sole m word (Some x) h = field_made scene m (field_named adding x.0) x.0 x.1 h

tag_made : (scene : Scene) (adding sole plain : Bool) (m : List Modification) (word : List ℕ) (o : Option (Bool × List ℕ)) → tagged_fault (Some (scene.now, scene.tz)) adding sole plain word o ≡ None
    → IsMade (tag_or_pair_unnamed scene adding plain word o) (tag_or_pair scene adding plain m word o)
tag_made scene adding sole plain m word None h = pair_made scene adding sole m word (pair_of plain word) h
tag_made scene adding sole plain m word (Some x) h = (_, refl)

word_made : (scene : Scene) (adding sole plain : Bool) (m : List Modification) (word : List ℕ) → word_fault (Some (scene.now, scene.tz)) adding sole plain word ≡ None
    → IsMade (word_unnamed scene adding plain word) (with_word scene adding sole plain m word)
word_made scene adding sole plain m word h =
    subst (λ (r : Result (List Modification) WordKind). IsMade (word_unnamed scene adding plain word) r) (sym (ap (λ o. unless_wrong o (tag_or_pair scene adding plain m word (tag_of plain word))) h))
    (tag_made scene adding sole plain m word (tag_of plain word) h)

-- where the first fault of words is none, none of them has one
no_fault : (line : Parts) (n : ℕ) (o : Option WordKind) (others : Option BadWord) → first_of (at_word line n o) others ≡ None → (o ≡ None) × (others ≡ None)
no_fault line n None others h = (refl, h)
no_fault line n (Some kind) others h = absurd (cc)

-- refused at this word, or read
abbrev pub IsReadAt : {X : Type 0} → Option BadWord → Result X BadWord → Type 0
IsReadAt {X = X} None read = (x : X) × (read ≡ Ok x)
IsReadAt (Some b) read = read ≡ Err b

one_made : (line : Parts) (n : ℕ) (b : Bool) (r : Result (List Modification) WordKind) (others : Option BadWord) (on : List Modification → Result (List Modification) BadWord) → IsMade b r → ((m : List Modification) → IsReadAt others (on m))
    → IsReadAt (first_of (at_word line n (unless (not b) bad.Id)) others) (going_on_behind line n r on)
one_made line n false (Ok m) others on h more = more m
one_made line n false (Err kind) others on h more = let e = h.1 in absurd (cc)
one_made line n true (Ok m) others on h more = absurd (cc)
one_made line n true (Err kind) others on h more = let same : kind ≡ bad.Id = cc in ap (λ (k : WordKind). Err (record { word = number_at line n; kind = k })) same

words_made : (scene : Scene) (sole : Bool) (line : Parts) (m : List Modification) (n : ℕ) (words : List (List ℕ)) → first_fault (Some (scene.now, scene.tz)) sole line n words ≡ None
    → IsReadAt (unnamed_from scene line n words) (with_words scene sole line m n words)
words_made scene sole line m n [] h = (m, refl)
words_made scene sole line m n (word ∷ words) h =
    let adding = is_add line.command in
    let plain = is_plain line n in
    let clock = Some (scene.now, scene.tz) in
    let none = no_fault line n (word_fault clock adding sole plain word) (first_fault clock sole line (n + 1) words) h in
    one_made line n (word_unnamed scene adding plain word) (with_word scene adding sole plain m word) (unnamed_from scene line (n + 1) words) (λ made. with_words scene sole line made (n + 1) words)
    (word_made scene adding sole plain m word none.0) (λ made. words_made scene sole line made (n + 1) words none.1)

task_made : (o : Option BadWord) (r : Result (List Modification) BadWord) (task : TaskValue) → IsReadAt o r → IsRefusedAt o (applied_if r task)
task_made None (Ok ms) task h = (applied ms task, refl)
task_made None (Err b) task h = let is = h.1 in absurd (cc)
task_made (Some b) (Ok ms) task h = absurd (cc)
task_made (Some b) (Err e) task h = let same : e ≡ b = cc in ap (λ (x : BadWord). Err (Bad x)) same

behind_first : (a b : Option BadWord) → first_of a b ≡ None → b ≡ None
behind_first None b h = h
behind_first (Some x) b h = absurd (cc)

no_bad : (x y : List Token) (o : Option BadWord) → unless_bad x o ≡ Ok y → o ≡ None
no_bad x y None h = refl
no_bad x y (Some b) h = absurd (cc)

-- a line that was judged has no fault
right_line : (line : Parts) (now : ℕ) (tz : TimeZone) (r : Result (List Token) BadWord) (filter : List Token) → with_rest line now tz r ≡ Ok filter → fault_of (Some (now, tz)) line ≡ None
right_line line now tz (Ok x) filter h = no_bad x filter (fault_of (Some (now, tz)) line) h
right_line line now tz (Err e) filter h = absurd (cc)

-- the words of a line that was judged are refused at the first that names no task, and else read
pub read_where_named : (scene : Scene) (line : Parts) (filter : List Token) → IsModifying line → IsJudged scene line filter → IsReadAt (first_unnamed scene line) (modifications scene line)
read_where_named scene line filter changes right =
    let clock = Some (scene.now, scene.tz) in
    let none = right_line line scene.now scene.tz (filter_by (filtering_of line.command) line scene.now scene.tz) filter right in
    let none_behind = behind_first (lack_fault line) (rest_fault clock line) (behind_first (filter_fault line) (first_of (lack_fault line) (rest_fault clock line)) none) in
    let none_of_words : first_fault clock ((tally_of line).texts == 1) line line.rest_from (rest_words line) ≡ None = sym (ap (λ r. rest_fault_by r clock line) changes) ∙ none_behind in
    words_made scene ((tally_of line).texts == 1) line [] line.rest_from (rest_words line) none_of_words

pub changes_where_named : ChangesWhereNamed
changes_where_named scene line task filter changes right =
    task_made (first_unnamed scene line) (modifications scene line) task (read_where_named scene line filter changes right)
