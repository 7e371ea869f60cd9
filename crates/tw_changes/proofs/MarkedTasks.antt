-- The signs that are held for parents make the tasks that are marked.
use Rattle.std.proofs.Common.{◌≡◌, ◌∙◌, ap, sym, refl, subst, ℕ, zero, suc, ◌+◌, ◌<◌, ◌&&◌, Bool, true, false, cond, List, [], ◌∷◌, ◌++◌, take, length, get_or, map, Option, Some, None, codes, is_some, is_none}
use Rattle.std.specs.Prelude.{set, chars, encode_utf8_all, IsUtf8}
use lib.Utf8.{scalar, scalars}
use Rattle.std.proofs.lemmas.List.{take_more, nil_from_length}
use Rattle.std.proofs.lemmas.Str.{scalars-chars, chars-encodes}
use Rattle.std.proofs.lemmas.Cmp.{nat_list_cmp_total}
use Rattle.std.specs.Cmp.{tied_itself}
use Rattle.std.specs.Global.{Vec}
use Rattle.std.specs.Map.{lookup}
use Rattle.std.specs.BTreeMap.{insert_entry, is_at}
use Rattle.std.specs.List.{AllByRecursion}
use Rattle.std.specs.Ordering.{is_eq, match_ordering}
use Rattle.std.specs.declared.cmp.Ordering.{Ordering}
use Rattle.std.specs.declared.cmp.Ordering.TheVariants.{Less, Equal, Greater}
use Rattle.std.specs.FinMap.{get, insert, empty, entries, find, put, get-entries, entries-insert, len-entries, len-empty}
use Rattle.std.specs.FinMap.Entries.{by_order}
use Rattle.tw_world.specs.declared.Moment.{Moment}
use Rattle.tw_model.specs.Maps.{bytes_cmp}
use Rattle.tw_model.specs.Ops.{TaskValue, TasksValue}
use Rattle.tw_model.proofs.Maps.{bytes_exact, get-set_at_here, set_at-set_at}
use Rattle.tw_changes.specs.Marks.{code_of, with_mark_in, with_mark, first_there, put_marked, mark_one, mark_all, mask_change, mask_changes, stamped_from, held_change, held_changes, signs_in, signs_or, with_signs_in, with_signs, held_by, held_task, IsHeld, AreHeld}
use Rattle.tw_changes.specs.declared.marks.Mark.{Mark}
use Rattle.tw_changes.specs.declared.marks.Sign.{Sign}
use Rattle.tw_changes.specs.declared.marks.Sign.TheVariants.{Completed, Deleted}

abbrev pub Held : Type 0
Held = List (List ℕ × Vec ℕ)

-- ---- signs

pub text_scalars : (all text : List ℕ) → all ≡ chars text → IsUtf8 text → scalars all ≡ true
text_scalars all text is utf8 = ap scalars is ∙ scalars-chars text utf8

code_scalar : (sign : Sign) → scalar (code_of sign) ≡ true
code_scalar Completed = refl
code_scalar Deleted = refl

both_true : (a b : Bool) → (a && b) ≡ true → (a ≡ true) × (b ≡ true)
both_true true b e = (refl, e)
both_true false b e = absurd cc

set_scalars : (cs : List ℕ) (i c : ℕ) → scalar c ≡ true → scalars cs ≡ true → scalars (set cs i c) ≡ true
set_scalars [] i c one all = all
set_scalars (x ∷ cs) zero c one all = ap (λ b. b && scalars cs) one ∙ (both_true (scalar x) (scalars cs) all).1
set_scalars (x ∷ cs) (suc i) c one all =
    let parts = both_true (scalar x) (scalars cs) all in
    ap (λ b. b && scalars (set cs i c)) parts.0 ∙ set_scalars cs i c one parts.1

-- ---- one more mark

-- the task that is marked so far
abbrev marked_or : Option (Vec ℕ) → TaskValue → TaskValue
marked_or None task = task
marked_or (Some signs) task = with_signs signs.items task

abbrev option_signs : Option (Vec ℕ) → TaskValue → Option TaskValue
option_signs None task = None
option_signs (Some signs) task = Some (with_signs signs.items task)

itself : (k : List ℕ) → bytes_cmp k k ≡ Equal
itself k = tied_itself nat_list_cmp_total k

marked_again : (mark : Mark) (o : Option (Vec ℕ)) (task : TaskValue) → scalars (signs_or o task) ≡ true
    → with_mark mark (marked_or o task) ≡ with_signs (set (signs_or o task) mark.index (code_of mark.sign)) task
marked_again mark None task all = by (get task (codes "mask"))
  where
    by : (mask : Option (List ℕ)) → with_mark_in mark task mask ≡ with_signs_in (set (signs_in mask) mark.index (code_of mark.sign)) task mask
    by None = refl
    by (Some mask) = refl
marked_again mark (Some signs) task all = by (get task (codes "mask")) refl
  where
    by : (mask : Option (List ℕ)) → get task (codes "mask") ≡ mask
        → with_mark mark (with_signs_in signs.items task mask) ≡ with_signs_in (set signs.items mark.index (code_of mark.sign)) task mask
    by None is = ap (with_mark_in mark task) is
    by (Some mask) is =
        let held : TaskValue = insert task (codes "mask") (encode_utf8_all signs.items) in
        let next : List ℕ = encode_utf8_all (set signs.items mark.index (code_of mark.sign)) in
        ap (with_mark_in mark held) (get-set_at_here task (codes "mask") (Some (encode_utf8_all signs.items)))
        ∙ ap (λ cs. insert held (codes "mask") (encode_utf8_all (set cs mark.index (code_of mark.sign)))) (chars-encodes signs.items all)
        ∙ set_at-set_at task (codes "mask") (Some (encode_utf8_all signs.items)) (Some next)

-- ---- entries that are held

module _ (tasks : TasksValue) where
  key_of : (k x : List ℕ) → is_eq (bytes_cmp k x) ≡ true → k ≡ x
  key_of k x e = by (bytes_cmp k x) refl e
    where
      by : (o : Ordering) → bytes_cmp k x ≡ o → is_eq o ≡ true → k ≡ x
      by Less is e = absurd cc
      by Equal is e = bytes_exact k x is
      by Greater is e = absurd cc

  -- what is found of a task that is there
  found_as : (k : List ℕ) (task : TaskValue) (es : Held) → get tasks k ≡ Some task → find bytes_cmp k (map (held_task tasks) es) ≡ option_signs (lookup (is_at (bytes_cmp k)) es) task
  found_as k task [] there = refl
  found_as k task (e ∷ es) there = by (is_eq (bytes_cmp k e.0)) refl (found_as k task es there)
    where
      by : (b : Bool) → is_eq (bytes_cmp k e.0) ≡ b → find bytes_cmp k (map (held_task tasks) es) ≡ option_signs (lookup (is_at (bytes_cmp k)) es) task
          → cond b (Some (held_by e.1.items (get tasks e.0))) (find bytes_cmp k (map (held_task tasks) es)) ≡ option_signs (cond b (Some e.1) (lookup (is_at (bytes_cmp k)) es)) task
      by true same rest = ap (λ o. Some (held_by e.1.items o)) (ap (get tasks) (sym (key_of k e.0 same)) ∙ there)
      by false apart rest = rest

  -- nothing is found of a task that is not there
  not_found : (k : List ℕ) (es : Held) → get tasks k ≡ None → AllByRecursion (IsHeld tasks) es → find bytes_cmp k (map (held_task tasks) es) ≡ None
  not_found k [] none all = refl
  not_found k (e ∷ es) none all = by (is_eq (bytes_cmp k e.0)) refl (not_found k es none all.1)
    where
      by : (b : Bool) → is_eq (bytes_cmp k e.0) ≡ b → find bytes_cmp k (map (held_task tasks) es) ≡ None
          → cond b (Some (held_by e.1.items (get tasks e.0))) (find bytes_cmp k (map (held_task tasks) es)) ≡ None
      by true same rest = let gone : is_some (get tasks e.0) ≡ false = ap (λ x. is_some (get tasks x)) (sym (key_of k e.0 same)) ∙ ap is_some none in let there = all.0.0 in absurd cc
      by false apart rest = rest

  held_scalars : (k : List ℕ) (task : TaskValue) (es : Held) (o : Option (Vec ℕ)) → lookup (is_at (bytes_cmp k)) es ≡ o → AllByRecursion (IsHeld tasks) es → (is_none o ≡ true → scalars (signs_or o task) ≡ true) → scalars (signs_or o task) ≡ true
  held_scalars k task [] None is all own = own refl
  held_scalars k task [] (Some signs) is all own = absurd cc
  held_scalars k task (e ∷ es) o is all own = by (is_eq (bytes_cmp k e.0)) is (λ later. held_scalars k task es o later all.1 own)
    where
      by : (b : Bool) → cond b (Some e.1) (lookup (is_at (bytes_cmp k)) es) ≡ o → (lookup (is_at (bytes_cmp k)) es ≡ o → scalars (signs_or o task) ≡ true) → scalars (signs_or o task) ≡ true
      by true here rest = subst (λ (x : Option (Vec ℕ)). scalars (signs_or x task) ≡ true) here all.0.1
      by false here rest = rest here

  -- an entry is put in
  put_held : (k : List ℕ) (signs : Vec ℕ) (task : TaskValue) (es : Held) → held_by signs.items (get tasks k) ≡ task → put bytes_cmp k task (map (held_task tasks) es) ≡ map (held_task tasks) (insert_entry bytes_cmp es k signs)
  put_held k signs task [] is = ap (λ t. (k, t) ∷ []) (sym is)
  put_held k signs task (e ∷ es) is = by (bytes_cmp k e.0) refl (put_held k signs task es is)
    where
      by : (o : Ordering) → bytes_cmp k e.0 ≡ o → put bytes_cmp k task (map (held_task tasks) es) ≡ map (held_task tasks) (insert_entry bytes_cmp es k signs)
          → by_order o ((k, task) ∷ map (held_task tasks) (e ∷ es)) ((e.0, task) ∷ map (held_task tasks) es) (held_task tasks e ∷ put bytes_cmp k task (map (held_task tasks) es))
          ≡ map (held_task tasks) (match_ordering o ((k, signs) ∷ e ∷ es) ((e.0, signs) ∷ es) (e ∷ insert_entry bytes_cmp es k signs))
      by Less at rest = ap (λ t. (k, t) ∷ map (held_task tasks) (e ∷ es)) (sym is)
      by Equal at rest = ap (λ t. (e.0, t) ∷ map (held_task tasks) es) (sym is ∙ ap (λ x. held_by signs.items (get tasks x)) (bytes_exact k e.0 at))
      by Greater at rest = ap (λ l. held_task tasks e ∷ l) rest

  all_put : (k : List ℕ) (signs : Vec ℕ) (es : Held) → IsHeld tasks (k, signs) → AllByRecursion (IsHeld tasks) es → AllByRecursion (IsHeld tasks) (insert_entry bytes_cmp es k signs)
  all_put k signs [] is all = (is, tt)
  all_put k signs (e ∷ es) is all = by (bytes_cmp k e.0) refl (all_put k signs es is all.1)
    where
      by : (o : Ordering) → bytes_cmp k e.0 ≡ o → AllByRecursion (IsHeld tasks) (insert_entry bytes_cmp es k signs)
          → AllByRecursion (IsHeld tasks) (match_ordering o ((k, signs) ∷ e ∷ es) ((e.0, signs) ∷ es) (e ∷ insert_entry bytes_cmp es k signs))
      by Less at rest = (is, all)
      by Equal at rest = ((ap (λ x. is_some (get tasks x)) (sym (bytes_exact k e.0 at)) ∙ is.0, is.1), all.1)
      by Greater at rest = (all.0, rest)

  -- what is put in twice has the second
  put_twice : (k : List ℕ) (first signs : Vec ℕ) (es : Held) → insert_entry bytes_cmp (insert_entry bytes_cmp es k first) k signs ≡ insert_entry bytes_cmp es k signs
  put_twice k first signs [] = ap (λ o. match_ordering o ((k, signs) ∷ (k, first) ∷ []) ((k, signs) ∷ []) ((k, first) ∷ (k, signs) ∷ [])) (itself k)
  put_twice k first signs (e ∷ es) = by (bytes_cmp k e.0) refl (put_twice k first signs es)
    where
      by : (o : Ordering) → bytes_cmp k e.0 ≡ o → insert_entry bytes_cmp (insert_entry bytes_cmp es k first) k signs ≡ insert_entry bytes_cmp es k signs
          → insert_entry bytes_cmp (match_ordering o ((k, first) ∷ e ∷ es) ((e.0, first) ∷ es) (e ∷ insert_entry bytes_cmp es k first)) k signs
          ≡ match_ordering o ((k, signs) ∷ e ∷ es) ((e.0, signs) ∷ es) (e ∷ insert_entry bytes_cmp es k signs)
      by Less at rest = ap (λ o. match_ordering o ((k, signs) ∷ (k, first) ∷ e ∷ es) ((k, signs) ∷ e ∷ es) ((k, first) ∷ insert_entry bytes_cmp (e ∷ es) k signs)) (itself k)
      by Equal at rest = ap (λ o. match_ordering o ((k, signs) ∷ (e.0, first) ∷ es) ((e.0, signs) ∷ es) ((e.0, first) ∷ insert_entry bytes_cmp es k signs)) at
      by Greater at rest =
          ap (λ o. match_ordering o ((k, signs) ∷ e ∷ insert_entry bytes_cmp es k first) ((e.0, signs) ∷ insert_entry bytes_cmp es k first) (e ∷ insert_entry bytes_cmp (insert_entry bytes_cmp es k first) k signs)) at
          ∙ ap (λ l. e ∷ l) rest

  marked_there : (marked : TasksValue) (mark : Mark) (o : Option (Vec ℕ)) (task : TaskValue) → get tasks mark.parent ≡ Some task → get marked mark.parent ≡ option_signs o task
      → mark_one tasks marked mark ≡ insert marked mark.parent (with_mark mark (marked_or o task))
  marked_there marked mark None task there is = ap (λ x. put_marked marked mark (first_there x (get tasks mark.parent))) is ∙ ap (put_marked marked mark) there
  marked_there marked mark (Some signs) task there is = ap (λ x. put_marked marked mark (first_there x (get tasks mark.parent))) is

  module _ (marked : TasksValue) (es : Held) (mark : Mark) (held : AreHeld tasks marked es) where
    -- a mark of a parent that is not there
    pub not_there : get tasks mark.parent ≡ None → AreHeld tasks (mark_one tasks marked mark) es
    not_there none =
        let unmarked : get marked mark.parent ≡ None = get-entries marked mark.parent ∙ ap (find bytes_cmp mark.parent) held.same ∙ not_found mark.parent es none held.each in
        let still : mark_one tasks marked mark ≡ marked = ap (λ x. put_marked marked mark (first_there x (get tasks mark.parent))) unmarked ∙ ap (put_marked marked mark) none in
        subst (λ (m : TasksValue). AreHeld tasks m es) (sym still) held

    -- a mark of one that is
    pub one_more : (task : TaskValue) (first signs : Vec ℕ) (o : Option (Vec ℕ)) → get tasks mark.parent ≡ Some task → lookup (is_at (bytes_cmp mark.parent)) es ≡ o → (is_none o ≡ true → scalars (signs_or o task) ≡ true)
        → signs.items ≡ set (signs_or o task) mark.index (code_of mark.sign) → AreHeld tasks (mark_one tasks marked mark) (insert_entry bytes_cmp (insert_entry bytes_cmp es mark.parent first) mark.parent signs)
    one_more task first signs o there was own is =
        let all = held_scalars mark.parent task es o was held.each own in
        let found : get marked mark.parent ≡ option_signs o task =
        get-entries marked mark.parent ∙ ap (find bytes_cmp mark.parent) held.same ∙ found_as mark.parent task es there ∙ ap (λ x. option_signs x task) was in
        let made : held_by signs.items (get tasks mark.parent) ≡ with_mark mark (marked_or o task) =
        ap (held_by signs.items) there ∙ ap (λ l. with_signs l task) is ∙ sym (marked_again mark o task all) in
        let put_in : entries (mark_one tasks marked mark) ≡ map (held_task tasks) (insert_entry bytes_cmp es mark.parent signs) =
        ap entries (marked_there marked mark o task there found) ∙ entries-insert nat_list_cmp_total marked mark.parent (with_mark mark (marked_or o task))
        ∙ ap (put bytes_cmp mark.parent (with_mark mark (marked_or o task))) held.same ∙ put_held mark.parent signs (with_mark mark (marked_or o task)) es made in
        let one : IsHeld tasks (mark.parent, signs) = (ap is_some there, ap scalars is ∙ set_scalars (signs_or o task) mark.index (code_of mark.sign) (code_scalar mark.sign) all) in
        subst (λ (l : Held). AreHeld tasks (mark_one tasks marked mark) l) (sym (put_twice mark.parent first signs es)) (record { same = put_in; each = all_put mark.parent signs es one held.each })

  pub none_held : AreHeld tasks empty []
  none_held = record { same = nil_from_length (entries {X = TaskValue} {R = bytes_cmp} empty) (sym (len-entries {X = TaskValue} {R = bytes_cmp} empty) ∙ len-empty bytes_cmp TaskValue); each = tt }

  -- ---- all marks

  marked_on : (marked : TasksValue) (ms : List Mark) (m : Mark) → mark_all tasks marked (ms ++ m ∷ []) ≡ mark_one tasks (mark_all tasks marked ms) m
  marked_on marked [] m = refl
  marked_on marked (x ∷ ms) m = marked_on (mark_one tasks marked x) ms m

  pub one_more_mark : (ms : List Mark) (i : ℕ) (m : Mark) → i < length ms → m ≡ get_or ms i m → mark_all tasks empty (take (i + 1) ms) ≡ mark_one tasks (mark_all tasks empty (take i ms)) m
  one_more_mark ms i m lt is = ap (mark_all tasks empty) (take_more ms i m lt ∙ ap (λ x. take i ms ++ x ∷ []) (sym is)) ∙ marked_on empty (take i ms) m

  -- ---- the changes

  one_change : (now : Moment) (u : List ℕ) (signs : List ℕ) (o : Option TaskValue) → is_some o ≡ true → held_change now u signs o ≡ record { uuid = u; task = Some (stamped_from now o (held_by signs o)) } ∷ []
  one_change now u signs None there = absurd cc
  one_change now u signs (Some before) there = refl

  each_change : (now : Moment) (es : Held) → AllByRecursion (IsHeld tasks) es → held_changes now tasks es ≡ map (mask_change now tasks) (map (held_task tasks) es)
  each_change now [] all = refl
  each_change now (e ∷ es) all =
      ap (λ l. l ++ held_changes now tasks es) (one_change now e.0 e.1.items (get tasks e.0) all.0.0)
      ∙ ap (λ l. mask_change now tasks (held_task tasks e) ∷ l) (each_change now es all.1)

  pub all_changes : (now : Moment) (marks : List Mark) (es : Held) → AreHeld tasks (mark_all tasks empty marks) es → held_changes now tasks es ≡ mask_changes now tasks marks
  all_changes now marks es held = each_change now es held.each ∙ ap (map (mask_change now tasks)) (sym held.same)
