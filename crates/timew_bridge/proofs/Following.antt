-- Intervals behind others that have ended.
use Rattle.std.specs.Prelude.{nat_le, max, unwrap_or}
use Rattle.std.proofs.Common.{◌≡◌, ℕ, Bool, true, false, cond, ◌&&◌, ◌||◌, List, [], ◌∷◌, ◌++◌, Option, Some, refl, sym, ap, ◌∙◌, append_assoc}
use Rattle.std.proofs.lemmas.List.Sums.{fold-append}
use Rattle.std.proofs.lemmas.List.Folds.{list_any-append}
use Rattle.std.specs.List.{flat_map, AllByRecursion}
use Rattle.tw_model.specs.Ops.{TasksValue}
use Rattle.tw_world.specs.Folder.{same_bytes}
use Rattle.uuid.specs.Text.{hyphenated_text, lower}
use Rattle.timew_interval.specs.declared.interval.Interval.{Interval}
use Rattle.timew_bridge.specs.declared.active.Active.{Active}
use Rattle.timew_bridge.specs.Active.{latest}
use Rattle.timew_bridge.specs.Tail.{IsClosed}
use Rattle.timew_bridge.specs.Track.{released, given_way, is_tracked, free_from, opened, with_opened, tracking, followed, tracked}
use Rattle.timew_bridge.proofs.Stays.{released_behind, given_way_behind}

tracked_append : (name : List ℕ) (s : ℕ) (front last : List Interval) → is_tracked name s (front ++ last) ≡ (is_tracked name s front || is_tracked name s last)
tracked_append name s front last = list_any-append (λ r. same_bytes r.annotation name && nat_le s r.start) front last

or_true : (b c : Bool) → c ≡ true → (b || c) ≡ true
or_true true c is = refl
or_true false c is = is

or_false : (b c : Bool) → c ≡ false → (b || c) ≡ b
or_false true c is = refl
or_false false c is = is

pub there_behind : (name other : List ℕ) (s : ℕ) (front last : List Interval) (b : Bool) → name ≡ other → b ≡ is_tracked name s last → b ≡ true → b ≡ is_tracked other s (front ++ last)
there_behind name other s front last b same is holds =
    holds ∙ sym (ap (λ n. is_tracked n s (front ++ last)) (sym same) ∙ tracked_append name s front last ∙ or_true (is_tracked name s front) (is_tracked name s last) (sym is ∙ holds))

pub there_in_front : (name other : List ℕ) (s : ℕ) (front last : List Interval) (b c : Bool) → name ≡ other → b ≡ is_tracked name s last → b ≡ false → c ≡ is_tracked name s front → c ≡ is_tracked other s (front ++ last)
there_in_front name other s front last b c same is fails here =
    here ∙ sym (ap (λ n. is_tracked n s (front ++ last)) (sym same) ∙ tracked_append name s front last ∙ or_false (is_tracked name s front) (is_tracked name s last) (sym is ∙ fails))

-- where the task has its interval
pub followed_still : (tasks : TasksValue) (now : ℕ) (a : Active) (front last : List Interval) (b : Bool) → b ≡ is_tracked (hyphenated_text lower a.uuid) a.start (front ++ last) → b ≡ true
    → front ++ last ≡ followed tasks now (Some a) (front ++ last)
followed_still tasks now a front last b is holds = ap (λ t. cond t (front ++ last) (tracking tasks now a (flat_map (given_way a.start now) (front ++ last)))) (sym holds ∙ is)

-- where it is to have one: the others give way
module _ (tasks : TasksValue) (now : ℕ) (a : Active) (front last : List Interval) (b : Bool) (is : b ≡ is_tracked (hyphenated_text lower a.uuid) a.start (front ++ last)) (fails : b ≡ false) (closed : AllByRecursion IsClosed front) (given : List Interval) (given_is : given ≡ flat_map (given_way a.start now) last) (from : ℕ) (from_is : from ≡ free_from (free_from a.start front) given) where
  rows_are : flat_map (given_way a.start now) (front ++ last) ≡ front ++ given
  rows_are = given_way_behind a.start now front last closed ∙ ap (λ l. front ++ l) (sym given_is)

  from_all : free_from a.start (front ++ given) ≡ from
  from_all = fold-append (λ at r. max at (unwrap_or r.end 0)) a.start front given ∙ sym from_is

  pub follows : followed tasks now (Some a) (front ++ last) ≡ cond (nat_le from now) ((front ++ given) ++ opened tasks from a ∷ []) (front ++ given)
  follows =
      ap (λ t. cond t (front ++ last) (tracking tasks now a (flat_map (given_way a.start now) (front ++ last)))) (sym is ∙ fails)
      ∙ ap (tracking tasks now a) rows_are
      ∙ ap (λ f. with_opened tasks now f a (front ++ given)) from_all

  pub opens : (new : Interval) (next : List Interval) → nat_le from now ≡ true → new ≡ opened tasks from a → next ≡ given ++ new ∷ [] → front ++ next ≡ followed tasks now (Some a) (front ++ last)
  opens new next early new_is next_is =
      ap (λ l. front ++ l) next_is ∙ ap (λ (r : Interval). front ++ (given ++ r ∷ [])) new_is ∙ sym (append_assoc front given (opened tasks from a ∷ []))
      ∙ sym (follows ∙ ap (λ t. cond t ((front ++ given) ++ opened tasks from a ∷ []) (front ++ given)) early)

  pub waits : (next : List Interval) → nat_le from now ≡ false → next ≡ given → front ++ next ≡ followed tasks now (Some a) (front ++ last)
  waits next late next_is = ap (λ l. front ++ l) next_is ∙ sym (follows ∙ ap (λ t. cond t ((front ++ given) ++ opened tasks from a ∷ []) (front ++ given)) late)

-- all together
pub driven : (tasks : TasksValue) (now : ℕ) (front last next : List Interval) (o : Option Active) → AllByRecursion IsClosed front → latest tasks now ≡ o → next ≡ followed tasks now o (front ++ flat_map (released tasks now) last) → next ≡ tracked tasks (front ++ last) now
driven tasks now front last next o closed is next_is =
    next_is ∙ ap (followed tasks now o) (sym (released_behind tasks now front last closed)) ∙ ap (λ p. followed tasks now p (flat_map (released tasks now) (front ++ last))) (sym is)
