-- Tasks that take the place of all that are there.
use Rattle.std.specs.Prelude.{is_some}
use Rattle.std.proofs.Common.{◌≡◌, ◌||◌, ℕ, Bool, true, false, List, Option, Some, None, refl, sym, ap, ◌∙◌}
use Rattle.std.specs.FinMap.{get, keys, entries, get-entries}
use Rattle.std.specs.FinMap.Entries.{is_some-find}
use Rattle.tw_model.specs.Maps.{bytes_cmp}
use Rattle.tw_model.specs.Ops.{TaskValue, TasksValue}
use Rattle.tw_model.specs.Places.{Places}
use Rattle.tw_numbers.specs.Assigned.{IsAssignedIn, IsAssignedExcept, is_among}
use Rattle.tw_numbers.proofs.PlacedAfter.{assigned_in}
use Rattle.tw_state.specs.State.{State, applied, at_base, checkpoint}
use Rattle.tw_state.specs.Sound.{IsSound}
use Rattle.tw_state.proofs.Soundness.{checkpoint_leads}

pub among_keys : (tasks : TasksValue) (u : List ℕ) → is_among (keys tasks) u ≡ is_some (get tasks u)
among_keys tasks u = sym (ap (λ (o : Option TaskValue). is_some o) (get-entries tasks u) ∙ is_some-find bytes_cmp u (entries tasks))

pub or_again : (a b c : Bool) → ((a || b) || c) ≡ (a || (b || c))
or_again true b c = refl
or_again false b c = refl

pub or_none : (a : Bool) → (a || false) ≡ a
or_none true = refl
or_none false = refl

none_of_both : (a b : Option TaskValue) → (is_some b || is_some a) ≡ false → a ≡ b
none_of_both None None e = refl
none_of_both (Some x) None e = absurd cc
none_of_both None (Some y) e = absurd cc
none_of_both (Some x) (Some y) e = absurd cc

-- these uuids are those of the tasks from before and of the new ones, so all that change are among them
pub assigned_before : (us : List (List ℕ)) (places : Places) (old new : TasksValue) → ((u : List ℕ) → is_among us u ≡ (is_some (get old u) || is_some (get new u))) → IsAssignedIn places old → IsAssignedExcept places new us
assigned_before us places old new both there = record { before = old; assigned = there; same = λ u outside. none_of_both (get new u) (get old u) (sym (both u) ∙ outside) }

module _ (base : List ℕ) (tasks : TasksValue) (old : State) (there : IsAssignedIn old.numbers old.tasks) where
  pub taken_over_sound : IsSound (at_base base tasks old)
  taken_over_sound = record { begins = tt; fits = tt; tasks = refl; assigned = assigned_in old.numbers tasks there.once }

  pub takes_over : applied old (checkpoint (at_base base tasks old)) ≡ Some (at_base base tasks old)
  takes_over = checkpoint_leads old (at_base base tasks old) taken_over_sound
