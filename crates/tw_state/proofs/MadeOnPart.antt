-- What a step makes of a part is the part of what it makes.
use Rattle.std.proofs.Common.{◌≡◌, ℕ, false, ◌||◌, List, sym, ap, subst, ◌∙◌}
use Rattle.std.specs.FinMap.{get}
use Rattle.tw_model.specs.Ops.{TasksValue, apply_all}
use Rattle.tw_model.specs.LocalOps.{apply_all_local, take_back_all}
use Rattle.tw_model.specs.declared.Op.{Op}
use Rattle.tw_model.specs.declared.SyncOp.{SyncOp}
use Rattle.tw_model.specs.Places.{Places}
use Rattle.tw_numbers.specs.Assigned.{IsAssignedIn, IsAssignedExcept, is_among}
use Rattle.tw_state.specs.Touched.{is_touched, is_touched_by_synced}
use Rattle.tw_state.specs.State.{misfit, misfit_synced}
use Rattle.tw_state.specs.Part.{with_part, part_of, taken_out, fresh_among, with_room, AgreeAmong, HasNone, HasRoom}
use Rattle.tw_state.specs.Next.{after, IsNextOf}
use Rattle.tw_state.specs.declared.next.Next.{Next}
use Rattle.tw_state.proofs.OthersUnchanged.{not_first, not_second, all_applied_apart, all_taken_back_apart, all_synced_apart}
use Rattle.tw_state.proofs.PartsTogether.{part_agrees, merged, room_taken_out, fresh_has_none, fresh_has_room, room_filled}
use Rattle.tw_numbers.proofs.AlikeOnPart.{or_first, or_second}
use Rattle.tw_state.proofs.AlikeOnPart.{misfit_alike, misfit_synced_alike, all_applied_alike, all_taken_back_alike, all_synced_alike}

-- tasks were made of old ones, and a part has what was made of those among these uuids, which are all that were changed
pub record IsMade (us : List (List ℕ)) (old made part : TasksValue) : Type 0 where
  pub among : AgreeAmong us part made
  pub apart : (u : List ℕ) → is_among us u ≡ false → get made u ≡ get old u

module _ (us : List (List ℕ)) (old made part : TasksValue) (is : IsMade us old made part) where
  pub made_after : with_part us part old ≡ made
  made_after = merged us part old made is.among is.apart

  pub made_ready : (places : Places) → IsAssignedIn places old → IsAssignedExcept places made us
  made_ready places assigned_there = record { before = old; assigned = assigned_there; same = is.apart }

module _ (us : List (List ℕ)) (old copy : TasksValue) (copied : copy ≡ part_of us old) where
  same_there : AgreeAmong us copy old
  same_there u inside = ap (λ (t : TasksValue). get t u) copied ∙ part_agrees us old u inside

  module _ (ops : List Op) (touched : (u : List ℕ) → is_among us u ≡ is_touched ops u) where
    pub misfit_there : misfit 0 copy ops ≡ misfit 0 old ops
    misfit_there = misfit_alike us 0 copy old ops same_there (λ u e. touched u ∙ e)

    pub applied_made : (part : TasksValue) → part ≡ apply_all_local copy ops → IsMade us old (apply_all_local old ops) part
    applied_made part e = record {
      among = λ u inside. ap (λ (t : TasksValue). get t u) e ∙ all_applied_alike us copy old ops same_there (λ v f. touched v ∙ f) u inside;
      apart = λ u outside. all_applied_apart old ops u (sym (touched u) ∙ outside);
    }

    pub taken_back_made : (part : TasksValue) → part ≡ take_back_all copy ops → IsMade us old (take_back_all old ops) part
    taken_back_made part e = record {
      among = λ u inside. ap (λ (t : TasksValue). get t u) e ∙ all_taken_back_alike us copy old ops same_there (λ v f. touched v ∙ f) u inside;
      apart = λ u outside. all_taken_back_apart old ops u (sym (touched u) ∙ outside);
    }

  pub synced_made : (pending : List Op) (ops : List SyncOp) → ((u : List ℕ) → is_among us u ≡ (is_touched pending u || is_touched_by_synced ops u)) → (back part : TasksValue) → back ≡ take_back_all copy pending → part ≡ apply_all back ops
      → IsMade us old (apply_all (take_back_all old pending) ops) part
  synced_made pending ops touched back part b e = record {
    among = λ u inside.
        ap (λ (t : TasksValue). get t u) (e ∙ ap (λ (t : TasksValue). apply_all t ops) b)
        ∙ all_synced_alike us (take_back_all copy pending) (take_back_all old pending) ops
        (all_taken_back_alike us copy old pending same_there (λ v f. touched v ∙ or_first (is_touched pending v) (is_touched_by_synced ops v) f))
        (λ v f. touched v ∙ or_second (is_touched pending v) (is_touched_by_synced ops v) f) u inside;
    apart = λ u outside.
        let none = sym (touched u) ∙ outside in
        all_synced_apart (take_back_all old pending) ops u (not_second (is_touched pending u) (is_touched_by_synced ops u) none)
        ∙ all_taken_back_apart old pending u (not_first (is_touched pending u) (is_touched_by_synced ops u) none);
  }

  module _ (ops : List SyncOp) (touched : (u : List ℕ) → is_among us u ≡ is_touched_by_synced ops u) where
    pub misfit_synced_there : misfit_synced 0 copy ops ≡ misfit_synced 0 old ops
    misfit_synced_there = misfit_synced_alike us 0 copy old ops same_there (λ u e. touched u ∙ e)

    pub carried_made : (part : TasksValue) → part ≡ apply_all copy ops → IsMade us old (apply_all old ops) part
    carried_made part e = record {
      among = λ u inside. ap (λ (t : TasksValue). get t u) e ∙ all_synced_alike us copy old ops same_there (λ v f. touched v ∙ f) u inside;
      apart = λ u outside. all_synced_apart old ops u (sym (touched u) ∙ outside);
    }

-- ---- what a step leads to takes the place of what was there

module _ (tasks : TasksValue) (next : Next) (is : IsNextOf tasks next) where
  pub next_free : HasNone next.fresh.items tasks
  next_free = subst (λ (us : List (List ℕ)). HasNone us tasks) (sym is) (fresh_has_none next.part tasks next.touched.keys)

  module _ (roomy : TasksValue) (made : roomy ≡ with_room next.fresh.items tasks) where
    made_so : roomy ≡ with_room (fresh_among next.part tasks next.touched.keys) tasks
    made_so = made ∙ ap (λ (us : List (List ℕ)). with_room us tasks) is

    pub next_room : HasRoom next.touched.keys next.part roomy
    next_room = subst (HasRoom next.touched.keys next.part) (sym made_so) (fresh_has_room next.part tasks next.touched.keys)

    pub next_taken : (new : TasksValue) → new ≡ after next roomy → new ≡ after next tasks
    next_taken new e = e ∙ ap (with_part next.touched.keys next.part) made_so ∙ room_filled next.part tasks next.touched.keys

    pub next_left : (new : TasksValue) → new ≡ taken_out next.fresh.items roomy → new ≡ tasks
    next_left new e = e ∙ ap (taken_out next.fresh.items) made ∙ room_taken_out next.fresh.items tasks next_free
