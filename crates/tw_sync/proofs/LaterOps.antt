-- Operations that came after those that were pending when a sync was refused.
use Rattle.std.proofs.Common.{◌≡◌, ℕ, Bool, true, false, cond, is_some, List, [], ◌∷◌, ◌++◌, Option, Some, None, refl, sym, ap, subst, ◌∙◌}
use Rattle.std.proofs.lemmas.List.{append_assoc, append-nil}
use Rattle.tw_model.specs.Ops.{TasksValue}
use Rattle.tw_model.specs.LocalOps.{plain, apply_all_local, take_back_all}
use Rattle.tw_model.specs.declared.Op.{Op}
use Rattle.tw_model.proofs.LocalOps.{all_taken_back}
use Rattle.tw_state.specs.State.{State, split_group, in_front, misfit, unless, moved_to, is_idle}
use Rattle.tw_state.specs.Sound.{IsUndone}
use Rattle.tw_state.proofs.Soundness.{undo_leads_back}
use Rattle.tw_sync.specs.Laws.LaterOps.{Follows, CommitKeepsLaterOps, UndoStaysBehind, SentForFollowing}
use Rattle.tw_sync.proofs.PendingOps.{plain-append, back-append, fits_from, some_state}
use Rattle.tw_path.proofs.Sending.{sent_stays}
use Rattle.tw_outcome.specs.End.{starts_at}
use Rattle.tw_outcome.proofs.Ends.{all_in_groups}

-- ---- a commit

-- what it puts behind what is pending
moved_follows : (renumber : Bool) (ops : List Op) (old new : State) → unless (misfit 0 old.tasks ops) (moved_to renumber (old.pending ++ ops) (apply_all_local old.tasks ops) old) ≡ Some new → Follows old new ops
moved_follows renumber ops old new e = by (misfit 0 old.tasks ops) refl e
  where
    by : (o : Option ℕ) → misfit 0 old.tasks ops ≡ o → unless o (moved_to renumber (old.pending ++ ops) (apply_all_local old.tasks ops) old) ≡ Some new → Follows old new ops
    by None m f =
        let back = all_taken_back old.tasks ops (fits_from 0 old.tasks ops m) in
        subst (λ s. Follows old s ops) (some_state _ new f)
        (record { base = refl; start = back-append (apply_all_local old.tasks ops) old.pending ops ∙ ap (λ (t : TasksValue). take_back_all t old.pending) back; pending = refl })
    by (Some n) m f = absurd cc

idle_follows : (renumber : Bool) (ops : List Op) (old new : State) → is_idle renumber ops ≡ true → Some old ≡ Some new → Follows old new ops
idle_follows true ops old new idle e = absurd cc
idle_follows false [] old new idle e = subst (λ s. Follows old s []) (some_state old new e) (record { base = refl; start = refl; pending = sym (append-nil old.pending) })
idle_follows false (op ∷ ops) old new idle e = absurd cc

committed_follows : (renumber : Bool) (ops : List Op) (old new : State) → cond (is_idle renumber ops) (Some old) (unless (misfit 0 old.tasks ops) (moved_to renumber (old.pending ++ ops) (apply_all_local old.tasks ops) old)) ≡ Some new → Follows old new ops
committed_follows renumber ops old new e = by (is_idle renumber ops) refl e
  where
    by : (idle : Bool) → is_idle renumber ops ≡ idle → cond idle (Some old) (unless (misfit 0 old.tasks ops) (moved_to renumber (old.pending ++ ops) (apply_all_local old.tasks ops) old)) ≡ Some new → Follows old new ops
    by true idle f = idle_follows renumber ops old new idle f
    by false idle f = moved_follows renumber ops old new f

pub commit_follows : CommitKeepsLaterOps
commit_follows old new after renumber more ops f e =
    let c : Follows new after ops = committed_follows renumber ops new after e in
    record { base = c.base ∙ f.base; start = c.start ∙ f.start; pending = c.pending ∙ ap (λ xs. xs ++ ops) f.pending ∙ append_assoc old.pending more ops }

-- ---- an undo

-- the last group of operations behind others is that of these
split_behind : (xs ys : List Op) (parts : List Op × List Op) → split_group ys ≡ Some parts → split_group (xs ++ ys) ≡ Some (xs ++ parts.0, parts.1)
split_behind [] ys parts e = e
split_behind (x ∷ xs) ys parts e = ap (in_front x (xs ++ ys)) (split_behind xs ys parts e)

first : (a b : List Op × List Op) → Some a ≡ Some b → a.0 ≡ b.0
first a b e = (let same : a ≡ b = cc in ap (λ (x : List Op × List Op). x.0) same)

pub undo_stays_behind : UndoStaysBehind
undo_stays_behind old new after more sound f some e = by (split_group more) refl some
  where
    back : IsUndone new after
    back = undo_leads_back new after sound e

    by : (o : Option (List Op × List Op)) → split_group more ≡ o → is_some o ≡ true → (left : List Op) × Follows old after left
    by None m none = absurd cc
    by (Some parts) m is =
        let split : split_group new.pending ≡ Some (old.pending ++ parts.0, parts.1) = ap split_group f.pending ∙ split_behind old.pending more parts m in
        let same : Some (after.pending, back.group) ≡ Some (old.pending ++ parts.0, parts.1) = sym back.split ∙ split in
        (parts.0, record { base = back.base ∙ f.base; start = back.start ∙ f.start; pending = first (after.pending, back.group) (old.pending ++ parts.0, parts.1) same })

-- ---- what was sent

pub sent_for_following : SentForFollowing
sent_for_following old new chain now more mine later w sound sound_now was grows f =
    sent_stays (starts_at old) (starts_at new) chain now mine later (later ++ plain more) w was f.base f.start
    (sym (all_in_groups new.pending sound_now.begins)
    ∙ ap plain f.pending
    ∙ plain-append old.pending more
    ∙ ap (λ xs. xs ++ plain more) (all_in_groups old.pending sound.begins ∙ was.all)
    ∙ append_assoc mine later (plain more))
    grows
