-- The pending operations in the bodies of commits.
use Rattle.std.proofs.Common.{◌≡◌, ℕ, zero, suc, ◌+◌, ◌-◌, ◌^◌, ◌<◌, ◌≤◌, Bool, true, false, cond, List, [], ◌∷◌, ◌++◌, length, get_or, take, drop, Option, Some, None, refl, sym, ap, subst, ◌∙◌, arith}
use Rattle.std.specs.Prelude.{◌==◌}
use Rattle.std.specs.List.{AllByRecursion}
use Rattle.std.specs.Global.{Vec}
use Rattle.std.specs.Int.{w32}
use Rattle.std.proofs.lemmas.Option.{same_Some, cond_some}
use Rattle.std.proofs.lemmas.List.{append-nil, append_assoc, length-append, take-append-drop, take_more, take_all, drop_more, drop_all}
use Rattle.tw_model.specs.declared.Op.{Op}
use Rattle.tw_bodies.specs.Body.{Step, body_of, IsStep, is_undo_point, has_no_point, is_group}
use Rattle.tw_bodies.specs.Body.Step.{Commit, Undo, Sync, Carried, Partial, Checkpoint}
use Rattle.tw_bodies.specs.Reading.{op_at, group_of, commit_of, sync_op_at, sync_of, carried_of, all_ops_of, partial_of, place_at, tasks_at, checkpoint_of, step_of}
use Rattle.tw_fields.specs.Reading.{◌>>=◌, number_at, uuid_at, many_at, counted_at}
use Rattle.tw_state.specs.State.{in_front, split_group}
use Rattle.tw_state.specs.Groups.{ops_or_none, group_in, groups_in, IsCounted, AreCounted, IsLastOf, IsLast}
use Rattle.tw_state.specs.declared.pending.Group.{Group}
use Rattle.tw_state.proofs.LastUndoPoint.{no_point}
use Rattle.tw_fields.proofs.FieldsSpelled.{bind_some}
use Rattle.tw_numbers.proofs.Basics.{both_hold}
use Rattle.tw_bodies.proofs.StepAgain.{step_again}
use Rattle.tw_state.proofs.Groups.{group_read}

-- ---- operations of bodies, one after another

groups-append : (xs ys : List Group) → groups_in (xs ++ ys) ≡ groups_in xs ++ groups_in ys
groups-append [] ys = refl
groups-append (x ∷ xs) ys = ap (λ (l : List Op). group_in x.body.items ++ l) (groups-append xs ys) ∙ sym (append_assoc (group_in x.body.items) (groups_in xs) (groups_in ys))

pub groups_push : (xs : List Group) (x : Group) → groups_in (xs ++ x ∷ []) ≡ groups_in xs ++ group_in x.body.items
groups_push xs x = groups-append xs (x ∷ []) ∙ ap (λ (l : List Op). groups_in xs ++ l) (append-nil (group_in x.body.items))

-- one body more
pub one_more : (bodies : List Group) (at : ℕ) (kept : Group) (ops more whole : List Op) → at < length bodies → kept ≡ get_or bodies at kept → more ≡ group_in kept.body.items → ops ++ groups_in (drop at bodies) ≡ whole → (ops ++ more) ++ groups_in (drop (at + 1) bodies) ≡ whole
one_more bodies at kept ops more whole lt read is so_far =
    let next : drop at bodies ≡ kept ∷ drop (at + 1) bodies = drop_more bodies at kept lt ∙ ap (λ (x : Group). x ∷ drop (at + 1) bodies) (sym read) in
    append_assoc ops more (groups_in (drop (at + 1) bodies)) ∙ ap (λ (l : List Op). ops ++ (l ++ groups_in (drop (at + 1) bodies))) is
    ∙ ap (λ (l : List Op). ops ++ l) (sym (ap groups_in next)) ∙ so_far

-- no body is left
pub none_left : (bodies : List Group) (at : ℕ) (ops whole : List Op) → length bodies ≤ at → ops ++ groups_in (drop at bodies) ≡ whole → ops ≡ whole
none_left bodies at ops whole le so_far = sym (append-nil ops) ∙ ap (λ (l : List Group). ops ++ groups_in l) (sym (drop_all at bodies le)) ∙ so_far

-- the bodies up to a place, and those before it with the last of them
pub up_to : (bodies : List Group) (at : ℕ) (kept : Group) → at ≤ length bodies → 0 < at → kept ≡ get_or bodies (at - 1) kept → groups_in (take at bodies) ≡ groups_in (take (at - 1) bodies) ++ group_in kept.body.items
up_to bodies at kept inside some read =
    let front = take (at - 1) bodies in
    let longer : take at bodies ≡ front ++ kept ∷ [] = ap (λ i. take i bodies) {x = at} {y = at - 1 + 1} (omega arith) ∙ take_more bodies (at - 1) kept (omega arith) ∙ ap (λ (x : Group). front ++ x ∷ []) (sym read) in
    ap groups_in longer ∙ groups_push front kept

-- ---- the last group

pub group_is : (body : List ℕ) → is_group (group_in body) ≡ true
group_is body = by (group_of (drop 2 body)) refl
  where
    by : (o : Option (List Op)) → group_of (drop 2 body) ≡ o → is_group (ops_or_none o) ≡ true
    by None e = refl
    by (Some ops) e = group_read (drop 2 body) ops e

-- a group after others is the last
split_behind : (xs ys : List Op) → is_group ys ≡ true → 1 ≤ length ys → split_group (xs ++ ys) ≡ Some (xs, drop 1 ys)
split_behind [] [] group some = absurd (omega arith)
split_behind [] (y ∷ ys) group some =
    let b = both_hold (is_undo_point y) (has_no_point ys) group in
    ap (in_front y ys) (no_point ys b.1) ∙ ap (λ p. cond p (Some ([], ys)) None) b.0
split_behind (x ∷ xs) ys group some = ap (in_front x (xs ++ ys)) (split_behind xs ys group some)

pub last_split : (pending ops : List Op) (last : IsLastOf pending ops) → split_group pending ≡ Some (last.left, drop 1 ops)
last_split pending ops last = ap split_group last.whole ∙ split_behind last.left ops last.group last.some

-- what stands before the last group is told by the operations alone
pub same_left : (pending xs ops more : List Op) (last : IsLastOf pending ops) → pending ≡ xs ++ more → is_group more ≡ true → 1 ≤ length more → xs ≡ last.left
same_left pending xs ops more last whole group some = first (xs, drop 1 more) (last.left, drop 1 ops) (sym (ap split_group whole ∙ split_behind xs more group some) ∙ last_split pending ops last)
  where
    first : (p q : List Op × List Op) → Some p ≡ Some q → p.0 ≡ q.0
    first p q e = ap (λ (o : Option (List Op × List Op)). of o) e
      where
        of : Option (List Op × List Op) → List Op
        of None = p.0
        of (Some r) = r.0

pub last_told : (pending : List Op) (found : Option (Vec Op)) (group : Vec Op) → IsLast pending found → found ≡ Some group → IsLastOf pending group.items
last_told pending found group is e = subst (IsLast pending) e is

pub none_told : (pending : List Op) (found : Option (Vec Op)) → IsLast pending found → found ≡ None → split_group pending ≡ None
none_told pending found is e = ap split_group (subst (IsLast pending) e is)

pub no_last : (ops : List Op) → IsLastOf [] ops → ⊥
no_last ops last =
    let size : 0 ≡ length last.left + length ops = ap length last.whole ∙ length-append last.left ops in
    let some = last.some in
    absurd (omega arith)

-- no operations leave a list as it is
pub none_kept : (xs ys : List Op) → 0 ≡ length ys → xs ≡ xs ++ ys
none_kept xs [] e = sym (append-nil xs)
none_kept xs (y ∷ ys) e = absurd (omega arith)

-- ---- bodies that are kept

all-push : (bodies : List Group) (kept : Group) → AllByRecursion IsCounted bodies → IsCounted kept → AllByRecursion IsCounted (bodies ++ kept ∷ [])
all-push [] kept each is = (is, tt)
all-push (b ∷ bodies) kept each is = (each.0, all-push bodies kept each.1 is)

pub kept_more : (bodies : List Group) (kept : Group) (count all : ℕ) → AreCounted bodies count → IsCounted kept → all ≡ count + kept.count → AreCounted (bodies ++ kept ∷ []) all
kept_more bodies kept count all are is sum = record {
  each = all-push bodies kept are.each is;
  count =
      let size : length (groups_in (bodies ++ kept ∷ [])) ≡ length (groups_in bodies) + length (group_in kept.body.items) = ap length (groups_push bodies kept) ∙ length-append (groups_in bodies) (group_in kept.body.items) in
      let a = are.count in
      let b = is.count in
      omega arith;
}

all_front : (xs : List Group) (x : Group) → AllByRecursion IsCounted (xs ++ x ∷ []) → AllByRecursion IsCounted xs × IsCounted x
all_front [] x each = (tt, each.0)
all_front (y ∷ xs) x each = let rest = all_front xs x each.1 in ((each.0, rest.0), rest.1)

pub kept_fewer : (xs : List Group) (x : Group) (count : ℕ) → AreCounted (xs ++ x ∷ []) count → AreCounted xs (count - x.count) × (x.count ≤ count) × IsCounted x
kept_fewer xs x count are =
    let each = all_front xs x are.each in
    let size : length (groups_in (xs ++ x ∷ [])) ≡ length (groups_in xs) + length (group_in x.body.items) = ap length (groups_push xs x) ∙ length-append (groups_in xs) (group_in x.body.items) in
    let a = are.count in
    let b = each.1.count in
    (record { each = each.0; count = omega arith }, omega arith, each.1)

each_at : (bodies : List Group) (at : ℕ) (d : Group) → AllByRecursion IsCounted bodies → at < length bodies → IsCounted (get_or bodies at d)
each_at [] at d each lt = absurd (omega arith)
each_at (b ∷ bodies) zero d each lt = each.0
each_at (b ∷ bodies) (suc at) d each lt = each_at bodies at d each.1 (omega arith)

-- one body less, from the end
pub fewer_before : (bodies : List Group) (at : ℕ) (kept : Group) (first : ℕ) → AllByRecursion IsCounted bodies → at ≤ length bodies → 0 < at → kept ≡ get_or bodies (at - 1) kept → first ≡ length (groups_in (take at bodies)) → (kept.count ≤ first) × (first - kept.count ≡ length (groups_in (take (at - 1) bodies)))
fewer_before bodies at kept first each inside some read is =
    let own : IsCounted kept = subst IsCounted (sym read) (each_at bodies (at - 1) kept each (omega arith)) in
    let front = groups_in (take (at - 1) bodies) in
    let size : length (groups_in (take at bodies)) ≡ length front + length (group_in kept.body.items) = ap length (up_to bodies at kept inside some read) ∙ length-append front (group_in kept.body.items) in
    let a = own.count in
    (omega arith, omega arith)

pub some_before : (bodies : List Group) (at first from : ℕ) → first ≡ length (groups_in (take at bodies)) → from < first → 0 < at
some_before bodies zero first from is lt = absurd (omega arith)
some_before bodies (suc at) first from is lt = omega arith

drop_behind : (xs ys : List Op) (from : ℕ) → length xs ≤ from → drop from (xs ++ ys) ≡ drop (from - length xs) ys
drop_behind [] ys from le = ap (λ k. drop k ys) {x = from} {y = from - 0} (omega arith)
drop_behind (x ∷ xs) ys zero le = absurd (omega arith)
drop_behind (x ∷ xs) ys (suc from) le = drop_behind xs ys from (omega arith) ∙ ap (λ k. drop k ys) {x = from - length xs} {y = suc from - suc (length xs)} (omega arith)

-- the last of them
pub last_kept : (bodies : List Group) (count : ℕ) (kept : Group) (ops : List Op) → AllByRecursion IsCounted bodies → count ≡ length bodies → 0 < count → kept ≡ get_or bodies (count - 1) kept → ops ≡ group_in kept.body.items → IsLastOf (groups_in bodies) ops
last_kept bodies count kept ops each len some read is =
    let own : IsCounted kept = subst IsCounted (sym read) (each_at bodies (count - 1) kept each (omega arith)) in
    let a = own.count in
    let b = own.some in
    let size : length ops ≡ length (group_in kept.body.items) = ap length is in
    record {
      left = groups_in (take (count - 1) bodies);
      whole = ap groups_in (sym (take_all count bodies (omega arith))) ∙ up_to bodies count kept (omega arith) some read ∙ ap (λ (l : List Op). groups_in (take (count - 1) bodies) ++ l) (sym is);
      group = ap is_group is ∙ group_is kept.body.items;
      some = omega arith;
    }

-- the operations after a number are in the last bodies
pub read_behind : (bodies : List Group) (at from first : ℕ) (ops : List Op) → first ≡ length (groups_in (take at bodies)) → first ≤ from → ops ≡ groups_in (drop at bodies) → drop (from - first) ops ≡ drop from (groups_in bodies)
read_behind bodies at from first ops is le read =
    let front = groups_in (take at bodies) in
    let whole : front ++ ops ≡ groups_in bodies = ap (λ (l : List Op). front ++ l) read ∙ sym (groups-append (take at bodies) (drop at bodies)) ∙ ap groups_in (take-append-drop at bodies) in
    ap (λ k. drop k ops) {x = from - first} {y = from - length front} (omega arith) ∙ sym (drop_behind front ops from (omega arith)) ∙ ap (drop from) whole

pub none_behind : (bodies : List Group) (at from first : ℕ) (ops : List Op) → first ≡ length (groups_in (take at bodies)) → first ≤ from → ops ≡ groups_in (drop at bodies) → length ops ≤ from - first → [] ≡ drop from (groups_in bodies)
none_behind bodies at from first ops is le read few = sym (drop_all (from - first) ops few) ∙ read_behind bodies at from first ops is le read

-- ---- the body of a commit

abbrev Holds : List Op → Step → Type 0
Holds found (Commit renumber ops) = found ≡ ops
Holds found Undo = Unit {0}
Holds found (Sync base ops) = Unit {0}
Holds found (Carried base ops) = Unit {0}
Holds found (Partial base ops pending) = Unit {0}
Holds found (Checkpoint base places tasks pending) = Unit {0}

with_flag : (flag : Bool) (rest : List ℕ) (step : Step) → (group_of rest >>= λ ops. Some (Commit flag ops)) ≡ Some step → Holds (ops_or_none (group_of rest)) step
with_flag flag rest step e =
    let g = bind_some (group_of rest) _ step e in
    subst (Holds (ops_or_none (group_of rest))) (same_Some _ step g.2) (ap ops_or_none g.1)

in_commit : (rest : List ℕ) (step : Step) → commit_of rest ≡ Some step → Holds (ops_or_none (group_of (drop 1 rest))) step
unfolding commit_of
in_commit [] step e = absurd cc
in_commit (zero ∷ rest) step e = with_flag false rest step e
in_commit (suc zero ∷ rest) step e = with_flag true rest step e
in_commit (suc (suc b) ∷ rest) step e = absurd cc

in_sync : (found : List Op) (rest : List ℕ) (step : Step) → sync_of rest ≡ Some step → Holds found step
unfolding sync_of
in_sync found rest step e =
    let u = bind_some (uuid_at rest) _ step e in
    let n = bind_some (number_at w32 u.0.1) _ step u.2 in
    let o = bind_some (many_at sync_op_at n.0.0 n.0.1) _ step n.2 in
    let made : Step = Sync u.0.0 o.0.0 in
    let here : Holds found made = tt in
    subst (Holds found) (cond_some (length o.0.1 == 0) made step o.2).1 here

in_carried : (found : List Op) (rest : List ℕ) (step : Step) → carried_of rest ≡ Some step → Holds found step
unfolding carried_of
in_carried found rest step e =
    let u = bind_some (uuid_at rest) _ step e in
    let n = bind_some (number_at w32 u.0.1) _ step u.2 in
    let o = bind_some (many_at sync_op_at n.0.0 n.0.1) _ step n.2 in
    let made : Step = Carried u.0.0 o.0.0 in
    let here : Holds found made = tt in
    subst (Holds found) (cond_some (length o.0.1 == 0) made step o.2).1 here

in_partial : (found : List Op) (rest : List ℕ) (step : Step) → partial_of rest ≡ Some step → Holds found step
unfolding partial_of
in_partial found rest step e =
    let u = bind_some (uuid_at rest) _ step e in
    let n = bind_some (number_at w32 u.0.1) _ step u.2 in
    let o = bind_some (many_at sync_op_at n.0.0 n.0.1) _ step n.2 in
    let p = bind_some (all_ops_of o.0.1) _ step o.2 in
    let made : Step = Partial u.0.0 o.0.0 p.0 in
    let here : Holds found made = tt in
    subst (Holds found) {x = made} (same_Some made step p.2) here

in_checkpoint : (found : List Op) (rest : List ℕ) (step : Step) → checkpoint_of rest ≡ Some step → Holds found step
unfolding checkpoint_of
in_checkpoint found rest step e =
    let u = bind_some (uuid_at rest) _ step e in
    let p = bind_some (counted_at place_at u.0.1) _ step u.2 in
    let t = bind_some (tasks_at p.0.1) _ step p.2 in
    let n = bind_some (number_at w32 t.0.1) _ step t.2 in
    let o = bind_some (many_at op_at n.0.0 n.0.1) _ step n.2 in
    let made : Step = Checkpoint u.0.0 p.0.0 t.0.0 o.0.0 in
    let here : Holds found made = tt in
    subst (Holds found) {x = made} (cond_some (length o.0.1 == 0) made step o.2).1 here

in_body : (body : List ℕ) (step : Step) → step_of body ≡ Some step → Holds (group_in body) step
unfolding step_of
in_body [] step e = absurd cc
in_body (zero ∷ rest) step e = absurd cc
in_body (suc zero ∷ rest) step e = in_commit rest step e
in_body (suc (suc zero) ∷ rest) step e = subst (Holds (group_in (2 ∷ rest))) (cond_some (length rest == 0) Undo step e).1 tt
in_body (suc (suc (suc zero)) ∷ rest) step e = in_sync (group_in (3 ∷ rest)) rest step e
in_body (suc (suc (suc (suc zero))) ∷ rest) step e = in_carried (group_in (4 ∷ rest)) rest step e
in_body (suc (suc (suc (suc (suc zero)))) ∷ rest) step e = in_checkpoint (group_in (5 ∷ rest)) rest step e
in_body (suc (suc (suc (suc (suc (suc zero))))) ∷ rest) step e = in_partial (group_in (6 ∷ rest)) rest step e
in_body (suc (suc (suc (suc (suc (suc (suc b)))))) ∷ rest) step e = absurd cc

-- a body that holds a commit holds its operations
pub commit_holds : (body : List ℕ) (renumber : Bool) (ops : List Op) → step_of body ≡ Some (Commit renumber ops) → group_in body ≡ ops
commit_holds body renumber ops e = in_body body (Commit renumber ops) e

-- bytes that are too few hold none
pub short_holds : (body : List ℕ) → length body < 2 → group_in body ≡ []
unfolding group_of
short_holds [] lt = refl
short_holds (a ∷ []) lt = refl
short_holds (a ∷ b ∷ rest) lt = absurd (omega arith)

-- what was written of a commit holds its operations
pub written_holds : (body : List ℕ) (renumber : Bool) (ops : List Op) → IsStep (Commit renumber ops) → body ≡ body_of (Commit renumber ops) → length body < 2 ^ 32 → group_in body ≡ ops
written_holds body renumber ops is spelled lt =
    let step = Commit renumber ops in
    ap group_in spelled ∙ commit_holds (body_of step) renumber ops (step_again step is (subst (λ (b : List ℕ). length b < 2 ^ 32) spelled lt))

-- the last group of the same operations is let go
pub popped : (old same new ops : List Op) → same ≡ old → (last : IsLastOf old ops) → ((ops : List Op) (last : IsLastOf same ops) → new ≡ last.left) → new ≡ last.left
popped old same new ops e last pops = pops ops (record { left = last.left; whole = e ∙ last.whole; group = last.group; some = last.some })
