use Rattle.std.proofs.Common.{◌≡◌, ◌∙◌, List, ℕ, length, ap, sym, subst, refl, arith}
use Rattle.std.proofs.lemmas.Bool.{true≢false}
use Rattle.tw_model.specs.Ops.{TasksValue}
use Rattle.tw_model.specs.LocalOps.{plain}
use Rattle.tw_model.specs.declared.Op.{Op}
use Rattle.tw_replica.specs.Replica.{held_state}
use Rattle.tw_path.specs.Walk.{StandsAt, before_pending}
use Rattle.tw_sync.proofs.cursor.Cursor.start.Goals as goal

pub returns : goal.returns
returns c =
    let state = held_state c.args.replica.now in
    let ops = c.in_ok-ops.ops.items in
    let kept : c.in_ok-ops.ops.items ≡ (held_state c.args.replica.now).pending = c.in_ok-ops.ensures ∙ c.pending.ensures in
    let walker = c.in_ok-walker.walker in
    let one = subst (λ (t : TasksValue). StandsAt t (before_pending c.base.result t ops) walker) c.tasks.ensures c.in_ok-walker.ensures in
    let two = subst (λ (b : List ℕ). StandsAt state.tasks (before_pending b state.tasks ops) walker) c.base.ensures one in
    let count = c.count_exchanged-pending.ensures ∙ ap (λ (p : List Op). length (plain p)) kept in
    record {
      on_path = record {
        path = tt;
        stands = subst (λ (p : List Op). StandsAt state.tasks (before_pending state.base state.tasks p) walker) kept two;
        versions = refl;
        bytes = refl;
        pending = count;
        unsent = (let n = count in omega (arith, n));
        wants = λ wanted. absurd (true≢false (sym wanted));
      };
      conflicts = refl;
      calm = refl;
    }
