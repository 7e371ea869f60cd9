use Rattle.std.proofs.Common.{◌≡◌, Option, sym, subst, ap, ◌∙◌}
use Rattle.tw_path.specs.Fold.{IsFold}
use Rattle.tw_path.proofs.Folds.{fold_is_one}
use Rattle.tw_state.specs.State.{start_of}
use Rattle.tw_replica.specs.Replica.{held_state}
use Rattle.tw_replica.proofs.HeldSound.{held_sound}
use Rattle.tw_sync.proofs.Results.{passed_on}
use Rattle.tw_audit.specs.Differences.{difference}
use Rattle.tw_audit.proofs.Differing.{equal_if, none_if}
use Rattle.tw_audit.proofs.Stopping.{no_memory}
use Rattle.tw_audit.proofs.auditing.audit.Goals as goal

pub returns-in_err-here-clause-refused : goal.returns-in_err-here-clause-refused
returns-in_err-here-clause-refused g c =
    passed_on c.from_residual-in_err-here.result _ _ c.from_residual-in_err-here.ensures.1
    (no_memory g.L.Link.model c.args.client c.args.host.now (held_state c.args.replica.now).base c.args.link.now c.fold_to.new.link c.in_ok-folded.ensures.folded.heard)

pub returns-in_err-difference-clause-refused : goal.returns-in_err-difference-clause-refused
returns-in_err-difference-clause-refused g c =
    passed_on c.from_residual-in_err-difference.result _ _ c.from_residual-in_err-difference.ensures.1
    (no_memory g.L.Link.model c.args.client c.args.host.now (held_state c.args.replica.now).base c.args.link.now c.fold_to.new.link c.in_ok-folded.ensures.folded.heard)

pub returns-clause-told : goal.returns-clause-told
returns-clause-told g c = λ honest.
    let there = c.in_ok-folded.folded.tasks in
    let f = c.in_ok-folded.ensures.folded in
    let way = f.way honest in
    record {
      there = there;
      fold = record {
        front = way.fold.front;
        back = way.fold.back;
        cut = record { split = way.fold.cut.split; at = way.fold.cut.at ∙ f.at ∙ c.base.ensures };
        ops = way.fold.ops;
        reads = way.fold.reads;
        made = way.fold.made;
      };
      versions = way.count;
      compared = c.in_ok-difference.ensures ∙ ap (λ t. difference t there) c.in_ok-here.ensures;
    }

pub returns-clause-same : goal.returns-clause-same
returns-clause-same g c = λ honest.
    let there = c.in_ok-folded.folded.tasks in
    let f = c.in_ok-folded.ensures.folded in
    let chain = g.L.Link.model.chain c.fold_to.new.link in
    let state = held_state c.args.replica.now in
    let whole = (c.fold_to.ensures.asks.grows honest).whole in
    let fold : IsFold chain state.base there = subst (λ v. IsFold chain v there) (f.at ∙ c.base.ensures) (f.way honest).fold in
    let compared : c.in_ok-difference.difference ≡ difference (start_of state) there = c.in_ok-difference.ensures ∙ ap (λ t. difference t there) c.in_ok-here.ensures in (
      (λ none. record { sound = held_sound c.args.replica.now; folded = subst (λ t. IsFold chain state.base t) (sym (equal_if (start_of state) there (sym compared ∙ none))) fold }),
      (λ agrees. compared ∙ none_if (start_of state) there (fold_is_one chain state.base (start_of state) there whole agrees.folded fold)),
    )
