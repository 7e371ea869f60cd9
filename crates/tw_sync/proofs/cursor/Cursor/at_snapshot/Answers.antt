use Rattle.std.proofs.Common.{List, refl, sym, subst}
use Rattle.std.proofs.lemmas.Bool.{true≢false}
use Rattle.tw_model.specs.declared.Op.{Op}
use Rattle.tw_path.specs.Walk.{StandsAt, before_pending}
use Rattle.tw_sync.proofs.cursor.Cursor.at_snapshot.Goals as goal

pub returns : goal.returns
returns c = λ state. record {
  on_path = record {
    path = tt;
    stands = subst (λ (p : List Op). StandsAt c.args.tasks.now (before_pending c.args.version c.args.tasks.now p) c.in_ok-walker.walker) c.new-none.ensures.items c.in_ok-walker.ensures;
    versions = refl;
    bytes = refl;
    pending = refl;
    unsent = refl;
    wants = λ wanted. absurd (true≢false (sym wanted));
  };
  conflicts = refl;
  calm = refl;
}
