use Rattle.std.proofs.Common.{◌∙◌, ap, sym, subst, refl, inl, inr, None, Some, Option, List, length}
use Rattle.tw_model.specs.declared.Op.{Op}
use Rattle.tw_replica.specs.Prepared.{prepared_state}
use Rattle.tw_cli.specs.Ready.{KnowsTasks, AreReady, HoursRefused}
use Rattle.tw_cli.specs.declared.hours.Before.{Before}
use Rattle.tw_cli.proofs.Growth.{nothing_longer}
use Rattle.tw_cli.proofs.hours.ready_hours.Goals as goal

pub load_change-requires : goal.load_change-requires
load_change-requires g c = subst (λ (before : Option Before). KnowsTasks c.args.now.seconds before (prepared_state c.args.prepared.now)) c.in-Some.is c.requires

-- nothing is driven
pub returns-in_default-clause-ready : goal.returns-in_default-clause-ready
returns-in_default-clause-ready g c =
    subst (λ (before : Option Before). AreReady g.F.Folder.model g.J.Disk.model c.args.now.seconds before (prepared_state c.args.prepared.now) c.args.folder.now c.args.folder.now c.args.track.now c.args.track.now None) (sym c.in_default.is) (refl, refl)

pub returns-in_default-clause-any_moment : goal.returns-in_default-clause-any_moment
returns-in_default-clause-any_moment g c = inl (refl, refl)

-- nothing has moved
pub returns-then-before-len-clause-ready : goal.returns-then-before-len-clause-ready
returns-then-before-len-clause-ready g c =
    subst (λ (before : Option Before). AreReady g.F.Folder.model g.J.Disk.model c.args.now.seconds before (prepared_state c.args.prepared.now) c.args.folder.now c.args.folder.now c.args.track.now c.args.track.now None) (sym c.in-Some.is)
    (c.if-before-len.true ∙ c.len.ensures ∙ ap (λ (ops : List Op). length ops) c.pending.ensures, (refl, refl))

pub returns-then-before-len-clause-any_moment : goal.returns-then-before-len-clause-any_moment
returns-then-before-len-clause-any_moment g c = inl (refl, refl)

-- the change is ready
pub returns-in-Ok-clause-ready : goal.returns-in-Ok-clause-ready
returns-in-Ok-clause-ready g c =
    subst (λ (before : Option Before). AreReady g.F.Folder.model g.J.Disk.model c.args.now.seconds before (prepared_state c.args.prepared.now) c.args.folder.now c.load_change.new.folder c.args.track.now c.load_change.new.track (Some c.in-Ok.change)) (sym c.in-Some.is) (
      λ same. c.if-before-len.false (same ∙ sym (c.len.ensures ∙ ap (λ (ops : List Op). length ops) c.pending.ensures)),
      c.in-Ok.ensures.ready,
    )

pub returns-in-Ok-clause-any_moment : goal.returns-in-Ok-clause-any_moment
returns-in-Ok-clause-any_moment g c = inr c.load_change.ensures.any_moment

-- it is not
pub returns-in-Err-clause-refused : goal.returns-in-Err-clause-refused
returns-in-Err-clause-refused g c =
    subst (λ (before : Option Before). HoursRefused g.F.Folder.model g.J.Disk.model c.args.folder.now c.load_change.new.folder c.args.track.now c.load_change.new.track c.args.now.seconds before (prepared_state c.args.prepared.now).tasks c.in-Err.error) (sym c.in-Some.is)
    c.in-Err.ensures.refused

pub returns-in-Err-clause-any_moment : goal.returns-in-Err-clause-any_moment
returns-in-Err-clause-any_moment g c = inr c.load_change.ensures.any_moment

-- nothing is loaded
pub returns-in_default-clause-growth : goal.returns-in_default-clause-growth
returns-in_default-clause-growth g c = λ tells. nothing_longer g.J.Disk.model g.met.J.Disk.only_now c.args.track.now 29

pub returns-then-before-len-clause-growth : goal.returns-then-before-len-clause-growth
returns-then-before-len-clause-growth g c = λ tells. nothing_longer g.J.Disk.model g.met.J.Disk.only_now c.args.track.now 29
