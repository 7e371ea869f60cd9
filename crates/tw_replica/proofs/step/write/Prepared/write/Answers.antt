use Rattle.std.proofs.Common.{◌++◌, ◌∷◌, ◌∙◌, ◌^◌, [], ap, sym, subst, List, ℕ, length, inl}
use Rattle.std.specs.Prelude.{min}
use Rattle.tw_journal.specs.Record.{rows}
use Rattle.tw_journal.specs.Journal.{IsOpenOn}
use Rattle.tw_world.specs.Disk.{LeavesOnly}
use Rattle.tw_world.proofs.Moments.{started}
use Rattle.tw_journal.proofs.Offsets.{left_records}
use Rattle.tw_replica.specs.Replica.{magic}
use Rattle.tw_replica.specs.Prepared.{RecordsOrAll, bodies_in, prepared_bodies}
use Rattle.tw_replica.proofs.RecordSizes.{nothing_grown, row_grown, refused_grown}
use Rattle.tw_replica.proofs.step.write.Prepared.write.Goals as goal

pub returns-in_default-clause-any_moment : goal.returns-in_default-clause-any_moment
returns-in_default-clause-any_moment g c = λ bodies on.
    started g.D.Disk.model g.met.D.Disk.only_now c.args.disk.now (RecordsOrAll bodies (prepared_bodies c.args.self))
    (λ f left. inl (left_records g.D.Disk.model magic c.args.self.journal c.args.disk.now bodies on f left))

pub returns-in-Ok-clause-journal : goal.returns-in-Ok-clause-journal
returns-in-Ok-clause-journal g c = λ bodies on.
    subst (λ (more : List (List ℕ)). IsOpenOn g.D.Disk.model magic c.append.new.self c.append.new.disk (bodies ++ more))
    (ap (λ (b : List ℕ). b ∷ []) c.as_slice.ensures.value ∙ ap bodies_in (sym c.in-Some.is)) (c.in-Ok.ensures.appended magic bodies on)

pub returns-in-Ok-clause-any_moment : goal.returns-in-Ok-clause-any_moment
returns-in-Ok-clause-any_moment g c = λ bodies on.
    subst (λ (more : List (List ℕ)). LeavesOnly g.D.Disk.model c.args.disk.now c.append.new.disk (RecordsOrAll bodies more))
    (ap (λ (b : List ℕ). b ∷ []) c.as_slice.ensures.value ∙ ap bodies_in (sym c.in-Some.is)) (c.append.ensures.any_moment magic bodies on)

pub returns-in-Err-clause-any_moment : goal.returns-in-Err-clause-any_moment
returns-in-Err-clause-any_moment g c = λ bodies on.
    subst (λ (more : List (List ℕ)). LeavesOnly g.D.Disk.model c.args.disk.now c.append.new.disk (RecordsOrAll bodies more))
    (ap (λ (b : List ℕ). b ∷ []) c.as_slice.ensures.value ∙ ap bodies_in (sym c.in-Some.is)) (c.append.ensures.any_moment magic bodies on)

pub returns-in_default-clause-growth : goal.returns-in_default-clause-growth
returns-in_default-clause-growth g c = λ bodies on.
    nothing_grown g.D.Disk.model g.met.D.Disk.only_now c.args.disk.now (min (length (rows (prepared_bodies c.args.self))) (2 ^ 30))

pub returns-in-Ok-clause-growth : goal.returns-in-Ok-clause-growth
returns-in-Ok-clause-growth g c = λ bodies on.
    row_grown g.D.Disk.model g.met.D.Disk.only_now c.args.disk.now c.append.new.disk (prepared_bodies c.args.self) c.as_slice.result.now
    (sym (ap (λ (b : List ℕ). b ∷ []) c.as_slice.ensures.value ∙ ap bodies_in (sym c.in-Some.is))) c.in-Ok.ensures.accepted.2
    (c.append.ensures.growth magic bodies on)

pub returns-in-Err-clause-growth : goal.returns-in-Err-clause-growth
returns-in-Err-clause-growth g c = λ bodies on.
    refused_grown g.D.Disk.model g.met.D.Disk.only_now c.args.disk.now c.append.new.disk (prepared_bodies c.args.self) c.args.self.journal c.append.new.self c.as_slice.result.now c.in-Err.error
    (sym (ap (λ (b : List ℕ). b ∷ []) c.as_slice.ensures.value ∙ ap bodies_in (sym c.in-Some.is))) c.in-Err.ensures.refused
    (c.append.ensures.growth magic bodies on)
