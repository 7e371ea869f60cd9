use Rattle.std.specs.Prelude.{if◌then◌else◌, Bool, OnOk, IfErr}
use Rattle.std.proofs.Common.{◌+◌, ◌∷◌, [], ◌∙◌, inl, inr, arith, sym, subst, length}
use Rattle.std.proofs.lemmas.Result.{on_ok_weaker}
use Rattle.tw_world.proofs.Moments.{weaker}
use Rattle.tw_journal.specs.Record.{IsLongerBy}
use Rattle.tw_journal.specs.Checkpoint.{IsReplacing}
use Rattle.tw_journal.specs.Journal.{IsOpenOn, AppendRefused}
use Rattle.tw_journal.specs.Upgrade.{upgraded, HasAtMost, OnOpen, RecordsOrThose}
use Rattle.tw_journal.proofs.journal.Journal.upgrade.Goals as goal

pub returns-then-can_checkpoint-clause-upgraded : goal.returns-then-can_checkpoint-clause-upgraded
returns-then-can_checkpoint-clause-upgraded g c =
    let m = g.D.Disk.model in
    let magic = c.args.magic.now in
    subst (λ (b : Bool). OnOk c.write_version.result (OnOpen m magic c.args.self.now c.args.disk.now (λ bodies. IsOpenOn m magic c.write_version.new.self c.write_version.new.disk (if b then bodies else c.args.body.now ∷ []))))
    (sym c.if-can_checkpoint.true ∙ c.can_checkpoint.ensures.journal) (on_ok_weaker c.write_version.result (λ all bodies was. all magic bodies was c.requires.second) c.write_version.ensures.upgraded)

pub returns-then-can_checkpoint-clause-any_moment : goal.returns-then-can_checkpoint-clause-any_moment
returns-then-can_checkpoint-clause-any_moment g c = λ bodies was.
    let magic = c.args.magic.now in
    weaker g.D.Disk.model c.args.disk.now c.write_version.new.disk (HasAtMost magic bodies c.args.self.now.end) (RecordsOrThose magic bodies (upgraded c.args.self.now bodies c.args.body.now))
    (c.write_version.ensures.any_moment magic bodies was c.requires.second) (λ f has. inl has.has)

pub returns-then-can_checkpoint-clause-growth : goal.returns-then-can_checkpoint-clause-growth
returns-then-can_checkpoint-clause-growth g c = λ bodies was.
    let magic = c.args.magic.now in
    weaker g.D.Disk.model c.args.disk.now c.write_version.new.disk (HasAtMost magic bodies c.args.self.now.end) (IsLongerBy g.D.Disk.model c.args.disk.now (length c.args.body.now + 29))
    (c.write_version.ensures.any_moment magic bodies was c.requires.second) (λ f has. inr (omega (arith, has.long, was.end)))

pub returns-then-can_checkpoint-clause-refused : goal.returns-then-can_checkpoint-clause-refused
returns-then-can_checkpoint-clause-refused g c =
    let m = g.D.Disk.model in
    subst (λ (b : Bool). IfErr c.write_version.result (λ e. AppendRefused m c.args.self.now c.write_version.new.self c.args.disk.now c.write_version.new.disk (if b then 0 else length c.args.body.now + 5) e))
    (sym c.if-can_checkpoint.true ∙ c.can_checkpoint.ensures.journal) c.write_version.ensures.refused

pub returns-clause-upgraded : goal.returns-clause-upgraded
returns-clause-upgraded g c =
    let m = g.D.Disk.model in
    let magic = c.args.magic.now in
    subst (λ (b : Bool). OnOk c.replace_row.result (OnOpen m magic c.args.self.now c.args.disk.now (λ bodies. IsOpenOn m magic c.replace_row.new.self c.replace_row.new.disk (if b then bodies else c.args.body.now ∷ []))))
    (sym c.if-can_checkpoint.false ∙ c.can_checkpoint.ensures.journal) (on_ok_weaker c.replace_row.result (λ all bodies was. all magic bodies was c.requires.second) c.replace_row.ensures.upgraded)

pub returns-clause-any_moment : goal.returns-clause-any_moment
returns-clause-any_moment g c = λ bodies was.
    let magic = c.args.magic.now in
    weaker g.D.Disk.model c.args.disk.now c.replace_row.new.disk (IsReplacing magic (c.args.self.now.end + (length c.args.body.now + 29)) bodies c.args.body.now) (RecordsOrThose magic bodies (upgraded c.args.self.now bodies c.args.body.now))
    (c.replace_row.ensures.any_moment magic bodies was c.requires.second)
    (λ f has. subst (λ (b : Bool). RecordsOrThose magic bodies (if b then bodies else c.args.body.now ∷ []) f) (sym c.if-can_checkpoint.false ∙ c.can_checkpoint.ensures.journal) has.stands)

pub returns-clause-growth : goal.returns-clause-growth
returns-clause-growth g c = λ bodies was.
    let magic = c.args.magic.now in
    weaker g.D.Disk.model c.args.disk.now c.replace_row.new.disk (IsReplacing magic (c.args.self.now.end + (length c.args.body.now + 29)) bodies c.args.body.now) (IsLongerBy g.D.Disk.model c.args.disk.now (length c.args.body.now + 29))
    (c.replace_row.ensures.any_moment magic bodies was c.requires.second) (λ f has. inr (omega (arith, has.long, was.end)))

pub returns-clause-refused : goal.returns-clause-refused
returns-clause-refused g c =
    let m = g.D.Disk.model in
    subst (λ (b : Bool). IfErr c.replace_row.result (λ e. AppendRefused m c.args.self.now c.replace_row.new.self c.args.disk.now c.replace_row.new.disk (if b then 0 else length c.args.body.now + 5) e))
    (sym c.if-can_checkpoint.false ∙ c.can_checkpoint.ensures.journal) c.replace_row.ensures.refused
