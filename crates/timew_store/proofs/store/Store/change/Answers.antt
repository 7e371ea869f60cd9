use Rattle.std.proofs.Common.{◌≡◌, true, ◌^◌, rules, refl, ap, ◌∙◌, subst}
use Rattle.timew_store.specs.Prepared.{IsPreparedEdit}
use Rattle.timew_store.specs.Store.{rows_after}
use Rattle.timew_month.specs.declared.months.Months.{Months}
use Rattle.timew_store.specs.declared.store.Store.{Store}
use Rattle.timew_store.proofs.Growth.{nothing_grown}
use Rattle.timew_store.proofs.Prepares.{stays_here, change_closed}
use Rattle.timew_store.proofs.store.Store.change.Goals as goal

-- a closed store refuses first of all

pub returns-then-is_closed-clause-any_moment : goal.returns-then-is_closed-clause-any_moment
returns-then-is_closed-clause-any_moment g c = λ bodies history on. stays_here g.F.Folder.model g.D.Disk.model c.args.self.now.journal c.args.folder.now c.args.disk.now bodies history _ on.rest

pub returns-then-is_closed-clause-growth : goal.returns-then-is_closed-clause-growth
returns-then-is_closed-clause-growth g c = (
  λ bodies on. nothing_grown g.D.Disk.model g.met.D.Disk.only_now c.args.disk.now (2 ^ 30),
  λ files hold bodies on. nothing_grown g.D.Disk.model g.met.D.Disk.only_now c.args.disk.now _,
)

pub returns-then-is_closed-clause-refused : goal.returns-then-is_closed-clause-refused
returns-then-is_closed-clause-refused g c =
    let closed : c.args.self.now.journal.closed ≡ true = search rules in
    change_closed g.F.Folder.model g.D.Disk.model c.args.self.now c.args.folder.now c.args.disk.now (rows_after c.args.edit c.args.self.now) closed

-- ---- want of memory

pub returns-in-Err-clause-growth : goal.returns-in-Err-clause-growth
returns-in-Err-clause-growth g c = (
  λ bodies on. nothing_grown g.D.Disk.model g.met.D.Disk.only_now c.args.disk.now (2 ^ 30),
  λ files hold bodies on. nothing_grown g.D.Disk.model g.met.D.Disk.only_now c.args.disk.now _,
)

pub returns-in-Err-clause-any_moment : goal.returns-in-Err-clause-any_moment
returns-in-Err-clause-any_moment g c = λ bodies history on. stays_here g.F.Folder.model g.D.Disk.model c.args.self.now.journal c.args.folder.now c.args.disk.now bodies history _ on.rest

pub returns-in-Err-clause-refused : goal.returns-in-Err-clause-refused
returns-in-Err-clause-refused g c =
    let old = c.args.self.now in
    (ap (λ (m : Months). let s : Store = record { journal = old.journal; months = m; before = old.before } in s) (c.in-Err.ensures.same ∙ c.replace-months.ensures.value), refl, refl)

-- ---- what is prepared

pub into_before-requires : goal.into_before-requires
into_before-requires g c = (c.replace-months.result, c.args.edit, c.in-Ok.ensures.prepared)

pub into_after-requires : goal.into_after-requires
into_after-requires g c = (c.replace-months.result, c.args.edit, c.in-Ok.ensures.prepared)

pub write-requires-clause-named : goal.write-requires-clause-named
write-requires-clause-named g c = c.in-Ok.ensures.prepared.named

pub returns-in-Ok-write-clause-changed : goal.returns-in-Ok-write-clause-changed
returns-in-Ok-write-clause-changed g c =
    let made = subst (λ (m : Months). IsPreparedEdit m c.args.edit c.in-Ok.made) c.replace-months.ensures.value c.in-Ok.ensures.prepared in
    c.in-Ok-write.ensures.changed c.args.self.now c.args.edit refl made _ refl (c.into_after.ensures.months c.args.self.now.months c.args.edit made)

pub returns-in-Ok-write-clause-rows : goal.returns-in-Ok-write-clause-rows
returns-in-Ok-write-clause-rows g c =
    let made = subst (λ (m : Months). IsPreparedEdit m c.args.edit c.in-Ok.made) c.replace-months.ensures.value c.in-Ok.ensures.prepared in
    c.into_after.ensures.rows c.args.self.now.months c.args.edit made

pub returns-in-Ok-write-clause-any_moment : goal.returns-in-Ok-write-clause-any_moment
returns-in-Ok-write-clause-any_moment g c =
    let made = subst (λ (m : Months). IsPreparedEdit m c.args.edit c.in-Ok.made) c.replace-months.ensures.value c.in-Ok.ensures.prepared in
    c.write.ensures.any_moment c.args.self.now c.args.edit refl made

pub returns-in-Ok-write-clause-growth : goal.returns-in-Ok-write-clause-growth
returns-in-Ok-write-clause-growth g c =
    let made = subst (λ (m : Months). IsPreparedEdit m c.args.edit c.in-Ok.made) c.replace-months.ensures.value c.in-Ok.ensures.prepared in
    c.write.ensures.growth c.args.self.now c.args.edit refl made

pub returns-in-Err-write-clause-any_moment : goal.returns-in-Err-write-clause-any_moment
returns-in-Err-write-clause-any_moment g c =
    let made = subst (λ (m : Months). IsPreparedEdit m c.args.edit c.in-Ok.made) c.replace-months.ensures.value c.in-Ok.ensures.prepared in
    c.write.ensures.any_moment c.args.self.now c.args.edit refl made

pub returns-in-Err-write-clause-growth : goal.returns-in-Err-write-clause-growth
returns-in-Err-write-clause-growth g c =
    let made = subst (λ (m : Months). IsPreparedEdit m c.args.edit c.in-Ok.made) c.replace-months.ensures.value c.in-Ok.ensures.prepared in
    c.write.ensures.growth c.args.self.now c.args.edit refl made

pub returns-in-Err-write-clause-refused : goal.returns-in-Err-write-clause-refused
returns-in-Err-write-clause-refused g c =
    let made = subst (λ (m : Months). IsPreparedEdit m c.args.edit c.in-Ok.made) c.replace-months.ensures.value c.in-Ok.ensures.prepared in
    c.in-Err-write.ensures.refused c.args.self.now c.args.edit refl made _ refl (c.into_before.ensures c.args.self.now.months c.args.edit made)
