use Rattle.std.proofs.Common.{◌≡◌, true, ◌^◌, length, List, ℕ, [], ◌∷◌, Some, ap, sym, subst, ◌∙◌, refl, rules, arith}
use Rattle.tw_world.proofs.Moments.{untouched}
use Rattle.tw_journal.specs.Record.{rows}
use Rattle.tw_journal.proofs.Offsets.{still_open}
use Rattle.timew_month.specs.Body.{FileChange, AreMonths, body_of}
use Rattle.timew_month.specs.Body.Step.{Undo}
use Rattle.timew_store.specs.Held.{magic}
use Rattle.timew_month.specs.Files.{replaced}
use Rattle.timew_store.specs.Store.{HoldMonths}
use Rattle.timew_store.specs.StoreUndo.{undo_bodies}
use Rattle.timew_store.specs.Growth.{record_size}
use Rattle.timew_month.specs.Records.{changes_of}
use Rattle.timew_store.proofs.Growth.{nothing_grown, grows_within, reads_grow, reads_then_grow, undo_size}
use Rattle.timew_store.proofs.LoadRefusals.{passed_on}
use Rattle.timew_store.proofs.Undoes.{none_found, some_found, some_holds, nothing_left, bodies_are, back_is, undo_ready, taken_back_to, undo_closed, undo_reads, undo_writes, walk_undo_refused, write_undo_refused, back_undo_refused}
use Rattle.timew_store.proofs.ExchangedFiles.{exchanged_months}
use Rattle.timew_store.proofs.store.Store.undo.Goals as goal

-- a closed store refuses first of all

pub returns-then-is_closed-clause-any_moment : goal.returns-then-is_closed-clause-any_moment
returns-then-is_closed-clause-any_moment g c = λ bodies history on.
    undo_reads g.F.Folder.model g.D.Disk.model g.met.D.Disk.counts_now c.args.self.now c.args.folder.now c.args.disk.now c.args.disk.now bodies history on (untouched g.D.Disk.model g.met.D.Disk.only_now c.args.disk.now)

pub returns-then-is_closed-clause-growth : goal.returns-then-is_closed-clause-growth
returns-then-is_closed-clause-growth g c = (
  λ bodies on. nothing_grown g.D.Disk.model g.met.D.Disk.only_now c.args.disk.now (2 ^ 30),
  λ bodies history on stands. nothing_grown g.D.Disk.model g.met.D.Disk.only_now c.args.disk.now _,
)

pub returns-then-is_closed-clause-refused : goal.returns-then-is_closed-clause-refused
returns-then-is_closed-clause-refused g c =
    let closed : c.args.self.now.journal.closed ≡ true = search rules in
    undo_closed g.F.Folder.model g.D.Disk.model c.args.self.now c.args.folder.now c.args.disk.now (untouched g.D.Disk.model g.met.D.Disk.only_now c.args.disk.now) closed

-- ---- what is read

pub returns-in_err-change-clause-growth : goal.returns-in_err-change-clause-growth
returns-in_err-change-clause-growth g c = (
  λ bodies on. reads_grow g.D.Disk.model c.args.disk.now c.last_change.new.disk (2 ^ 30) c.last_change.ensures.untouched on.rest.tells,
  λ bodies history on stands. reads_grow g.D.Disk.model c.args.disk.now c.last_change.new.disk _ c.last_change.ensures.untouched on.rest.tells,
)

pub returns-in_default-clause-growth : goal.returns-in_default-clause-growth
returns-in_default-clause-growth g c = (
  λ bodies on. reads_grow g.D.Disk.model c.args.disk.now c.last_change.new.disk (2 ^ 30) c.last_change.ensures.untouched on.rest.tells,
  λ bodies history on stands. reads_grow g.D.Disk.model c.args.disk.now c.last_change.new.disk _ c.last_change.ensures.untouched on.rest.tells,
)

pub returns-in_err-prepared-clause-growth : goal.returns-in_err-prepared-clause-growth
returns-in_err-prepared-clause-growth g c = (
  λ bodies on. reads_grow g.D.Disk.model c.args.disk.now c.last_change.new.disk (2 ^ 30) c.last_change.ensures.untouched on.rest.tells,
  λ bodies history on stands. reads_grow g.D.Disk.model c.args.disk.now c.last_change.new.disk _ c.last_change.ensures.untouched on.rest.tells,
)

pub returns-in_err-change-clause-any_moment : goal.returns-in_err-change-clause-any_moment
returns-in_err-change-clause-any_moment g c = λ bodies history on.
    undo_reads g.F.Folder.model g.D.Disk.model g.met.D.Disk.counts_now c.args.self.now c.args.folder.now c.args.disk.now c.last_change.new.disk bodies history on c.last_change.ensures.untouched

pub returns-in_err-change-clause-refused : goal.returns-in_err-change-clause-refused
returns-in_err-change-clause-refused g c =
    passed_on c.from_residual.result _ _ c.from_residual.ensures.1
    (refl, refl, walk_undo_refused g.F.Folder.model g.D.Disk.model c.args.self.now c.args.self.now c.args.folder.now c.args.disk.now c.last_change.new.disk c.in_err-change.field-0.0 (refl, c.last_change.ensures.untouched) c.in_err-change.ensures.refused)

pub returns-in_default-clause-any_moment : goal.returns-in_default-clause-any_moment
returns-in_default-clause-any_moment g c = λ bodies history on.
    undo_reads g.F.Folder.model g.D.Disk.model g.met.D.Disk.counts_now c.args.self.now c.args.folder.now c.args.disk.now c.last_change.new.disk bodies history on c.last_change.ensures.untouched

pub returns-in_default-clause-refused : goal.returns-in_default-clause-refused
returns-in_default-clause-refused g c = (
  (refl, refl, c.last_change.ensures.untouched),
  λ bodies history on. nothing_left g.F.Folder.model g.D.Disk.model c.args.self.now c.args.folder.now c.args.disk.now bodies history on (none_found _ c.in_ok-change.field-0 _ c.in_default.is (c.in_ok-change.ensures.found bodies history on.rest.open_on on.rest.stands)),
)

pub returns-in_err-prepared-clause-any_moment : goal.returns-in_err-prepared-clause-any_moment
returns-in_err-prepared-clause-any_moment g c = λ bodies history on.
    undo_reads g.F.Folder.model g.D.Disk.model g.met.D.Disk.counts_now c.args.self.now c.args.folder.now c.args.disk.now c.last_change.new.disk bodies history on c.last_change.ensures.untouched

pub returns-in_err-prepared-clause-refused : goal.returns-in_err-prepared-clause-refused
returns-in_err-prepared-clause-refused g c =
    passed_on c.from_residual-in_err-prepared.result _ _ c.from_residual-in_err-prepared.ensures.1
    (back_undo_refused g.F.Folder.model g.D.Disk.model c.args.self.now c.args.folder.now c.args.disk.now c.last_change.new.disk (changes_of c.in-Some.change.items) c.in_err-prepared.field-0.0 c.last_change.ensures.untouched
    (λ bodies history on. some_found _ c.in_ok-change.field-0 c.in-Some.change _ c.in-Some.is (c.in_ok-change.ensures.found bodies history on.rest.open_on on.rest.stands))
    c.in_err-prepared.ensures.refused)

pub write-requires-clause-named : goal.write-requires-clause-named
write-requires-clause-named g c =
    subst AreMonths (sym c.in_ok-prepared.ensures.changes) (exchanged_months (changes_of c.in-Some.change.items) (some_holds _ c.in_ok-change.field-0 c.in-Some.change c.in-Some.is c.in_ok-change.ensures.months))

pub returns-in_err-write-clause-any_moment : goal.returns-in_err-write-clause-any_moment
returns-in_err-write-clause-any_moment g c = λ bodies history on.
    let m = g.F.Folder.model in
    let n = g.D.Disk.model in
    let change = changes_of c.in-Some.change.items in
    let top : Some change ≡ _ = some_found _ c.in_ok-change.field-0 c.in-Some.change _ c.in-Some.is (c.in_ok-change.ensures.found bodies history on.rest.open_on on.rest.stands) in
    let none = c.in_ok-prepared.ensures.unedited (m.seen c.args.folder.now) on.months in
    let months = c.in_ok-prepared.ensures.months (m.seen c.args.folder.now) on.months in
    let ready = undo_ready m n c.args.self.now c.args.folder.now c.args.disk.now bodies history on change top c.last_change.new.disk c.in_ok-prepared.prepared.body.items (changes_of c.in_ok-prepared.prepared.changes.items) c.last_change.ensures.untouched c.in_ok-prepared.ensures.changes c.in_ok-prepared.ensures.body
    (some_holds _ c.in_ok-change.field-0 c.in-Some.change c.in-Some.is c.in_ok-change.ensures.months) (some_holds _ c.in_ok-change.field-0 c.in-Some.change c.in-Some.is c.in_ok-change.ensures.rise) none in
    undo_writes m n c.args.self.now c.args.folder.now c.write.new.folder c.args.disk.now c.last_change.new.disk c.write.new.disk bodies history on change top c.in_ok-prepared.prepared.months.rows (changes_of c.in_ok-prepared.prepared.changes.items)
    c.in_ok-prepared.ensures.changes none months.rows_are c.last_change.ensures.untouched (c.write.ensures.any_moment bodies history _ ready)

pub returns-in_err-write-clause-refused : goal.returns-in_err-write-clause-refused
returns-in_err-write-clause-refused g c =
    let m = g.F.Folder.model in
    let n = g.D.Disk.model in
    let change = changes_of c.in-Some.change.items in
    passed_on c.from_residual-in_err-write.result _ _ c.from_residual-in_err-write.ensures.1
    (write_undo_refused m n c.args.self.now c.write.new.self c.args.folder.now c.write.new.folder c.args.disk.now c.last_change.new.disk c.write.new.disk c.in_ok-prepared.prepared.body.items c.in_err-write.field-0.0 c.last_change.ensures.untouched
    (λ bodies history on.
    bodies_are m n c.args.self.now c.args.folder.now c.args.disk.now bodies history on change (some_found _ c.in_ok-change.field-0 c.in-Some.change _ c.in-Some.is (c.in_ok-change.ensures.found bodies history on.rest.open_on on.rest.stands))
    ∙ ap (λ (b : List ℕ). b ∷ []) (sym (c.in_ok-prepared.ensures.body ∙ ap (λ (l : List FileChange). body_of (Undo l)) c.in_ok-prepared.ensures.changes)))
    (λ bodies history on.
    let top : Some change ≡ _ = some_found _ c.in_ok-change.field-0 c.in-Some.change _ c.in-Some.is (c.in_ok-change.ensures.found bodies history on.rest.open_on on.rest.stands) in
    let months = subst (λ (l : List FileChange). HoldMonths (replaced (m.seen c.args.folder.now) l) c.in_ok-prepared.prepared.months) c.in_ok-prepared.ensures.changes (c.in_ok-prepared.ensures.months (m.seen c.args.folder.now) on.months) in (
      _,
      back_is m n c.args.self.now c.args.folder.now c.args.disk.now bodies history on change top c.in_ok-prepared.prepared.months.rows (c.in_ok-prepared.ensures.unedited (m.seen c.args.folder.now) on.months) months.rows_are,
    ))
    (c.in_err-write.ensures.stays, c.in_err-write.ensures.before) c.in_err-write.ensures.refused)

pub returns-clause-undone : goal.returns-clause-undone
returns-clause-undone g c = λ bodies history on.
    let m = g.F.Folder.model in
    let n = g.D.Disk.model in
    let change = changes_of c.in-Some.change.items in
    let top : Some change ≡ _ = some_found _ c.in_ok-change.field-0 c.in-Some.change _ c.in-Some.is (c.in_ok-change.ensures.found bodies history on.rest.open_on on.rest.stands) in
    let none = c.in_ok-prepared.ensures.unedited (m.seen c.args.folder.now) on.months in
    let ready = undo_ready m n c.args.self.now c.args.folder.now c.args.disk.now bodies history on change top c.last_change.new.disk c.in_ok-prepared.prepared.body.items (changes_of c.in_ok-prepared.prepared.changes.items) c.last_change.ensures.untouched c.in_ok-prepared.ensures.changes c.in_ok-prepared.ensures.body
    (some_holds _ c.in_ok-change.field-0 c.in-Some.change c.in-Some.is c.in_ok-change.ensures.months) (some_holds _ c.in_ok-change.field-0 c.in-Some.change c.in-Some.is c.in_ok-change.ensures.rise) none in
    taken_back_to m n c.args.self.now c.args.folder.now c.args.disk.now bodies history on change top c.write.new.self c.write.new.folder c.write.new.disk c.in_ok-prepared.prepared.body.items (changes_of c.in_ok-prepared.prepared.changes.items)
    c.in_ok-prepared.ensures.changes c.in_ok-prepared.ensures.body none
    (subst (HoldMonths (replaced (m.seen c.args.folder.now) (changes_of c.in_ok-prepared.prepared.changes.items))) (sym c.in_ok-write.ensures.months) (c.in_ok-prepared.ensures.months (m.seen c.args.folder.now) on.months))
    (c.in_ok-write.ensures.replaced on.rest.tells) (c.in_ok-write.ensures.done bodies history _ ready)

pub returns-clause-any_moment : goal.returns-clause-any_moment
returns-clause-any_moment g c = λ bodies history on.
    let m = g.F.Folder.model in
    let n = g.D.Disk.model in
    let change = changes_of c.in-Some.change.items in
    let top : Some change ≡ _ = some_found _ c.in_ok-change.field-0 c.in-Some.change _ c.in-Some.is (c.in_ok-change.ensures.found bodies history on.rest.open_on on.rest.stands) in
    let none = c.in_ok-prepared.ensures.unedited (m.seen c.args.folder.now) on.months in
    let months = c.in_ok-prepared.ensures.months (m.seen c.args.folder.now) on.months in
    let ready = undo_ready m n c.args.self.now c.args.folder.now c.args.disk.now bodies history on change top c.last_change.new.disk c.in_ok-prepared.prepared.body.items (changes_of c.in_ok-prepared.prepared.changes.items) c.last_change.ensures.untouched c.in_ok-prepared.ensures.changes c.in_ok-prepared.ensures.body
    (some_holds _ c.in_ok-change.field-0 c.in-Some.change c.in-Some.is c.in_ok-change.ensures.months) (some_holds _ c.in_ok-change.field-0 c.in-Some.change c.in-Some.is c.in_ok-change.ensures.rise) none in
    undo_writes m n c.args.self.now c.args.folder.now c.write.new.folder c.args.disk.now c.last_change.new.disk c.write.new.disk bodies history on change top c.in_ok-prepared.prepared.months.rows (changes_of c.in_ok-prepared.prepared.changes.items)
    c.in_ok-prepared.ensures.changes none months.rows_are c.last_change.ensures.untouched (c.write.ensures.any_moment bodies history _ ready)

pub returns-in_err-write-clause-growth : goal.returns-in_err-write-clause-growth
returns-in_err-write-clause-growth g c =
    let n = g.D.Disk.model in
    let read = c.last_change.ensures.untouched in
    let body = c.in_ok-prepared.prepared.body.items in
    let change = changes_of c.in-Some.change.items in
    let changes = changes_of c.in_ok-prepared.prepared.changes.items in (
      λ bodies on. reads_then_grow n c.args.disk.now c.last_change.new.disk c.write.new.disk (2 ^ 30) read on.rest.tells
          (grows_within n c.last_change.new.disk c.write.new.disk (record_size body) (2 ^ 30) (omega arith) (c.write.ensures.growth bodies (still_open n magic c.args.self.now.journal c.args.disk.now c.last_change.new.disk bodies read on))),
      λ bodies history on stands.
          let top : Some change ≡ _ = some_found _ c.in_ok-change.field-0 c.in-Some.change _ c.in-Some.is (c.in_ok-change.ensures.found bodies history on stands) in
          let is = undo_size history.undoable change changes body top c.in_ok-prepared.ensures.changes c.in_ok-prepared.ensures.body in
          reads_then_grow n c.args.disk.now c.last_change.new.disk c.write.new.disk (length (rows (undo_bodies history.undoable))) read on.rest.tells
          (grows_within n c.last_change.new.disk c.write.new.disk (record_size body) (length (rows (undo_bodies history.undoable))) (omega (arith, is)) (c.write.ensures.growth bodies (still_open n magic c.args.self.now.journal c.args.disk.now c.last_change.new.disk bodies read on))),
    )

pub returns-clause-growth : goal.returns-clause-growth
returns-clause-growth g c =
    let n = g.D.Disk.model in
    let read = c.last_change.ensures.untouched in
    let body = c.in_ok-prepared.prepared.body.items in
    let change = changes_of c.in-Some.change.items in
    let changes = changes_of c.in_ok-prepared.prepared.changes.items in (
      λ bodies on. reads_then_grow n c.args.disk.now c.last_change.new.disk c.write.new.disk (2 ^ 30) read on.rest.tells
          (grows_within n c.last_change.new.disk c.write.new.disk (record_size body) (2 ^ 30) (omega arith) (c.write.ensures.growth bodies (still_open n magic c.args.self.now.journal c.args.disk.now c.last_change.new.disk bodies read on))),
      λ bodies history on stands.
          let top : Some change ≡ _ = some_found _ c.in_ok-change.field-0 c.in-Some.change _ c.in-Some.is (c.in_ok-change.ensures.found bodies history on stands) in
          let is = undo_size history.undoable change changes body top c.in_ok-prepared.ensures.changes c.in_ok-prepared.ensures.body in
          reads_then_grow n c.args.disk.now c.last_change.new.disk c.write.new.disk (length (rows (undo_bodies history.undoable))) read on.rest.tells
          (grows_within n c.last_change.new.disk c.write.new.disk (record_size body) (length (rows (undo_bodies history.undoable))) (omega (arith, is)) (c.write.ensures.growth bodies (still_open n magic c.args.self.now.journal c.args.disk.now c.last_change.new.disk bodies read on))),
    )
