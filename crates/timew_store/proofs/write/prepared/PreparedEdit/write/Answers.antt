use Rattle.std.proofs.Common.{◌≡◌, ◌++◌, ◌∷◌, ◌^◌, ◌+◌, [], length, rules, sym, ap, subst, ◌∙◌, arith}
use Rattle.tw_journal.specs.Record.{rows as row_of_records}
use Rattle.tw_journal.specs.Journal.{IsOpenOn}
use Rattle.tw_journal.specs.declared.journal.Journal.{Journal}
use Rattle.timew_month.specs.Changes.{changes_to}
use Rattle.timew_interval.specs.Edit.{edited}
use Rattle.timew_store.specs.Growth.{record_size}
use Rattle.timew_store.specs.Held.{magic, IsAtRest}
use Rattle.timew_store.specs.History.{with_change}
use Rattle.timew_store.specs.Store.{intervals_of, change_bodies}
use Rattle.timew_month.specs.Records.{changes_of}
use Rattle.timew_store.specs.Writing.{IsReadyFor, WriteRefused}
use Rattle.timew_store.proofs.Growth.{nothing_grown, grows_within, change_size}
use Rattle.timew_store.proofs.PreparedEdits.{device_fault}
use Rattle.timew_store.proofs.Prepares.{file_names, stays_here, change_ready, moved_nowhere, moved_on, either_on, none_changed, some_changed, one_body, change_refused}
use Rattle.timew_store.proofs.write.prepared.PreparedEdit.write.Goals as goal

pub write_change-requires-clause-names : goal.write_change-requires-clause-names
write_change-requires-clause-names g c = file_names c.args.self.now.changes.items c.requires.named

-- ---- nothing changes

pub returns-then-len-eq0-clause-changed : goal.returns-then-len-eq0-clause-changed
returns-then-len-eq0-clause-changed g c = λ old edit same made new journal hold bodies history on.
    let m = g.F.Folder.model in
    let none : length c.args.self.now.changes.items ≡ 0 = search rules in
    let files = m.seen c.args.folder.now in
    moved_nowhere m g.D.Disk.model old c.args.folder.now c.args.disk.now bodies history on (edited edit (intervals_of old)) (changes_of c.args.self.now.changes.items) (made.changes files on.months) new
    (none_changed c.args.self.now.changes.items none) (journal ∙ sym same) (hold files on.months)

pub returns-then-len-eq0-clause-any_moment : goal.returns-then-len-eq0-clause-any_moment
returns-then-len-eq0-clause-any_moment g c = λ old edit same made bodies history on. stays_here g.F.Folder.model g.D.Disk.model old.journal c.args.folder.now c.args.disk.now bodies history _ on.rest

pub returns-then-len-eq0-clause-growth : goal.returns-then-len-eq0-clause-growth
returns-then-len-eq0-clause-growth g c = λ old edit same made. (
  λ bodies on. nothing_grown g.D.Disk.model g.met.D.Disk.only_now c.args.disk.now (2 ^ 30),
  λ files hold bodies on. nothing_grown g.D.Disk.model g.met.D.Disk.only_now c.args.disk.now _,
)

-- ---- a record

pub returns-in-Ok-clause-changed : goal.returns-in-Ok-clause-changed
returns-in-Ok-clause-changed g c = λ old edit same made new journal hold bodies history on.
    let m = g.F.Folder.model in
    let n = g.D.Disk.model in
    let f0 = c.args.folder.now in
    let d0 = c.args.disk.now in
    let next = edited edit (intervals_of old) in
    let changes = changes_of c.args.self.now.changes.items in
    let are = made.changes (m.seen f0) on.months in
    let body = c.deref.result.now in
    let body_is = c.deref.ensures.value ∙ made.body in
    let some : length c.args.self.now.changes.items ≡ 0 → ⊥ = search rules in
    let ready = subst (λ (j : Journal). IsReadyFor m n j f0 d0 bodies history (with_change changes history) body changes) same (change_ready m n old f0 d0 bodies history on next changes are body body_is made.named) in
    moved_on m n old f0 d0 bodies history on next changes are new c.write_change.new.folder c.write_change.new.disk body (some_changed c.args.self.now.changes.items some) body_is (hold (m.seen f0) on.months)
    (c.in-Ok.ensures.replaced on.rest.tells)
    (subst (λ (j : Journal). IsAtRest m n j c.write_change.new.folder c.write_change.new.disk (bodies ++ body ∷ []) (with_change changes history)) (sym journal) (c.in-Ok.ensures.done bodies history _ ready))

pub returns-in-Ok-clause-any_moment : goal.returns-in-Ok-clause-any_moment
returns-in-Ok-clause-any_moment g c = λ old edit same made bodies history on.
    let m = g.F.Folder.model in
    let n = g.D.Disk.model in
    let f0 = c.args.folder.now in
    let d0 = c.args.disk.now in
    let next = edited edit (intervals_of old) in
    let changes = changes_of c.args.self.now.changes.items in
    let are = made.changes (m.seen f0) on.months in
    let body = c.deref.result.now in
    let some : length c.args.self.now.changes.items ≡ 0 → ⊥ = search rules in
    let ready = subst (λ (j : Journal). IsReadyFor m n j f0 d0 bodies history (with_change changes history) body changes) same (change_ready m n old f0 d0 bodies history on next changes are body (c.deref.ensures.value ∙ made.body) made.named) in
    either_on m n old f0 d0 bodies history on next changes are c.write_change.new.folder c.write_change.new.disk (some_changed c.args.self.now.changes.items some) (c.write_change.ensures.any_moment bodies history _ ready)

pub returns-in-Err-clause-any_moment : goal.returns-in-Err-clause-any_moment
returns-in-Err-clause-any_moment g c = λ old edit same made bodies history on.
    let m = g.F.Folder.model in
    let n = g.D.Disk.model in
    let f0 = c.args.folder.now in
    let d0 = c.args.disk.now in
    let next = edited edit (intervals_of old) in
    let changes = changes_of c.args.self.now.changes.items in
    let are = made.changes (m.seen f0) on.months in
    let body = c.deref.result.now in
    let some : length c.args.self.now.changes.items ≡ 0 → ⊥ = search rules in
    let ready = subst (λ (j : Journal). IsReadyFor m n j f0 d0 bodies history (with_change changes history) body changes) same (change_ready m n old f0 d0 bodies history on next changes are body (c.deref.ensures.value ∙ made.body) made.named) in
    either_on m n old f0 d0 bodies history on next changes are c.write_change.new.folder c.write_change.new.disk (some_changed c.args.self.now.changes.items some) (c.write_change.ensures.any_moment bodies history _ ready)

pub returns-in-Err-clause-refused : goal.returns-in-Err-clause-refused
returns-in-Err-clause-refused g c = λ old edit same made new journal months.
    let m = g.F.Folder.model in
    let n = g.D.Disk.model in
    let f0 = c.args.folder.now in
    let d0 = c.args.disk.now in
    let f1 = c.write_change.new.folder in
    let d1 = c.write_change.new.disk in
    let next = edited edit (intervals_of old) in
    let changes = changes_of c.args.self.now.changes.items in
    let body = c.deref.result.now in
    let e = c.in-Err.error in
    let some : length c.args.self.now.changes.items ≡ 0 → ⊥ = search rules in
    change_refused m n old new f0 f1 d0 d1 next body e
    (λ bodies history on. one_body m n old f0 d0 bodies history on next changes (made.changes (m.seen f0) on.months) body (some_changed c.args.self.now.changes.items some) (c.deref.ensures.value ∙ made.body))
    months
    (subst (λ (j : Journal). WriteRefused m n j new.journal f0 f1 d0 d1 body e) (sym same) (subst (λ (j : Journal). WriteRefused m n c.args.journal.now j f0 f1 d0 d1 body e) (sym journal) c.in-Err.ensures.refused))

pub returns-in-Err-clause-device : goal.returns-in-Err-clause-device
returns-in-Err-clause-device g c = λ fits.
    device_fault g.F.Folder.model g.D.Disk.model c.args.journal.now c.write_change.new.journal c.args.folder.now c.write_change.new.folder c.args.disk.now c.write_change.new.disk c.deref.result.now c.in-Err.error c.in-Err.ensures.refused c.requires.open
    (omega (arith, fits, ap length c.deref.ensures.value))

pub returns-in-Ok-clause-growth : goal.returns-in-Ok-clause-growth
returns-in-Ok-clause-growth g c = λ old edit same made.
    let n = g.D.Disk.model in
    let d0 = c.args.disk.now in
    let d1 = c.write_change.new.disk in
    let body = c.deref.result.now in
    let next = edited edit (intervals_of old) in
    let some : length c.args.self.now.changes.items ≡ 0 → ⊥ = search rules in
    let size = change_size (changes_of c.args.self.now.changes.items) body (some_changed c.args.self.now.changes.items some) (c.deref.ensures.value ∙ made.body) in (
      λ bodies on. grows_within n d0 d1 (record_size body) (2 ^ 30) (omega arith) (c.write_change.ensures.growth bodies (subst (λ (j : Journal). IsOpenOn n magic j d0 bodies) same on)),
      λ files hold bodies on.
          let is = size files next (made.changes files hold) in
          grows_within n d0 d1 (record_size body) (length (row_of_records (change_bodies (changes_to files next)))) (omega (arith, is)) (c.write_change.ensures.growth bodies (subst (λ (j : Journal). IsOpenOn n magic j d0 bodies) same on)),
    )

pub returns-in-Err-clause-growth : goal.returns-in-Err-clause-growth
returns-in-Err-clause-growth g c = λ old edit same made.
    let n = g.D.Disk.model in
    let d0 = c.args.disk.now in
    let d1 = c.write_change.new.disk in
    let body = c.deref.result.now in
    let next = edited edit (intervals_of old) in
    let some : length c.args.self.now.changes.items ≡ 0 → ⊥ = search rules in
    let size = change_size (changes_of c.args.self.now.changes.items) body (some_changed c.args.self.now.changes.items some) (c.deref.ensures.value ∙ made.body) in (
      λ bodies on. grows_within n d0 d1 (record_size body) (2 ^ 30) (omega arith) (c.write_change.ensures.growth bodies (subst (λ (j : Journal). IsOpenOn n magic j d0 bodies) same on)),
      λ files hold bodies on.
          let is = size files next (made.changes files hold) in
          grows_within n d0 d1 (record_size body) (length (row_of_records (change_bodies (changes_to files next)))) (omega (arith, is)) (c.write_change.ensures.growth bodies (subst (λ (j : Journal). IsOpenOn n magic j d0 bodies) same on)),
    )
