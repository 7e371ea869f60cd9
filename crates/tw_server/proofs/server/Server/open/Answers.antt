use Rattle.std.proofs.Common.{◌∙◌, ◌≤◌, subst, arith}
use Rattle.tw_world.specs.Disk.{Tells}
use Rattle.tw_journal.proofs.Unique.{one_records}
use Rattle.tw_records.specs.Reading.{StandFor}
use Rattle.tw_journal.specs.Open.{IsImageThen}
use Rattle.tw_journal.specs.Record.{IsLongerBy}
use Rattle.tw_server.specs.Faults.{open_in_opening}
use Rattle.tw_server.specs.Opening.{NeverOnLog, ServerOpenRefused}
use Rattle.tw_server.specs.Server.{magic}
use Rattle.tw_server.proofs.Refusals.{from_fault}
use Rattle.tw_server.proofs.Tables.{nothing_tabled}
use Rattle.tw_server.proofs.Openings.{after_reads, open_now, not_opened, damage_before, open_refused, reading_moments, reading_growth, opening_moments, opening_growth, opened_short, block_refused, opened_server, journal_honest, standing_honest}
use Rattle.tw_server.proofs.server.Server.open.Goals as goal

pub returns-in_err-journal-clause-any_moment : goal.returns-in_err-journal-clause-any_moment
returns-in_err-journal-clause-any_moment g c tells = reading_moments g.D.Disk.model c.args.disk.now c.open.new.disk (c.open.ensures.any_moment tells)

pub returns-in_err-journal-clause-growth : goal.returns-in_err-journal-clause-growth
returns-in_err-journal-clause-growth g c tells = reading_growth g.D.Disk.model c.args.disk.now c.open.new.disk (c.open.ensures.growth tells)

pub returns-in_err-journal-clause-refused : goal.returns-in_err-journal-clause-refused
returns-in_err-journal-clause-refused g c =
    let m = g.D.Disk.model in
    from_fault (ServerOpenRefused m c.args.disk.now c.open.new.disk) c.from_residual.result (open_in_opening c.in_err-journal.field-0.0) c.from_residual.ensures.1
    (not_opened m c.args.disk.now c.open.new.disk c.in_err-journal.field-0.0 c.in_err-journal.ensures.refused)

pub returns-in_err-fresh-clause-any_moment : goal.returns-in_err-fresh-clause-any_moment
returns-in_err-fresh-clause-any_moment g c tells =
    let m = g.D.Disk.model in
    reading_moments m c.args.disk.now c.read_all.new.disk
    (after_reads m c.args.disk.now c.open.new.disk c.read_all.new.disk (IsImageThen m c.args.disk.now magic) g.met.D.Disk.counts_now (c.open.ensures.any_moment tells) (c.open.ensures.kept.tells ∙ tells) c.read_all.ensures.untouched)

pub returns-in_err-fresh-clause-growth : goal.returns-in_err-fresh-clause-growth
returns-in_err-fresh-clause-growth g c tells =
    let m = g.D.Disk.model in
    reading_growth m c.args.disk.now c.read_all.new.disk
    (after_reads m c.args.disk.now c.open.new.disk c.read_all.new.disk (IsLongerBy m c.args.disk.now 29) g.met.D.Disk.counts_now (c.open.ensures.growth tells) (c.open.ensures.kept.tells ∙ tells) c.read_all.ensures.untouched)

pub returns-in_err-fresh-clause-refused : goal.returns-in_err-fresh-clause-refused
returns-in_err-fresh-clause-refused g c =
    let m = g.D.Disk.model in
    from_fault (ServerOpenRefused m c.args.disk.now c.read_all.new.disk) c.from_residual-in_err-fresh.result c.in_err-fresh.field-0.0 c.from_residual-in_err-fresh.ensures.1
    (open_refused m c.args.disk.now c.open.new.disk c.read_all.new.disk c.in_err-fresh.field-0.0 c.open.ensures.kept.faults c.in_err-fresh.ensures.refused
    (λ tells.
    let o = c.in_ok-journal.ensures.opened tells in
    let nothing = nothing_tabled _ c.new.ensures.entries c.new.ensures.numbers c.new-2.ensures in
    (o.bodies, o.records, damage_before m c.args.disk.now c.open.new.disk c.in_ok-journal.journal o c.in_err-fresh.field-0.0 _ (c.in_err-fresh.ensures.damaged o.bodies o.now nothing))))

pub returns-in_err-add_block-clause-any_moment : goal.returns-in_err-add_block-clause-any_moment
returns-in_err-add_block-clause-any_moment g c tells =
    let m = g.D.Disk.model in
    let o = c.in_ok-journal.ensures.opened tells in
    let read = c.in_ok-fresh.ensures.read o.bodies o.now (nothing_tabled _ c.new.ensures.entries c.new.ensures.numbers c.new-2.ensures) in
    let on = open_now m c.in_ok-journal.journal c.read_all.new.self.journal c.open.new.disk c.read_all.new.disk o.bodies c.read_all.ensures.journal c.read_all.ensures.untouched o.now in
    opening_moments m c.args.disk.now c.read_all.new.disk c.add_block.new.disk c.read_all.new.self.versions.entries.items c.in_ok-fresh.fresh o.bodies read.0 o.records read.1 read.2.entries (c.in_ok-fresh.ensures.fresh magic o.bodies o.now)
    (after_reads m c.args.disk.now c.open.new.disk c.read_all.new.disk (IsImageThen m c.args.disk.now magic) g.met.D.Disk.counts_now (c.open.ensures.any_moment tells) (c.open.ensures.kept.tells ∙ tells) c.read_all.ensures.untouched)
    (c.add_block.ensures.any_moment magic o.bodies on)

pub returns-in_err-add_block-clause-growth : goal.returns-in_err-add_block-clause-growth
returns-in_err-add_block-clause-growth g c tells =
    let m = g.D.Disk.model in
    let o = c.in_ok-journal.ensures.opened tells in
    let on = open_now m c.in_ok-journal.journal c.read_all.new.self.journal c.open.new.disk c.read_all.new.disk o.bodies c.read_all.ensures.journal c.read_all.ensures.untouched o.now in
    opening_growth m c.args.disk.now c.read_all.new.disk c.add_block.new.disk (256 ≤ c.in_ok-fresh.fresh) g.met.D.Disk.counts_now
    (after_reads m c.args.disk.now c.open.new.disk c.read_all.new.disk (IsLongerBy m c.args.disk.now 29) g.met.D.Disk.counts_now (c.open.ensures.growth tells) (c.open.ensures.kept.tells ∙ tells) c.read_all.ensures.untouched)
    (c.add_block.ensures.growth magic o.bodies on)
    (opened_short m c.args.disk.now c.open.new.disk c.read_all.new.disk c.in_ok-journal.journal o c.in_ok-fresh.fresh (c.in_ok-fresh.ensures.fresh magic o.bodies o.now) c.read_all.ensures.untouched)

pub returns-in_err-add_block-clause-refused : goal.returns-in_err-add_block-clause-refused
returns-in_err-add_block-clause-refused g c =
    let m = g.D.Disk.model in
    from_fault (ServerOpenRefused m c.args.disk.now c.add_block.new.disk) c.from_residual-in_err-add_block.result c.in_err-add_block.field-0.0 c.from_residual-in_err-add_block.ensures.1
    (block_refused m c.args.disk.now c.read_all.new.disk c.add_block.new.disk c.in_err-add_block.field-0.0 (let a = c.open.ensures.kept.faults in let b = c.read_all.ensures.untouched.kept.faults in omega (arith, a, b)) c.in_err-add_block.ensures.refused c.in_err-add_block.ensures.honest)

pub returns-clause-any_moment : goal.returns-clause-any_moment
returns-clause-any_moment g c tells =
    let m = g.D.Disk.model in
    let o = c.in_ok-journal.ensures.opened tells in
    let read = c.in_ok-fresh.ensures.read o.bodies o.now (nothing_tabled _ c.new.ensures.entries c.new.ensures.numbers c.new-2.ensures) in
    let on = open_now m c.in_ok-journal.journal c.read_all.new.self.journal c.open.new.disk c.read_all.new.disk o.bodies c.read_all.ensures.journal c.read_all.ensures.untouched o.now in
    opening_moments m c.args.disk.now c.read_all.new.disk c.add_block.new.disk c.read_all.new.self.versions.entries.items c.in_ok-fresh.fresh o.bodies read.0 o.records read.1 read.2.entries (c.in_ok-fresh.ensures.fresh magic o.bodies o.now)
    (after_reads m c.args.disk.now c.open.new.disk c.read_all.new.disk (IsImageThen m c.args.disk.now magic) g.met.D.Disk.counts_now (c.open.ensures.any_moment tells) (c.open.ensures.kept.tells ∙ tells) c.read_all.ensures.untouched)
    (c.add_block.ensures.any_moment magic o.bodies on)

pub returns-clause-growth : goal.returns-clause-growth
returns-clause-growth g c tells =
    let m = g.D.Disk.model in
    let o = c.in_ok-journal.ensures.opened tells in
    let on = open_now m c.in_ok-journal.journal c.read_all.new.self.journal c.open.new.disk c.read_all.new.disk o.bodies c.read_all.ensures.journal c.read_all.ensures.untouched o.now in
    opening_growth m c.args.disk.now c.read_all.new.disk c.add_block.new.disk (256 ≤ c.in_ok-fresh.fresh) g.met.D.Disk.counts_now
    (after_reads m c.args.disk.now c.open.new.disk c.read_all.new.disk (IsLongerBy m c.args.disk.now 29) g.met.D.Disk.counts_now (c.open.ensures.growth tells) (c.open.ensures.kept.tells ∙ tells) c.read_all.ensures.untouched)
    (c.add_block.ensures.growth magic o.bodies on)
    (opened_short m c.args.disk.now c.open.new.disk c.read_all.new.disk c.in_ok-journal.journal o c.in_ok-fresh.fresh (c.in_ok-fresh.ensures.fresh magic o.bodies o.now) c.read_all.ensures.untouched)

pub returns-clause-opened : goal.returns-clause-opened
returns-clause-opened g c tells =
    let m = g.D.Disk.model in
    let o = c.in_ok-journal.ensures.opened tells in
    let read = c.in_ok-fresh.ensures.read o.bodies o.now (nothing_tabled _ c.new.ensures.entries c.new.ensures.numbers c.new-2.ensures) in
    let on = open_now m c.in_ok-journal.journal c.read_all.new.self.journal c.open.new.disk c.read_all.new.disk o.bodies c.read_all.ensures.journal c.read_all.ensures.untouched o.now in
    opened_server m c.args.disk.now c.read_all.new.disk c.add_block.new.disk c.read_all.new.self c.add_block.new.self o.bodies read.0 c.in_ok-fresh.fresh o.records read.1 read.2 (c.in_ok-fresh.ensures.fresh magic o.bodies o.now)
    c.add_block.ensures.versions c.add_block.ensures.images on (c.in_ok-add_block.ensures.added magic o.bodies on)

pub returns-in_err-journal-clause-honest : goal.returns-in_err-journal-clause-honest
returns-in_err-journal-clause-honest g c =
    let file = g.D.Disk.model.seen c.args.disk.now in
    from_fault (λ e. Tells g.D.Disk.model c.args.disk.now → NeverOnLog file e) c.from_residual.result (open_in_opening c.in_err-journal.field-0.0) c.from_residual.ensures.1
    (λ tells log holds. journal_honest c.in_err-journal.field-0.0 (c.in_err-journal.ensures.sound holds.0 tells holds.1))

pub returns-in_err-fresh-clause-honest : goal.returns-in_err-fresh-clause-honest
returns-in_err-fresh-clause-honest g c =
    let m = g.D.Disk.model in
    let file = m.seen c.args.disk.now in
    from_fault (λ e. Tells m c.args.disk.now → NeverOnLog file e) c.from_residual-in_err-fresh.result c.in_err-fresh.field-0.0 c.from_residual-in_err-fresh.ensures.1
    (λ tells log holds.
    let o = c.in_ok-journal.ensures.opened tells in
    let nothing = nothing_tabled _ c.new.ensures.entries c.new.ensures.numbers c.new-2.ensures in
    let stands = subst (λ bs. StandFor bs log) (one_records magic file holds.0 o.bodies holds.1 o.records) holds.2 in
    standing_honest (m.seen c.open.new.disk) o.bodies log c.in_err-fresh.field-0.0 stands (c.in_err-fresh.ensures.damaged o.bodies o.now nothing))

pub returns-in_err-add_block-clause-honest : goal.returns-in_err-add_block-clause-honest
returns-in_err-add_block-clause-honest g c =
    from_fault (λ e. Tells g.D.Disk.model c.args.disk.now → NeverOnLog (g.D.Disk.model.seen c.args.disk.now) e) c.from_residual-in_err-add_block.result c.in_err-add_block.field-0.0 c.from_residual-in_err-add_block.ensures.1
    (λ tells log holds. c.in_err-add_block.ensures.honest)
