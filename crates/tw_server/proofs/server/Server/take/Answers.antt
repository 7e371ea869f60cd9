use Rattle.std.proofs.Common.{sym, ap, subst}
use Rattle.std.specs.Result.{IfErr, OnOk}
use Rattle.tw_journal.specs.Journal.{journal_count}
use Rattle.tw_records.specs.Bodies.{block_size}
use Rattle.tw_records.specs.Table.{taken}
use Rattle.tw_records.specs.Opening.{IsInside}
use Rattle.tw_server.specs.Opening.{IfDamaged, IsDamageBy, IsTaken, OnTable}
use Rattle.tw_server.proofs.Openings.{damage_on}
use Rattle.tw_server.proofs.server.Server.take.Goals as goal

pub take_own-requires-clause-inside : goal.take_own-requires-clause-inside
take_own-requires-clause-inside g c = subst (IsInside (journal_count c.args.self.now.journal)) c.in-Own.is c.requires.inside

pub take_named-requires-clause-block : goal.take_named-requires-clause-block
take_named-requires-clause-block g c = (subst (IsInside (journal_count c.args.self.now.journal)) c.in-Named.is c.requires.inside).0

pub take_named-requires-clause-place : goal.take_named-requires-clause-place
take_named-requires-clause-place g c = (subst (IsInside (journal_count c.args.self.now.journal)) c.in-Named.is c.requires.inside).1

pub take_named-requires-clause-inside : goal.take_named-requires-clause-inside
take_named-requires-clause-inside g c = (subst (IsInside (journal_count c.args.self.now.journal)) c.in-Named.is c.requires.inside).2

pub take_block-requires-clause-inside : goal.take_block-requires-clause-inside
take_block-requires-clause-inside g c = subst (IsInside (journal_count c.args.self.now.journal)) c.in-Block.is c.requires.inside

pub take_stored-requires-clause-inside : goal.take_stored-requires-clause-inside
take_stored-requires-clause-inside g c = subst (IsInside (journal_count c.args.self.now.journal)) c.in-Stored.is c.requires.inside

pub damaged-requires-clause-inside : goal.damaged-requires-clause-inside
damaged-requires-clause-inside g c = subst (IsInside (journal_count c.args.self.now.journal)) c.in-Odd.is c.requires.inside

pub returns-in-Own-clause-taken : goal.returns-in-Own-clause-taken
returns-in-Own-clause-taken g c =
    subst (λ s. OnOk c.take_own.result (OnTable g.D.Disk.model c.args.self.now c.args.reader.now c.args.disk.now (λ bodies table. IsTaken c.take_own.new.self c.take_own.new.reader bodies (taken block_size bodies table s)))) (sym c.in-Own.is) c.take_own.ensures.taken

pub returns-in-Own-clause-damaged : goal.returns-in-Own-clause-damaged
returns-in-Own-clause-damaged g c =
    let m = g.D.Disk.model in
    subst (λ s. IfErr c.take_own.result (λ e. OnTable m c.args.self.now c.args.reader.now c.args.disk.now (λ bodies table. IfDamaged e (IsDamageBy (m.seen c.args.disk.now) bodies (taken block_size bodies table s))))) (sym c.in-Own.is) c.take_own.ensures.damaged

pub returns-in-Named-clause-taken : goal.returns-in-Named-clause-taken
returns-in-Named-clause-taken g c =
    subst (λ s. OnOk c.take_named.result (OnTable g.D.Disk.model c.args.self.now c.args.reader.now c.args.disk.now (λ bodies table. IsTaken c.take_named.new.self c.take_named.new.reader bodies (taken block_size bodies table s)))) (sym c.in-Named.is) c.take_named.ensures.taken

pub returns-in-Named-clause-damaged : goal.returns-in-Named-clause-damaged
returns-in-Named-clause-damaged g c =
    let m = g.D.Disk.model in
    subst (λ s. IfErr c.take_named.result (λ e. OnTable m c.args.self.now c.args.reader.now c.args.disk.now (λ bodies table. IfDamaged e (IsDamageBy (m.seen c.args.disk.now) bodies (taken block_size bodies table s))))) (sym c.in-Named.is) c.take_named.ensures.damaged

pub returns-in-Block-clause-taken : goal.returns-in-Block-clause-taken
returns-in-Block-clause-taken g c =
    subst (λ s. OnOk c.take_block.result (OnTable g.D.Disk.model c.args.self.now c.args.reader.now c.args.disk.now (λ bodies table. IsTaken c.args.self.now c.take_block.new.reader bodies (taken block_size bodies table s)))) (sym c.in-Block.is) c.take_block.ensures.taken

pub returns-in-Block-clause-damaged : goal.returns-in-Block-clause-damaged
returns-in-Block-clause-damaged g c =
    let m = g.D.Disk.model in
    subst (λ s. IfErr c.take_block.result (λ e. OnTable m c.args.self.now c.args.reader.now c.args.disk.now (λ bodies table. IfDamaged e (IsDamageBy (m.seen c.args.disk.now) bodies (taken block_size bodies table s))))) (sym c.in-Block.is) c.take_block.ensures.damaged

pub returns-in-Stored-clause-taken : goal.returns-in-Stored-clause-taken
returns-in-Stored-clause-taken g c =
    subst (λ s. OnOk c.take_stored.result (OnTable g.D.Disk.model c.args.self.now c.args.reader.now c.args.disk.now (λ bodies table. IsTaken c.take_stored.new.self c.take_stored.new.reader bodies (taken block_size bodies table s)))) (sym c.in-Stored.is) c.take_stored.ensures.taken

pub returns-in-Stored-clause-damaged : goal.returns-in-Stored-clause-damaged
returns-in-Stored-clause-damaged g c =
    let m = g.D.Disk.model in
    subst (λ s. IfErr c.take_stored.result (λ e. OnTable m c.args.self.now c.args.reader.now c.args.disk.now (λ bodies table. IfDamaged e (IsDamageBy (m.seen c.args.disk.now) bodies (taken block_size bodies table s))))) (sym c.in-Stored.is) c.take_stored.ensures.damaged

pub returns-in-Odd-clause-damaged : goal.returns-in-Odd-clause-damaged
returns-in-Odd-clause-damaged g c = λ bodies on shown table known.
    damage_on g.D.Disk.model c.args.self.now.journal c.args.disk.now bodies c.in-Odd.number c.damaged.result _ on (subst (IsInside (journal_count c.args.self.now.journal)) c.in-Odd.is c.requires.inside) c.damaged.ensures.at
    (ap (taken block_size bodies table) c.in-Odd.is)
