use Rattle.std.proofs.Common.{◌≡◌, ◌≤◌, length, map, take}
use Rattle.tw_journal.specs.Journal.{OnRecords, journal_count}
use Rattle.tw_records.specs.Bodies.{kind_in}
use Rattle.tw_server.proofs.server.Server.kinds.Given as goal

abbrev pub invariant-loop-n : goal.invariant-loop-n
invariant-loop-n g l = record {
  kinds : OnRecords g.D.Disk.model l.self.journal l.disk (λ magic bodies. l.kinds.items ≡ map kind_in (take l.n bodies));
  count : length l.kinds.items ≡ l.n;
  few : l.n ≤ journal_count l.self.journal;
}
