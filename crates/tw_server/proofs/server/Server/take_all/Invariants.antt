use Rattle.std.proofs.Common.{◌≡◌, ◌++◌, List, ℕ, false, length, reverse}
use Rattle.std.specs.Prelude.{All}
use Rattle.tw_world.specs.Disk.{Untouched}
use Rattle.tw_journal.specs.Journal.{IsOpenOn, journal_count}
use Rattle.tw_journal.specs.Window.{IsWindowOn}
use Rattle.tw_records.specs.Bodies.{block_size}
use Rattle.tw_records.specs.declared.walk.Source.{Source}
use Rattle.tw_records.specs.Table.{table_by}
use Rattle.tw_records.specs.Opening.{IsInside}
use Rattle.tw_server.specs.Opening.{IsTabled, IsTaken, no_rows}
use Rattle.tw_server.specs.Server.{magic, is_closed, server_end}
use Rattle.tw_server.proofs.server.Server.take_all.Given as goal

abbrev pub invariant-loop-source : goal.invariant-loop-source
invariant-loop-source g l = record {
  done : List Source;
  all : reverse l.fn.sources.items ≡ done ++ reverse l.sources.items;
  inside : All (IsInside (journal_count l.fn.self.journal)) l.sources.items;
  same : l.self.journal ≡ l.fn.self.journal;
  untouched : Untouched g.D.Disk.model l.fn.disk l.disk;
  read : (bodies : List (List ℕ)) → IsOpenOn g.D.Disk.model magic l.fn.self.journal l.fn.disk bodies → IsTabled l.fn.self no_rows → IsTaken l.self l.reader bodies (table_by block_size bodies no_rows done);
  open_now : is_closed l.self ≡ false;
  len : g.D.Disk.model.len l.disk ≡ server_end l.self;
  window : IsWindowOn g.D.Disk.model l.disk l.reader.window;
}

abbrev pub decreases-loop-source : goal.decreases-loop-source
decreases-loop-source g l = length l.sources.items
