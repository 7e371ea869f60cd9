use Rattle.std.proofs.Common.{◌≡◌, ◌-◌, ℕ, ap, arith}
use Rattle.tw_sync.specs.declared.report.SyncReport.{SyncReport}
use Rattle.tw_sync.specs.declared.cursor.Cursor.{Cursor}
use Rattle.tw_sync.proofs.cursor.Cursor.report.Goals as goal

abbrev report_with : Cursor → ℕ → SyncReport
report_with cursor pushed = record { pulled = cursor.versions; dropped = cursor.unsent; pushed = pushed; base = cursor.walker.at }

pub returns : goal.returns
returns c =
    let pushed : c.saturating_sub-pushed.result ≡ c.args.self.now.pending - c.args.self.now.unsent = omega (arith, c.saturating_sub-pushed.ensures) in
    ap (report_with c.args.self.now) pushed
