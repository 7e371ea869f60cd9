use Rattle.std.proofs.Common.{◌≡◌, map, take}
use Rattle.tw_text.specs.Table.{row_texts}
use Rattle.timew_report.specs.Held.{stretch_of}
use Rattle.timew_report.specs.Texts.{gap_cells}
use Rattle.timew_report.proofs.gaps.all_cells.Given as goal

abbrev pub invariant-loop-stretch : goal.invariant-loop-stretch
invariant-loop-stretch l = map row_texts l.lines.items ≡ map (gap_cells l.zone) (map stretch_of (take l.stretch-index l.found.items))
