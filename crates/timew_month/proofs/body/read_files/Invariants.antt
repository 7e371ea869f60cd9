use Rattle.std.proofs.Common.{◌≡◌, ◌-◌}
use Rattle.tw_fields.specs.Reading.{many_at, with_front}
use Rattle.timew_month.specs.Body.{AreMonths, file_at}
use Rattle.timew_month.specs.Records.{changes_of}
use Rattle.timew_month.proofs.body.read_files.Given as goal

abbrev pub invariant-loop : goal.invariant-loop
invariant-loop l = (with_front (changes_of l.files.items) (many_at file_at (l.count - l.counter) l.rest) ≡ many_at file_at l.count l.bytes) × AreMonths (changes_of l.files.items)
