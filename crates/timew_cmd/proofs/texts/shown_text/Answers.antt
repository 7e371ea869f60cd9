use Rattle.std.proofs.lemmas.Str.{IsUtf8-from_ascii}
use Rattle.tw_text.proofs.AsciiFacts.{is_ok_text}
use Rattle.timew_cmd.proofs.texts.shown_text.Goals as goal

pub unwrap-requires : goal.unwrap-requires
unwrap-requires c = is_ok_text _ _ c.print_day-day.result c.from_utf8.result (IsUtf8-from_ascii c.print_day-day.result c.print_day-day.ensures.ascii) c.from_utf8.ensures.cases

pub unwrap-requires-2 : goal.unwrap-requires-2
unwrap-requires-2 c = is_ok_text _ _ c.clock_bytes-clock.result c.from_utf8-2.result (IsUtf8-from_ascii c.clock_bytes-clock.result c.clock_bytes-clock.ensures.ascii) c.from_utf8-2.ensures.cases
