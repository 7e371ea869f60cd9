use Rattle.std.proofs.lemmas.Str.{IsUtf8-from_ascii}
use Rattle.tw_text.proofs.AsciiFacts.{is_ok_text}
use Rattle.timew_cmd.proofs.texts.length_text.Goals as goal

pub unwrap-requires : goal.unwrap-requires
unwrap-requires c = is_ok_text _ _ c.minutes_and_seconds-rest.result c.from_utf8.result (IsUtf8-from_ascii c.minutes_and_seconds-rest.result c.minutes_and_seconds-rest.ensures.ascii) c.from_utf8.ensures.cases
