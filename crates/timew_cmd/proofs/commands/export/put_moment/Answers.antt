use Rattle.std.proofs.lemmas.Str.{IsUtf8-from_ascii}
use Rattle.tw_text.proofs.AsciiFacts.{is_ok_text}
use Rattle.timew_cmd.proofs.commands.export.put_moment.Goals as goal

pub unwrap-requires : goal.unwrap-requires
unwrap-requires c = is_ok_text _ _ c.print_basic-text.result c.from_utf8.result (IsUtf8-from_ascii c.print_basic-text.result c.print_basic-text.ensures.ascii) c.from_utf8.ensures.cases
