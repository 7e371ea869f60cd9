use Rattle.std.proofs.Common.{◌∙◌, sym}
use Rattle.tw_cli.proofs.Hosts.{named_has_host}
use Rattle.tw.proofs.audit.server_in.Goals as goal

pub returns-in-Ok-Some : goal.returns-in-Ok-Some
returns-in-Ok-Some c = named_has_host c.in-Ok.settings c.in-Ok-Some.server (sym c.in-Ok-Some.ensures ∙ c.in-Ok-Some.field-0-is)
