use Rattle.std.proofs.Common.{◌∙◌, ap, map}
use Rattle.tw_time.specs.Tables.{look_up}
use Rattle.tw_words.specs.Commands.{form_of, all_commands, command_named}
use Rattle.tw_words.proofs.command.command_named.Goals as goal

pub returns : goal.returns
unfolding command_named
returns c = c.look_up.ensures ∙ ap (λ text. look_up text (map (λ command. ((form_of command).word, command)) all_commands)) c.as_bytes.ensures.value
