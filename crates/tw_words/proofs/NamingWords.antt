-- Each command has a word of its own.
use Rattle.std.proofs.Common.{refl}
use Rattle.tw_words.specs.Commands.{command_named, EachWordNamesItsCommand}
use Rattle.tw_words.specs.declared.command.AnyCommand.TheVariants.{Tasks, Sync, Generate}
use Rattle.tw_words.specs.declared.command.Command.TheVariants as command

pub each_word_names_its_command : EachWordNamesItsCommand
unfolding command_named
each_word_names_its_command (Tasks command.Add) = refl
each_word_names_its_command (Tasks command.Log) = refl
each_word_names_its_command (Tasks command.Modify) = refl
each_word_names_its_command (Tasks command.Append) = refl
each_word_names_its_command (Tasks command.Prepend) = refl
each_word_names_its_command (Tasks command.Annotate) = refl
each_word_names_its_command (Tasks command.Denotate) = refl
each_word_names_its_command (Tasks command.Done) = refl
each_word_names_its_command (Tasks command.Delete) = refl
each_word_names_its_command (Tasks command.Purge) = refl
each_word_names_its_command (Tasks command.Start) = refl
each_word_names_its_command (Tasks command.Stop) = refl
each_word_names_its_command (Tasks command.Duplicate) = refl
each_word_names_its_command (Tasks command.Undo) = refl
each_word_names_its_command (Tasks command.Import) = refl
each_word_names_its_command (Tasks command.Count) = refl
each_word_names_its_command (Tasks command.Ids) = refl
each_word_names_its_command (Tasks command.Uuids) = refl
each_word_names_its_command (Tasks command.Export) = refl
each_word_names_its_command (Tasks command.Information) = refl
each_word_names_its_command (Tasks command.Projects) = refl
each_word_names_its_command (Tasks command.Tags) = refl
each_word_names_its_command (Tasks command.List) = refl
each_word_names_its_command (Tasks command.Next) = refl
each_word_names_its_command (Tasks command.All) = refl
each_word_names_its_command (Tasks command.Completed) = refl
each_word_names_its_command (Tasks command.Waiting) = refl
each_word_names_its_command (Tasks command.Blocked) = refl
each_word_names_its_command Sync = refl
each_word_names_its_command Generate = refl
