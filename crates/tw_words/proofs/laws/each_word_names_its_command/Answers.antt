use Rattle.tw_words.proofs.NamingWords.{each_word_names_its_command}
use Rattle.tw_words.proofs.laws.each_word_names_its_command.Goals as goal

pub returns : goal.returns
returns c = each_word_names_its_command
