use Rattle.tw_words.proofs.PlacedWords.{each_word_has_its_place}
use Rattle.tw_words.proofs.laws.words_have_their_places.Goals as goal

pub returns : goal.returns
returns c = each_word_has_its_place
