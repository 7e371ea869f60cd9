use Rattle.tw.proofs.Requests.{eight_of}
use Rattle.tw.proofs.asked.shown_digits.Goals as goal

pub returns : goal.returns
returns c = eight_of _ c.without_blank-value.result.now c.args.value.now _ _ c.min.ensures c.word_len.ensures.len c.split_at.ensures.front c.without_blank-value.ensures
