use Rattle.tw_time.proofs.TakenFacts.{printed_again}
use Rattle.tw_time.proofs.laws.a_basic_text_is_printed_again.Goals as goal

pub returns : goal.returns
returns c = printed_again c.args.text.now c.args.at
