use Rattle.tw_sync.proofs.Ends.{added_was_sent}
use Rattle.tw_sync.proofs.laws.what_was_added_was_sent.Goals as goal

pub returns : goal.returns
returns c = added_was_sent
