use Rattle.tw_sync.proofs.LaterOps.{sent_for_following}
use Rattle.tw_sync.proofs.laws.what_was_sent_stays_sent.Goals as goal

pub returns : goal.returns
returns c = sent_for_following
