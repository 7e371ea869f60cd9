use Rattle.tw_server.proofs.LogLaws.{crash_leaves_account}
use Rattle.tw_server.proofs.laws.a_crash_leaves_the_account.Goals as goal

pub returns : goal.returns
returns c = crash_leaves_account
