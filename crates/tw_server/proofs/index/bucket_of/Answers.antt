use Rattle.std.proofs.Common.{◌%◌, ap}
use Rattle.tw_server.specs.Index.{bucket_of}
use Rattle.tw_server.proofs.index.bucket_of.Goals as goal

pub returns-clause-is : goal.returns-clause-is
unfolding bucket_of
returns-clause-is c = ap (λ n. n % c.args.size) c.as_u128.ensures
