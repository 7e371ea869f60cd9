use Rattle.std.proofs.Common.{rules}
use Rattle.tw_world.proofs.memory_folder.put_file.Goals as goal

pub returns-clause-put : goal.returns-clause-put
returns-clause-put c = record { one = (c.in_ok-name.name, c.in_ok-bytes.bytes); longer = c.in_ok-push.ensures.items; name_is = c.in_ok-name.ensures.ok; bytes_are = search rules }
