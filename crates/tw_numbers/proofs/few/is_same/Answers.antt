use Rattle.tw_numbers.proofs.FoundByScan.{first_apart}
use Rattle.tw_numbers.proofs.few.is_same.Goals as goal

pub returns-then-as_bytes : goal.returns-then-as_bytes
returns-then-as_bytes c = first_apart c.args.uuid c.args.other c.as_bytes.result.now c.as_bytes-2.result.now c.as_bytes.ensures c.as_bytes-2.ensures c.if-as_bytes.true
