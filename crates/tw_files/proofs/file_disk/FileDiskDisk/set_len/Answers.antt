use Rattle.std.proofs.Common.{arith}
use Rattle.tw_files.proofs.file_disk.FileDiskDisk.set_len.Goals as goal

pub invariant_of-self-in-Err : goal.invariant_of-self-in-Err
invariant_of-self-in-Err g c = record { whole = c.in-Err.ensures.kept c.args.self.now.len (omega arith) c.args.self.now.whole }
