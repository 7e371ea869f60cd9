use Rattle.tw_files.proofs.file_disk.FileDiskDisk.write_at.Goals as goal

pub invariant_of-self : goal.invariant_of-self
invariant_of-self g c = record { whole = c.write_all_at.ensures.len c.args.self.now.len c.requires c.args.self.now.whole }
