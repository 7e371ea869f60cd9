use Rattle.std.proofs.Common.{refl, arith, inl, inr}
use Rattle.tw_files.proofs.FolderFiles.{passed_on, out_of_memory, not_shorter}
use Rattle.tw_files.proofs.file_folder.bytes_of.Goals as goal

pub returns-in_err-len-clause-failed : goal.returns-in_err-len-clause-failed
returns-in_err-len-clause-failed g c = passed_on c.from_residual.result _ _ c.from_residual.ensures.1 (inl (inr c.in_err-len.ensures.failed))

pub returns-then-len-gt-MAX_LEN-clause-failed : goal.returns-then-len-gt-MAX_LEN-clause-failed
returns-then-len-gt-MAX_LEN-clause-failed g c = inr (λ all is. omega (arith, c.in_ok-len.ensures.has all is, c.if-len-gt-MAX_LEN.true))

pub returns-in_err-bytes-clause-failed : goal.returns-in_err-bytes-clause-failed
returns-in_err-bytes-clause-failed g c = out_of_memory c.from_residual-in_err-bytes.result _ _ c.from_residual-in_err-bytes.ensures.1

pub returns-then-not-read_all_at-clause-failed : goal.returns-then-not-read_all_at-clause-failed
returns-then-not-read_all_at-clause-failed g c = not_shorter _ _ _ c.in_ok-len.len _ _ (grind (arith, c.in_ok-bytes.ensures.len)) c.in_ok-len.ensures.has (c.if-not-read_all_at.ensures.failed refl)
