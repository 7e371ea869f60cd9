use Rattle.std.proofs.Common.{refl, arith, inl, inr}
use Rattle.tw_world.specs.Folder.{Replaced}
use Rattle.tw_world.proofs.Puts.{puts_nothing, puts_one, put_leads}
use Rattle.tw_world.proofs.memory_folder.MemoryFolderFolder.replace.Goals as goal

pub returns-then-begin-clause-steps : goal.returns-then-begin-clause-steps
returns-then-begin-clause-steps c = puts_nothing (Replaced c.args.name.now c.args.bytes.now) c.args.self.now _ refl c.begin.ensures.later (λ f. inl refl)

pub returns-in-Err-clause-steps : goal.returns-in-Err-clause-steps
returns-in-Err-clause-steps c = puts_nothing (Replaced c.args.name.now c.args.bytes.now) c.args.self.now _ c.in-Err.ensures.same (omega (arith, c.begin.ensures.later, c.fault.ensures.later)) (λ f. inl refl)

pub returns-clause-steps : goal.returns-clause-steps
returns-clause-steps c = puts_one c.args.name.now c.args.bytes.now c.args.self.now _ c.in_default.ensures.put c.begin.ensures.later

pub returns-clause-replaced : goal.returns-clause-replaced
returns-clause-replaced c = λ tells. put_leads _ _ _ _ c.in_default.ensures.put

pub returns-clause-all_or_nothing : goal.returns-clause-all_or_nothing
returns-clause-all_or_nothing c = λ tells. inr (put_leads _ _ _ _ c.in_default.ensures.put)
