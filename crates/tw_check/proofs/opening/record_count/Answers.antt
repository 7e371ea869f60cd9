use Rattle.std.proofs.Common.{◌∙◌, List, ℕ, refl, subst}
use Rattle.tw_journal.specs.Form.{Records}
use Rattle.tw_check.proofs.opening.record_count.Goals as goal

pub returns-in-Ok : goal.returns-in-Ok
returns-in-Ok c =
    let opened = c.in-Ok.ensures.opened refl in
    let there = subst (λ (f : List ℕ). Records c.magic_of.result f opened.bodies) c.in_ok-disk.ensures.bytes opened.records in
    (opened.bodies, subst (λ (m : List ℕ). Records m c.args.file.now opened.bodies) c.magic_of.ensures there, c.count.ensures ∙ opened.now.count)
