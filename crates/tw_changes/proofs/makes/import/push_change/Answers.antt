use Rattle.std.proofs.Common.{◌≡◌, ◌∙◌, ◌||◌, ◌∷◌, [], ap, sym}
use Rattle.std.specs.BTreeSet as set
use Rattle.tw_model.specs.Maps.{bytes_cmp, same_bytes}
use Rattle.tw_numbers.proofs.SetInserts.{has_more}
use Rattle.tw_changes.specs.Makes.Import.{is_changed, change_to}
use Rattle.tw_changes.proofs.ImportedElements.{changed_more}
use Rattle.tw_changes.proofs.makes.import.push_change.Goals as goal

pub returns-clause-uuids : goal.returns-clause-uuids
returns-clause-uuids c = λ u.
    has_more (λ q. set.contains bytes_cmp c.insert.new.self q) (λ q. set.contains bytes_cmp c.args.uuids.now q) u c.args.uuid (c.in_ok-insert.ensures.updates.0 u)
    ∙ ap (λ b. b || same_bytes u c.args.uuid) (c.requires u) ∙ sym (changed_more c.args.changes.now.items (change_to c.args.uuid c.args.task) u) ∙ ap (λ cs. is_changed cs u) (sym c.in_ok-push.ensures.items)
