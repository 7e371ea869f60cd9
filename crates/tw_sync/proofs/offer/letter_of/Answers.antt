use Rattle.std.proofs.Common.{◌≡◌, ◌∙◌, ap, sym, subst, Some, IfSome}
use Rattle.tw_snapshot.specs.Snapshot.{snapshot_of}
use Rattle.std.specs.Prelude.{option_map}
use Rattle.tw_sync.proofs.Offering.{stores_tasks}
use Rattle.tw_sync.proofs.offer.letter_of.Goals as goal

pub returns : goal.returns
returns c =
    stores_tasks c.args.client c.args.host.now c.args.version c.args.tasks.now c.in-Some.text.items c.from_vec.result c.in_ok-letter.letter.items c.from_vec.ensures c.in_ok-letter.ensures.text c.in_ok-letter.ensures.back
    (ap (option_map (λ v. v.items)) (sym c.in-Some.is) ∙ c.in_ok-text.ensures.text)
    (subst (λ o. IfSome o (λ v. snapshot_of v.items ≡ Some c.args.tasks.now)) c.in-Some.is c.in_ok-text.ensures.back)
