use Rattle.std.proofs.Common.{◌||◌, ◌∙◌, ap, sym}
use Rattle.std.specs.BTreeSet as set
use Rattle.tw_model.specs.Maps.{bytes_cmp}
use Rattle.tw_urgency.specs.Dependencies.{is_that}
use Rattle.tw_urgency.proofs.Sets.{has_more}
use Rattle.tw_filter.proofs.named_tasks.put_uuid.Goals as goal

pub returns-in_ok-insert : goal.returns-in_ok-insert
returns-in_ok-insert c = λ u.
    has_more (λ q. set.contains bytes_cmp c.insert.new.self q) (λ q. set.contains bytes_cmp c.args.uuids.now q) u c.in-Some.uuid (c.in_ok-insert.ensures.updates.0 u)
    ∙ ap (λ o. set.contains bytes_cmp c.args.uuids.now u || is_that u o) (sym c.in-Some.is)
