use Rattle.std.proofs.Common.{◌∙◌, ap, sym}
use Rattle.std.specs.FinMap.{empty}
use Rattle.timew_bridge.specs.Candidates.{with_active}
use Rattle.timew_bridge.proofs.Enough.{with-append}
use Rattle.timew_bridge.proofs.candidates.active_among.Goals as goal

pub returns : goal.returns
returns c =
    c.in_ok-put_all_named.ensures
    ∙ ap (with_active c.args.tasks.now c.args.now c.args.named.now.keys) (c.in_ok-put_all_started.ensures ∙ ap (with_active c.args.tasks.now c.args.now c.args.uuids.now) c.new-part.ensures)
    ∙ sym (with-append c.args.tasks.now c.args.now c.args.uuids.now c.args.named.now.keys empty)
