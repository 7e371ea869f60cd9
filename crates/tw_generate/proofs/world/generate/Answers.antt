-- The worlds are those that the steps led to.
use Rattle.std.proofs.Common.{◌∙◌, ap, subst, ℕ, Bool, List, length}
use Rattle.tw_model.specs.declared.changes.Change.{Change}
use Rattle.tw_segment.specs.Segment.{segment_text}
use Rattle.tw_groups.specs.Groups.{groups_of}
use Rattle.tw_groups.specs.Cut.{first}
use Rattle.tw_path.specs.Path.{is_batch}
use Rattle.tw_generate.specs.Changes.{made}
use Rattle.tw_generate.specs.Summary.{summary}
use Rattle.tw_generate.specs.Generated.{World, FirstChanges, SecondChanges}
use Rattle.tw_generate.specs.Machines.{world_of}
use Rattle.tw_sync.proofs.Results.{if_ok}
use Rattle.tw_generate.proofs.world.generate.Goals as goal

pub returns : goal.returns
returns c =
    let empty : World = world_of c.in_ok-empty.empty in
    let filled : World = world_of c.in_ok-filled.filled in
    let shared : World = world_of c.sync_second.new.self in
    let one : World = world_of c.in_ok-first_moved.first_moved in
    let both : World = world_of c.in_ok-both_moved.both_moved in
    if_ok c.summary.result c.summary.ensures (λ text told. record {
      at = record {
        made = c.at_second-made_at.result;
        first_moved = c.at_second-first_at.result;
        second_moved = c.at_second-second_at.result;
        made_is = c.at_second-made_at.ensures;
        first_moved_is = c.at_second-first_at.ensures;
        second_moved_is = c.at_second-second_at.ensures;
      };
      filled = filled;
      sent = world_of c.sync_first.new.self;
      shared = shared;
      first_moved = one;
      both_moved = both;
      second_sent = world_of c.sync_second-2.new.self;
      first_sent = world_of c.sync_first-2.new.self;
      ended = world_of c.sync_second-3.new.self;
      report = c.in_ok-report.report;
      fills = subst (λ (w : World). FirstChanges (made c.args.seed c.args.count) c.at_second-made_at.result w filled) c.in_ok-empty.ensures.empty (subst (λ (cs : List Change). FirstChanges cs c.at_second-made_at.result empty filled) c.in_ok-tasks.ensures c.in_ok-filled.ensures.changed);
      sends = (c.in_ok-sync_first.field-0, c.in_ok-sync_first.ensures.synced);
      shares = (c.in_ok-sync_second.field-0, c.in_ok-sync_second.ensures.synced);
      first_moves = subst (λ (cs : List Change). FirstChanges cs c.at_second-first_at.result shared one) c.in_ok-fifths.ensures c.in_ok-first_moved.ensures.changed;
      second_moves = subst (λ (cs : List Change). SecondChanges cs c.at_second-second_at.result one both) c.in_ok-thirds.ensures c.in_ok-both_moved.ensures.changed;
      second_sends = (c.in_ok-sync_second-2.field-0, c.in_ok-sync_second-2.ensures.synced);
      first_sends = c.in_ok-report.ensures.synced;
      ends = (c.in_ok-sync_second-3.field-0, c.in_ok-sync_second-3.ensures.synced);
      alone = c.sync_second-3.new.self.link.alone.own;
      tells = told ∙ ap (λ (b : ℕ). summary c.args.count b c.in_ok-report.report c.in_ok-equal.equal) c.in_ok-bytes.ensures
          ∙ ap (λ (e : Bool). summary c.args.count (length (segment_text (first is_batch (groups_of filled.first.pending)))) c.in_ok-report.report e) c.in_ok-equal.ensures;
    })
