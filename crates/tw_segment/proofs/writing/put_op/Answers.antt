use Rattle.std.proofs.Common.{subst, sym}
use Rattle.tw_model.proofs.Sorted.{on_ok}
use Rattle.tw_segment.specs.Segment.{IsReadBack}
use Rattle.tw_segment.proofs.OpsBack.{create_of, delete_of}
use Rattle.tw_segment.proofs.writing.put_op.Goals as goal

pub returns-in-Create-clause-back : goal.returns-in-Create-clause-back
returns-in-Create-clause-back c = on_ok c.put_named.result (λ e. subst IsReadBack (sym c.in-Create.is) (create_of _ c.in-Create.uuid e)) c.put_named.ensures.back

pub returns-in-Delete-clause-back : goal.returns-in-Delete-clause-back
returns-in-Delete-clause-back c = on_ok c.put_named-in-Delete.result (λ e. subst IsReadBack (sym c.in-Delete.is) (delete_of _ c.in-Delete.uuid e)) c.put_named-in-Delete.ensures.back
