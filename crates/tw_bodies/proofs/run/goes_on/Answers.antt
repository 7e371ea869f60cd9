use Rattle.std.proofs.Common.{◌∙◌, List, ℕ, ap, sym}
use Rattle.tw_model.specs.Maps.{same_bytes}
use Rattle.tw_model.specs.declared.SyncOp.{SyncOp}
use Rattle.tw_bodies.specs.Runs.{goes_on}
use Rattle.tw_bodies.proofs.RunsRead.{update_read}
use Rattle.tw_bodies.proofs.run.goes_on.Goals as goal

pub returns-in-Create : goal.returns-in-Create
returns-in-Create c = λ same read e.
    let u = c.in-Create.uuid in
    ap (λ (op : SyncOp). goes_on op read.0) c.in-Create.is
    ∙ update_read c.args.bytes.now u c.if-bytes-ne3.false (sym (c.eq.ensures ∙ ap (λ (v : List ℕ). same_bytes v u) c.uuid_from.ensures) ∙ same) read e

pub returns-in-Update : goal.returns-in-Update
returns-in-Update c = λ same read e.
    let u = c.in-Update.uuid in
    ap (λ (op : SyncOp). goes_on op read.0) c.in-Update.is
    ∙ update_read c.args.bytes.now u c.if-bytes-ne3.false (sym (c.eq-in-Update.ensures ∙ ap (λ (v : List ℕ). same_bytes v u) c.uuid_from-in-Update.ensures) ∙ same) read e
