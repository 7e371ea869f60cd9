use Rattle.std.proofs.Common.{◌∙◌, sym, ap, subst}
use Rattle.std.specs.Prelude.{All, length}
use Rattle.tw_records.specs.Bodies.{block_size}
use Rattle.tw_records.specs.Table.{table_by, table_in}
use Rattle.tw_records.specs.Opening.{IsInside, fresh_after}
use Rattle.tw_server.specs.Opening.{IfDamaged, IsDamageBy, IsReadBy, OnNothing, no_rows}
use Rattle.tw_server.specs.Server.{magic}
use Rattle.tw_server.proofs.Refusals.{from_fault}
use Rattle.tw_server.proofs.server.Server.read_all.Goals as goal

pub take_all-requires-clause-inside : goal.take_all-requires-clause-inside
take_all-requires-clause-inside g c =
    subst (λ (n : _). All (IsInside n) c.in_ok-sources.sources.items) (ap length c.as_slice.ensures.value ∙ c.in_ok-kinds.ensures.count) c.in_ok-sources.ensures.inside

pub returns-in_err-take_all-clause-damaged : goal.returns-in_err-take_all-clause-damaged
returns-in_err-take_all-clause-damaged g c =
    let m = g.D.Disk.model in
    from_fault (λ e. OnNothing m c.args.self.now c.args.disk.now (λ bodies. IfDamaged e (IsDamageBy (m.seen c.args.disk.now) bodies (table_in block_size bodies)))) c.from_residual-in_err-take_all.result c.in_err-take_all.field-0.0 c.from_residual-in_err-take_all.ensures.1
    (λ bodies on nothing.
    let kinds = c.as_slice.ensures.value ∙ c.in_ok-kinds.ensures.kinds magic bodies on in
    subst (λ ss. IfDamaged c.in_err-take_all.field-0.0 (IsDamageBy (m.seen c.args.disk.now) bodies (table_by block_size bodies no_rows ss))) (c.in_ok-sources.ensures.walked bodies kinds)
    (c.in_err-take_all.ensures.damaged bodies on nothing))

pub returns-clause-read : goal.returns-clause-read
returns-clause-read g c = λ bodies on nothing.
    let kinds = c.as_slice.ensures.value ∙ c.in_ok-kinds.ensures.kinds magic bodies on in
    subst (λ ss. IsReadBy c.take_all.new.self (table_by block_size bodies no_rows ss)) (c.in_ok-sources.ensures.walked bodies kinds) (c.in_ok-take_all.ensures.taken bodies on nothing)

pub returns-clause-fresh : goal.returns-clause-fresh
returns-clause-fresh g c = λ magic bodies on.
    c.fresh_versions.ensures ∙ ap (fresh_after 0) (c.as_slice-2.ensures.value ∙ c.in_ok-kinds.ensures.kinds magic bodies on)
