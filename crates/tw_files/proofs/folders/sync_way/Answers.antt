use Rattle.std.proofs.Common.{◌≡◌, arith, get_or, sym, ap, ◌∙◌}
use Rattle.std.proofs.lemmas.Str.{IsCharBoundary-after_ascii}
use Rattle.tw_files.proofs.folders.sync_way.Goals as goal

pub range-requires-clause-end_boundary : goal.range-requires-clause-end_boundary
range-requires-clause-end_boundary g c =
    let at = c.loop-at.at in
    let slash : get_or c.args.path.now at 0 ≡ 47 = ap (λ bytes. get_or bytes at 0) (sym c.as_bytes.ensures.value) ∙ c.if-as_bytes-at-eq47.true in
    IsCharBoundary-after_ascii c.args.path.now at c.utf8.path (omega arith) (omega arith)
