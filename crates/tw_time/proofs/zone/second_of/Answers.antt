use Rattle.std.proofs.Common.{◌≡◌, ℤ, pos, ◌≤ℤ◌, ◌<ℤ◌, arith, subst, IsOk, sym, ◌∙◌, ap, Some}
use Rattle.std.proofs.lemmas.Result.{IfOk-at_ok}
use Rattle.jiff.specs.Types.{DateTime}
use Rattle.jiff.specs.Words.{picked_instant, plain_zone, IsTimestampNanos}
use Rattle.jiff_core.proofs.SignedLemmas.{signed_arith}
use Rattle.tw_time.specs.Civil.{limit, nanos}
use Rattle.tw_time.proofs.CivilFacts.{second_in_range_none, second_in_range_is}
use Rattle.tw_time.proofs.Seconds.{whole_seconds, whole_seconds_is}
use Rattle.tw_time.proofs.zone.second_of.Goals as goal
use Rattle.tw_time.proofs.zone.second_of.Goals.{then-nanos-lt0-via-then-nanos-lt0, then-nanos-lt0-via-else-nanos-lt0+then-nanos-ge-LIMIT_NANOS}

pub returns-in_default-clause-value : goal.returns-in_default-clause-value
returns-in_default-clause-value c =
    let date = c.to_datetime.ensures.date in
    let time = c.to_datetime.ensures.time in
    let zone = c.zone.view_is in
    let dt : DateTime = record { date = c.args.date; time = c.args.time } in
    let n : ℤ = picked_instant c.args.zone.now dt in
    let same : picked_instant (plain_zone c.zone.inside.inner) c.to_datetime.result ≡ n = λ i. picked_instant (zone i) (record { date = date i; time = time i }) in
    sym (second_in_range_none n (λ (low : pos 0 ≤ℤ n) (high : n <ℤ nanos limit).
    let within : IsTimestampNanos n = (omega (arith, signed_arith, low), omega (arith, signed_arith, high)) in
    let ok = c.to_timestamp.ensures.succeeds.1 (subst IsTimestampNanos (sym same) within) in
    let refuted = subst IsOk c.in_default.is ok in cc))

pub returns-then-nanos-lt0-clause-value : goal.returns-then-nanos-lt0-clause-value
returns-then-nanos-lt0-clause-value c =
    let date = c.to_datetime.ensures.date in
    let time = c.to_datetime.ensures.time in
    let zone = c.zone.view_is in
    let dt : DateTime = record { date = c.args.date; time = c.args.time } in
    let n : ℤ = picked_instant c.args.zone.now dt in
    let same : picked_instant (plain_zone c.zone.inside.inner) c.to_datetime.result ≡ n = λ i. picked_instant (zone i) (record { date = date i; time = time i }) in
    let value : c.as_nanosecond-nanos.result ≡ n = c.as_nanosecond-nanos.ensures ∙ IfOk-at_ok _ c.in-Ok.is c.to_timestamp.ensures.value ∙ same in
    sym (second_in_range_none n (λ (low : pos 0 ≤ℤ n) (high : n <ℤ nanos limit).
    elim c.then-nanos-lt0.branch [
      | then-nanos-lt0-via-then-nanos-lt0 w ↦ omega (arith, signed_arith, value, low, w.if-nanos-lt0.true)
      | then-nanos-lt0-via-else-nanos-lt0+then-nanos-ge-LIMIT_NANOS w ↦ omega (arith, signed_arith, value, high, w.if-nanos-ge-LIMIT_NANOS.true)
    ]))

pub returns-clause-value : goal.returns-clause-value
returns-clause-value c =
    let date = c.to_datetime.ensures.date in
    let time = c.to_datetime.ensures.time in
    let zone = c.zone.view_is in
    let dt : DateTime = record { date = c.args.date; time = c.args.time } in
    let n : ℤ = picked_instant c.args.zone.now dt in
    let same : picked_instant (plain_zone c.zone.inside.inner) c.to_datetime.result ≡ n = λ i. picked_instant (zone i) (record { date = date i; time = time i }) in
    let value : c.as_nanosecond-nanos.result ≡ n = c.as_nanosecond-nanos.ensures ∙ IfOk-at_ok _ c.in-Ok.is c.to_timestamp.ensures.value ∙ same in
    let low : pos 0 ≤ℤ n = omega (arith, signed_arith, value, c.if-nanos-lt0.false) in
    let high : n <ℤ nanos limit = omega (arith, signed_arith, value, c.if-nanos-ge-LIMIT_NANOS.false) in
    ap (λ z. Some (whole_seconds z)) value ∙ ap (λ k. Some k) (whole_seconds_is n low high) ∙ sym (second_in_range_is n low high)
