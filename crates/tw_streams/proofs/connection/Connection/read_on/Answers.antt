use Rattle.std.proofs.Common.{inl, inr, rules, ◌<◌, ◌++◌, [], ◌∙◌, refl, arith, take, length, length-append, length-take-le}
use Rattle.std.proofs.KnownBytes.{Consumes-nil, Consumes-trans}
use Rattle.tw_streams.proofs.connection.Connection.read_on.Goals as goal

pub loop-count-init : goal.loop-count-init
loop-count-init g c = ([], Consumes-nil _, refl, λ h. h, refl, refl)

pub loop-count-preserved : goal.loop-count-preserved
loop-count-preserved g c =
    let inv = c.loop-count.invariant in
    let piece = take c.in-Ok.more c.read_some.new.buf in
    (inv.0 ++ piece, Consumes-trans _ _ _ _ _ inv.1 c.in-Ok.ensures.bytes.0, omega (arith, inv.2, length-append inv.0 piece, length-take-le c.in-Ok.more c.read_some.new.buf c.in-Ok.ensures.bound.0), λ h. c.read_some.ensures.ended (inv.3 h), c.read_some.ensures.sent ∙ inv.4, search rules)

pub returns-in-Ok-eq0-clause-read : goal.returns-in-Ok-eq0-clause-read
returns-in-Ok-eq0-clause-read g c =
    let inv = c.loop-count.invariant in
    let some : 0 < length c.read_some.new.buf = grind arith in
    inr (inr (record { bytes = inv.0 ++ _; read = Consumes-trans _ _ _ _ _ inv.1 c.in-Ok-eq0.ensures.bytes.0; whole = inl (c.in-Ok-eq0.ensures.bytes.1 (search rules) some) }))

pub returns-clause-read : goal.returns-clause-read
returns-clause-read g c =
    let inv = c.loop-count.invariant in
    inr (inr (record { bytes = inv.0; read = inv.1; whole = inr (omega (arith, inv.2)) }))
