use Rattle.std.proofs.Common.{◌≡◌, ◌≤◌, ◌<◌, ◌∙◌, ◌+◌, ◌++◌, [], sym, ap, subst, arith, take, length, length-append, length-take-le}
use Rattle.std.proofs.lemmas.List.{length-take, take-append-le}
use Rattle.std.proofs.KnownBytes.{Consumes-nil, Consumes-trans}
use Rattle.std.specs.Io.KnownBytes.{Consumes}
use Rattle.tw_streams.proofs.reply.read_reply.Goals as goal

pub loop-piece-init : goal.loop-piece-init
loop-piece-init g c =
    let none : c.clear.new.self.items ≡ [] = c.clear.ensures.items in
    let zero : length c.clear.new.self.items ≡ 0 = ap length none in
    (omega (arith, zero), subst (Consumes _ _) (sym none) (Consumes-nil _), record { before = []; piece = []; read = none; short = omega arith; known = λ n ends. omega (arith, zero) })

pub loop-piece-preserved : goal.loop-piece-preserved
loop-piece-preserved g c =
    let inv = c.loop-piece.invariant in
    let before = c.loop-piece.reply.items in
    let room = c.room_after-room.result in
    let count = c.in-Ok.count in
    let piece = take count c.read_next.new.buffer in
    let same : c.as_slice.result.now ≡ before = c.as_slice.ensures.value in
    let far : length c.as_slice.result.now ≡ length before = ap length same in
    let joined : c.add_piece.new.reply.items ≡ before ++ piece =
    c.in_ok-add_piece-in-Ok.ensures.added ∙ ap (λ p. before ++ p) (take-append-le count c.read_next.new.buffer _ c.in-Ok.ensures.bound.0) in
    let len : length c.add_piece.new.reply.items ≡ length before + length piece = ap length joined ∙ length-append before piece in
    let kept : length c.read_next.new.buffer ≤ room = first_of (grind (arith, length-take), grind arith) in
    let few : length piece ≤ room = omega (arith, length-take-le count c.read_next.new.buffer c.in-Ok.ensures.bound.0, c.in-Ok.ensures.bound.0, kept) in
    let some : 0 < room = omega (arith, c.if-room-eq0.false) in (
      omega (arith, len, few, far, c.room_after-room.ensures.longest),
      subst (Consumes _ _) (sym joined) (Consumes-trans _ _ _ _ _ inv.1 c.in-Ok.ensures.bytes.0),
      record {
        before = before;
        piece = piece;
        read = joined;
        short = omega (arith, few, c.room_after-room.ensures.piece);
        known = λ n ends. omega (arith, len, few, far, c.room_after-room.ensures.known n (subst (λ bytes. g.N.Framing.ends_at bytes n) (sym same) ends) some);
      },
    )
