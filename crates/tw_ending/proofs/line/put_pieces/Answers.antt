use Rattle.std.proofs.Common.{◌++◌}
use Rattle.tw_ending.proofs.Lined.{piece_then, piece_fails}
use Rattle.tw_ending.proofs.line.put_pieces.Goals as goal

pub returns-in_default : goal.returns-in_default
returns-in_default g c =
    piece_fails g.E.Sink.model c.args.err.now c.put_piece.new.err c.args.front.now (c.args.name.now ++ c.args.back.now) c.in_default.ensures.failed c.in_default.ensures.part

pub returns-in_default-put_piece : goal.returns-in_default-put_piece
returns-in_default-put_piece g c =
    piece_then g.E.Sink.model c.args.err.now c.put_piece.new.err c.put_piece-2.new.err c.args.front.now (c.args.name.now ++ c.args.back.now) c.put_piece.ensures.kept c.in-Ok.ensures.written
    (piece_fails g.E.Sink.model c.put_piece.new.err c.put_piece-2.new.err c.args.name.now c.args.back.now c.in_default-put_piece.ensures.failed c.in_default-put_piece.ensures.part)

pub returns : goal.returns
returns g c =
    piece_then g.E.Sink.model c.args.err.now c.put_piece.new.err c.put_text.new.err c.args.front.now (c.args.name.now ++ c.args.back.now) c.put_piece.ensures.kept c.in-Ok.ensures.written
    (piece_then g.E.Sink.model c.put_piece.new.err c.put_piece-2.new.err c.put_text.new.err c.args.name.now c.args.back.now c.put_piece-2.ensures.kept c.in-Ok-put_piece.ensures.written c.put_text.ensures)
