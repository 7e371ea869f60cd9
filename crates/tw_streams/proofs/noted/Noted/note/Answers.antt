use Rattle.std.proofs.Common.{rules, refl}
use Rattle.tw_streams.proofs.Fronts.{front_kept}
use Rattle.tw_streams.proofs.noted.Noted.note.Goals as goal

pub returns-clause-noted : goal.returns-clause-noted
returns-clause-noted g c = record {
  front = front_kept c.try_extend_from_slice.result c.args.self.now.front.items c.try_extend_from_slice.new.self.items c.args.bytes.now c.remaining_capacity.result c.min-more.result _ c.remaining_capacity.ensures refl c.min-more.ensures c.try_extend_from_slice.ensures.variant c.try_extend_from_slice.ensures.ok;
  taken = search rules;
  given = refl;
}
