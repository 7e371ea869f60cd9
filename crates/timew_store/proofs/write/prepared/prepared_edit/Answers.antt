use Rattle.std.proofs.Common.{refl, sym, subst, rules}
use Rattle.timew_interval.specs.Interval.{AreRows}
use Rattle.timew_store.proofs.PreparedEdits.{put_back}
use Rattle.timew_store.proofs.write.prepared.prepared_edit.Goals as goal

pub returns-in-Ok-with_room-clause-prepared : goal.returns-in-Ok-with_room-clause-prepared
returns-in-Ok-with_room-clause-prepared c = record {
  files = refl;
  rows = c.in-Ok-with_room.ensures.rows;
  are = subst AreRows (sym c.in-Ok-with_room.ensures.rows) c.with_room.ensures.are;
  known = refl;
  edit_is = refl;
  edits = c.requires;
  room = search rules;
  empty = search rules;
  places = search rules;
  named = search rules;
  body = search rules;
  changes = search rules;
  hold = search rules;
}

pub returns-in-Err-clause-same : goal.returns-in-Err-clause-same
returns-in-Err-clause-same c = put_back c.args.months c.args.months.files c.in-Err.rows c.args.months.known refl c.in-Err.ensures.err refl _ _
