use Rattle.std.proofs.Common.{◌∙◌, sym, subst}
use Rattle.timew_interval.specs.Interval.{AreRows}
use Rattle.timew_month.specs.Known.{AreKnown}
use Rattle.timew_month.specs.Records.{changes_of}
use Rattle.timew_month.proofs.MonthsPut.{still_months}
use Rattle.timew_store.proofs.PreparedEdits.{hold_next, next_rows, next_are, inside, still_named}
use Rattle.timew_store.proofs.write.prepared.PreparedEdit.into_after.Goals as goal

pub splice-requires-clause-inside : goal.splice-requires-clause-inside
splice-requires-clause-inside c = inside c.requires.0 c.requires.1 c.args.self c.requires.2

pub splice-requires-clause-room : goal.splice-requires-clause-room
splice-requires-clause-room c = c.requires.2.room

pub files_with-requires-clause-empty : goal.files_with-requires-clause-empty
files_with-requires-clause-empty c = c.requires.2.empty

pub files_with-requires-clause-room : goal.files_with-requires-clause-room
files_with-requires-clause-room c = c.requires.2.places

pub from_rows-requires : goal.from_rows-requires
from_rows-requires c = subst AreRows (sym c.splice.ensures) (next_are c.requires.0 c.requires.1 c.args.self c.requires.2)

pub invariant_of-result : goal.invariant_of-result
invariant_of-result c = record {
  named = still_months c.files_with.result.items c.args.self.files.items (changes_of c.args.self.changes.items) c.files_with.ensures (still_named c.requires.0 c.requires.1 c.args.self c.requires.2) c.requires.2.named;
  known_are = subst (AreKnown c.files_with.result.items c.from_rows.result) (sym c.clear.ensures.items) tt;
}

pub returns-clause-months : goal.returns-clause-months
returns-clause-months c = λ months edit is. hold_next months edit c.args.self _ is c.files_with.ensures (c.from_rows.ensures ∙ c.splice.ensures)

pub returns-clause-rows : goal.returns-clause-rows
returns-clause-rows c = λ months edit is. next_rows months edit c.args.self _ is (c.from_rows.ensures ∙ c.splice.ensures)
