use Rattle.std.proofs.Common.{◌∙◌, sym, subst}
use Rattle.timew_month.specs.Known.{AreKnown}
use Rattle.timew_store.proofs.PreparedEdits.{put_back, still_named, still_known}
use Rattle.timew_store.proofs.write.prepared.PreparedEdit.into_before.Goals as goal

pub from_rows-rows-requires : goal.from_rows-rows-requires
from_rows-rows-requires c = c.requires.2.are

pub invariant_of-result : goal.invariant_of-result
invariant_of-result c = record {
  named = still_named c.requires.0 c.requires.1 c.args.self c.requires.2;
  known_are = subst (λ (r : _). AreKnown c.args.self.files.items r c.args.self.known.items) (sym c.from_rows-rows.ensures) (still_known c.requires.0 c.requires.1 c.args.self c.requires.2);
}

pub returns : goal.returns
returns c = λ months edit is. put_back months c.args.self.files c.from_rows-rows.result c.args.self.known is.files (c.from_rows-rows.ensures ∙ is.rows) is.known _ _
