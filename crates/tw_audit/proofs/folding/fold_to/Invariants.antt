use Rattle.std.proofs.Common.{◌≤◌, ◌+◌, ◌-◌, ◌^◌, List}
use Rattle.std.specs.Prelude.{IsTrue}
use Rattle.tw_http.specs.Link.{IsHonest}
use Rattle.tw_sync.specs.Replies.Heard.{Heard, Hears}
use Rattle.tw_audit.specs.Asking.{Asks}
use Rattle.tw_audit.specs.Folding.{IsOnTheWay}
use Rattle.tw_audit.proofs.folding.fold_to.Given as goal

abbrev pub invariant-loop-alloc : goal.invariant-loop-alloc
invariant-loop-alloc g l = record {
  asks : Asks g.L.Link.model l.fn.client l.fn.host l.fn.link l.link;
  exchanges : g.L.Link.model.exchanges l.link ≤ g.L.Link.model.exchanges l.fn.link + l.folded.versions;
  heard : IsTrue (g.L.Link.model.tells_list l.fn.link) → (hs : List Heard) × Hears g.L.Link.model l.fn.client l.fn.host l.fn.link l.link hs;
  way : IsHonest g.L.Link.model l.fn.link l.fn.client → IsOnTheWay (g.L.Link.model.chain l.link) l.fn.base l.folded;
}

abbrev pub decreases-loop-alloc : goal.decreases-loop-alloc
decreases-loop-alloc g l = 2 ^ 64 - l.folded.versions
