-- The cursor at which a sync begins.
use Rattle.std.proofs.Common.{ℕ, inl, List, [], refl, sym, arith}
use Rattle.std.proofs.lemmas.List.{append-nil}
use Rattle.tw_http.specs.Link.{LinkModel, IsChainOf}
use Rattle.tw_state.specs.State.{State}
use Rattle.tw_sync.specs.Way.Cursor.{IsAtStart}
use Rattle.tw_sync.specs.Way.Progress.{IsPulling}
use Rattle.tw_sync.specs.declared.cursor.Cursor.{Cursor}
use Rattle.tw_sync.proofs.Served.{grows_same}
use Rattle.tw_sync.proofs.Hearing.{hears_none, kept_same}

pub starts : {L : Type 0} (m : LinkModel L) (client host : List ℕ) (state : State) (link : L) (cursor : Cursor) → IsChainOf m link → IsAtStart state cursor → IsPulling m client host state link link cursor
starts m client host state link cursor whole s = record {
  legs = [];
  on_path = s.on_path;
  tries = (let e = s.conflicts in omega (arith, e));
  asked = record {
    kept = kept_same m link;
    count = omega arith;
    heard = λ tells. record {
      hs = [];
      hears = hears_none m client host link;
      told = refl;
      ops = [];
      reads = refl;
      brought_is = sym s.on_path.versions;
      bytes_are = sym s.on_path.bytes;
      conflicts_are = sym s.conflicts;
      wanted_is = sym s.calm;
      each = tt;
      followed = tt;
      so = refl;
    };
  };
  come = λ honest. record {
    on = record { honest = honest; whole = (whole (record { honest = honest.honest; tells = honest.tells })).whole; grows = grows_same (m.chain link) };
    mine = sym (append-nil (m.own link));
    lies = inl refl;
    behind = tt;
    others = (let e = s.conflicts in omega (arith, e));
    late = inl (let e = s.conflicts in let f = s.on_path.versions in omega (arith, e, f));
  };
}
