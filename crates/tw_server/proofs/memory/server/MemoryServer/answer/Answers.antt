use Rattle.std.specs.Prelude.{All}
use Rattle.std.proofs.Common.{◌≡◌, ◌∙◌, ◌++◌, List, map, false, sym, ap, subst}
use Rattle.tw_world.specs.Memory.{memory_model}
use Rattle.tw_http.specs.Serving.{client_of, demand_of}
use Rattle.tw_protocol.specs.Snapshots.{IsAccount}
use Rattle.tw_records.specs.Log.{Log, IsSound, account_of}
use Rattle.tw_records.specs.Demands.{added, stored}
use Rattle.tw_server.specs.Log.{log_after}
use Rattle.tw_server.specs.Server.{IsServerOn, Knows, drawn_id, is_closed}
use Rattle.tw_server.specs.Memory.Holding.{log_of, stored_as, snapshot_as, version_by, snapshot_by}
use Rattle.tw_server.specs.Memory.Stored.{versions_in, snapshots_in}
use Rattle.tw_server.specs.declared.memory.server.MemoryVersion.{MemoryVersion}
use Rattle.tw_server.specs.declared.memory.server.MemorySnapshot.{MemorySnapshot}
use Rattle.tw_server.proofs.MemoryVersions.{Fits, StoredFits, logs_same, log_of-more, version_stored, snapshot_stored, more_fit, more_stored_fit, was_open}
use Rattle.tw_server.proofs.Refusals.{was_open_before}
use Rattle.tw_server.proofs.memory.server.MemoryServer.answer.Goals as goal

pub invariant_of-self-2 : goal.invariant_of-self-2
invariant_of-self-2 c =
    let old = c.args.self.now in
    let log = log_of old.versions.items old.snapshots.items in
    let request = c.args.request in
    let own = c.args.own in
    let id = drawn_id old.ids.start in
    let is_open : is_closed old.server ≡ false = was_open (is_closed old.server) c.answer.result c.in-Ok.response _ c.in-Ok.is c.answer.ensures.closed in
    let ans = c.in-Ok.ensures.answered log (old.stands is_open) in
    let kept : c.put.new.versions.items ≡ old.versions.items ++ map (stored_as own) (added log (client_of request) (demand_of request) id) =
    c.put.ensures.versions ∙ ap (λ (vs : List MemoryVersion). vs ++ versions_in c.stored_by.result) c.in_ok-reserve.ensures.items ∙ ap (λ vs. old.versions.items ++ vs) (c.stored_by.ensures.versions ∙ ap (λ r. version_by r request own) ans.says ∙ version_stored log request id own) in
    let stored_now : c.put.new.snapshots.items ≡ old.snapshots.items ++ map snapshot_as (stored log (client_of request) (demand_of request)) =
    c.put.ensures.snapshots ∙ ap (λ (ts : List MemorySnapshot). ts ++ snapshots_in c.stored_by.result) c.in_ok-reserve-2.ensures.items ∙ ap (λ ts. old.snapshots.items ++ ts) (c.stored_by.ensures.snapshots ∙ ap (λ r. snapshot_by r request) ans.says ∙ snapshot_stored log request id) in
    let logs : log_after log request id ≡ log_of c.put.new.versions.items c.put.new.snapshots.items =
    sym ((λ i. log_of (kept i) (stored_now i)) ∙ log_of-more own old.versions.items old.snapshots.items log request id (λ i. log)) in
    record {
      stands = λ still_open. subst (λ (l : Log). IsServerOn memory_model c.answer.new.self c.answer.new.disk l) logs ans.holds;
      long = λ still_open. c.answer.ensures.length still_open;
      known = subst (λ (l : Log). Knows c.answer.new.self l) logs ans.holds.places.knows;
      sound = subst (λ (l : Log). IsSound l.versions) logs ans.holds.places.sound;
      accounts = λ client. subst (λ (l : Log). IsAccount (account_of client l)) logs (ans.holds.places.accounts client);
      fit = more_fit old.versions.items c.put.new.versions.items log request id own kept old.fit c.requires;
      stored_fit = more_stored_fit old.snapshots.items c.put.new.snapshots.items log request stored_now old.stored_fit c.requires;
    }

pub invariant_of-self-in_default : goal.invariant_of-self-in_default
invariant_of-self-in_default c =
    let old = c.args.self.now in
    let log = log_of old.versions.items old.snapshots.items in
    let logs = logs_same c.in_ok-reserve.ensures.items c.in_ok-reserve-2.ensures.items in
    record {
      stands = λ still_open.
          let is_open = was_open_before memory_model old.server c.answer.new.self old.disk c.answer.new.disk c.answer.result c.answer.ensures.closed c.answer.ensures.refused still_open in
          subst (λ (l : Log). IsServerOn memory_model c.answer.new.self c.answer.new.disk l) logs (c.in_default.ensures.stays log (old.stands is_open) still_open);
      long = λ still_open. c.answer.ensures.length still_open;
      known = subst (λ (l : Log). Knows c.answer.new.self l) logs (c.in_default.ensures.known log old.known);
      sound = subst (λ (l : Log). IsSound l.versions) logs old.sound;
      accounts = λ client. subst (λ (l : Log). IsAccount (account_of client l)) logs (old.accounts client);
      fit = subst (λ (vs : List MemoryVersion). All Fits vs) (sym c.in_ok-reserve.ensures.items) old.fit;
      stored_fit = subst (λ (ts : List MemorySnapshot). All StoredFits ts) (sym c.in_ok-reserve-2.ensures.items) old.stored_fit;
    }

pub returns-clause-holds : goal.returns-clause-holds
returns-clause-holds c =
    let old = c.args.self.now in
    let log = log_of old.versions.items old.snapshots.items in
    let request = c.args.request in
    let own = c.args.own in
    let id = drawn_id old.ids.start in
    let is_open : is_closed old.server ≡ false = was_open (is_closed old.server) c.answer.result c.in-Ok.response _ c.in-Ok.is c.answer.ensures.closed in
    let ans = c.in-Ok.ensures.answered log (old.stands is_open) in
    let kept : c.put.new.versions.items ≡ old.versions.items ++ map (stored_as own) (added log (client_of request) (demand_of request) id) =
    c.put.ensures.versions ∙ ap (λ (vs : List MemoryVersion). vs ++ versions_in c.stored_by.result) c.in_ok-reserve.ensures.items ∙ ap (λ vs. old.versions.items ++ vs) (c.stored_by.ensures.versions ∙ ap (λ r. version_by r request own) ans.says ∙ version_stored log request id own) in
    let stored_now : c.put.new.snapshots.items ≡ old.snapshots.items ++ map snapshot_as (stored log (client_of request) (demand_of request)) =
    c.put.ensures.snapshots ∙ ap (λ (ts : List MemorySnapshot). ts ++ snapshots_in c.stored_by.result) c.in_ok-reserve-2.ensures.items ∙ ap (λ ts. old.snapshots.items ++ ts) (c.stored_by.ensures.snapshots ∙ ap (λ r. snapshot_by r request) ans.says ∙ snapshot_stored log request id) in
    λ i. record { versions = kept i; snapshots = stored_now i; start = ans.drawn.start i; step = ans.drawn.step i }
