use Rattle.std.proofs.Common.{◌≡◌, ◌∙◌, [], List, refl, sym, subst}
use Rattle.std.specs.Prelude.{All}
use Rattle.std.proofs.lemmas.List.Elements.{All-nil}
use Rattle.tw_world.specs.Memory.{memory_model}
use Rattle.tw_protocol.specs.Snapshots.{IsAccount}
use Rattle.tw_records.specs.Log.{IsSound, account_of}
use Rattle.tw_server.specs.Server.{IsServerOn, Knows}
use Rattle.tw_server.specs.declared.memory.server.MemoryVersion.{MemoryVersion}
use Rattle.tw_server.specs.declared.memory.server.MemorySnapshot.{MemorySnapshot}
use Rattle.tw_server.specs.Memory.Holding.{log_of}
use Rattle.tw_server.proofs.MemoryVersions.{Fits, StoredFits, opened_empty}
use Rattle.tw_server.proofs.memory.server.MemoryServer.new.Goals as goal

pub invariant_of-result : goal.invariant_of-result
invariant_of-result c =
    let none : [] ≡ c.new-4.result.items = sym c.new-4.ensures.items in
    let no_snapshot : [] ≡ c.new-5.result.items = sym c.new-5.ensures.items in
    let on = opened_empty c.in_ok-disk.disk c.open.new.disk c.in-Ok.server (c.in_ok-disk.ensures.bytes ∙ c.new.ensures.items) (c.in-Ok.ensures.opened refl) in
    let logs : log_of [] [] ≡ log_of c.new-4.result.items c.new-5.result.items = λ i. log_of (none i) (no_snapshot i) in
    record {
      stands = λ is_open. subst (λ l. IsServerOn memory_model c.in-Ok.server c.open.new.disk l) logs on;
      long = λ is_open. c.in-Ok.ensures.length.0;
      known = subst (λ l. Knows c.in-Ok.server l) logs on.places.knows;
      sound = subst (λ l. IsSound l.versions) logs on.places.sound;
      accounts = λ client. subst (λ l. IsAccount (account_of client l)) logs (on.places.accounts client);
      fit = subst (λ (vs : List MemoryVersion). All Fits vs) none (All-nil Fits);
      stored_fit = subst (λ (ts : List MemorySnapshot). All StoredFits ts) no_snapshot (All-nil StoredFits);
    }
