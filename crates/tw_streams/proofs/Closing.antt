-- A connection that is closed.
use Rattle.std.proofs.Common.{◌≡◌, ◌⊎◌, inl, inr, List, ℕ, ◌+◌, ◌≤◌, Option, sym, subst}
use Rattle.std.specs.Duration.{as_nanos}
use Rattle.std.specs.Io.KnownBytes.{Consumes}
use Rattle.tw_streams.specs.declared.connection.Connection.{Connection}
use Rattle.tw_streams.specs.Waits.{EndsWithin, IsReadOn, IsClosed}

-- the other end was told, and then what it still sent was read
pub closed : {C S : Type 0} (is_ended : S → Type 0) (remaining : S → Option (List ℕ)) (old told new : Connection C S) → is_ended new.stream → remaining told.stream ≡ remaining old.stream
    → IsReadOn remaining told new → IsClosed is_ended remaining old new
closed is_ended remaining old told new ended same rest = record {
  ended = ended;
  read = record { bytes = rest.bytes; read = subst (λ known. Consumes known (remaining new.stream) rest.bytes) same rest.read; whole = rest.whole };
}

-- a connection of which the stream alone has changed ends when it did
pub still_near : {C S : Type 0} (Fails : Type 0) (has_shown : C → ℕ → Type 0) (nanos : ℕ) (told new : Connection C S) → new ≡ record told { stream = new.stream }
    → Fails ⊎ EndsWithin has_shown nanos told → Fails ⊎ EndsWithin has_shown nanos new
still_near Fails has_shown nanos told new same (inl fails) = inl fails
still_near Fails has_shown nanos told new same (inr near) =
    inr (near.0, subst (λ c. has_shown c.clock near.0) (sym same) near.1, subst (λ c. as_nanos c.end ≤ near.0 + nanos) (sym same) near.2)
