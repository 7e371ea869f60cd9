-- The moment of two numbers.
use Rattle.std.specs.Prelude.{◌≡◌, ℕ, Bool, true, false, nat_lt, Option, Some, None, refl}
use Rattle.std.proofs.lemmas.Bool.{ltb-true}
use Rattle.tw_world.specs.declared.moment.Moment.{Moment}
use Rattle.tw_world.specs.declared.moment.TheConstants.{MOMENT_LIMIT}

-- the moment, if both tests hold
unfoldable pub moment_if : (seconds nanos : ℕ) (years second : Bool) → nat_lt seconds MOMENT_LIMIT ≡ years → nat_lt nanos 1000000000 ≡ second → Option Moment
moment_if seconds nanos true true years second = Some (record {
  seconds = seconds;
  nanos = nanos;
  in_years = ltb-true seconds MOMENT_LIMIT years;
  in_second = ltb-true nanos 1000000000 second;
})
moment_if seconds nanos true false years second = None
moment_if seconds nanos false whatever years second = None

-- the moment of these seconds and nanoseconds, if both are in range
unfoldable pub moment_of : ℕ → ℕ → Option Moment
moment_of seconds nanos = moment_if seconds nanos (nat_lt seconds MOMENT_LIMIT) (nat_lt nanos 1000000000) refl refl
