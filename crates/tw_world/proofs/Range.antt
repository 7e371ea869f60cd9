-- What makes a moment, and that its numbers give it back.
use Rattle.std.specs.Prelude.{Bool, true, false, nat_lt, Some, None}
use Rattle.std.proofs.Common.{◌≡◌, ◌⊎◌, ◌<◌, ◌≤◌, ℕ, refl, ap, inl, inr, ◌∙◌}
use Rattle.std.proofs.lemmas.Bool.{lt-ltb, le-ltb}
use Rattle.std.proofs.Math.Bridge.{le_prop}
use Rattle.tw_world.specs.Moment.{moment_if, moment_of}
use Rattle.tw_world.specs.declared.moment.Moment.{Moment}
use Rattle.tw_world.specs.declared.moment.TheConstants.{MOMENT_LIMIT}

-- the bounds have one proof each, so the numbers make the moment
same_bounds : (seconds nanos : ℕ) (years years' : seconds < MOMENT_LIMIT) (second second' : nanos < 1000000000)
    → (let a : Moment = record { seconds = seconds; nanos = nanos; in_years = years; in_second = second } in let b : Moment = record { seconds = seconds; nanos = nanos; in_years = years'; in_second = second' } in a ≡ b)
same_bounds seconds nanos years years' second second' =
    ap (λ (y : seconds < MOMENT_LIMIT). let m : Moment = record { seconds = seconds; nanos = nanos; in_years = y; in_second = second } in m) (le_prop years years')
    ∙ ap (λ (s : nanos < 1000000000). let m : Moment = record { seconds = seconds; nanos = nanos; in_years = years'; in_second = s } in m) (le_prop second second')

made : (m : Moment) (years second : Bool) (p : nat_lt m.seconds MOMENT_LIMIT ≡ years) (q : nat_lt m.nanos 1000000000 ≡ second) → years ≡ true → second ≡ true → moment_if m.seconds m.nanos years second p q ≡ Some m
unfolding moment_if
made m true true p q early below = ap Some (same_bounds m.seconds m.nanos _ _ _ _)
made m true false p q early below = absurd (cc)
made m false second p q early below = absurd (cc)

not_made : (seconds nanos : ℕ) (years second : Bool) (p : nat_lt seconds MOMENT_LIMIT ≡ years) (q : nat_lt nanos 1000000000 ≡ second) → (years ≡ false) ⊎ (second ≡ false) → moment_if seconds nanos years second p q ≡ None
unfolding moment_if
not_made seconds nanos true true p q (inl late) = absurd (cc)
not_made seconds nanos true true p q (inr full) = absurd (cc)
not_made seconds nanos true false p q out = refl
not_made seconds nanos false second p q out = refl

-- a moment's numbers give it back
pub moment_of-numbers : (m : Moment) → moment_of m.seconds m.nanos ≡ Some m
unfolding moment_of
moment_of-numbers m = made m (nat_lt m.seconds MOMENT_LIMIT) (nat_lt m.nanos 1000000000) refl refl (lt-ltb m.seconds MOMENT_LIMIT m.in_years) (lt-ltb m.nanos 1000000000 m.in_second)

-- other numbers give none
pub moment_of-late : (seconds nanos : ℕ) → MOMENT_LIMIT ≤ seconds → moment_of seconds nanos ≡ None
unfolding moment_of
moment_of-late seconds nanos late = not_made seconds nanos (nat_lt seconds MOMENT_LIMIT) (nat_lt nanos 1000000000) refl refl (inl (le-ltb seconds MOMENT_LIMIT late))

pub moment_of-full : (seconds nanos : ℕ) → 1000000000 ≤ nanos → moment_of seconds nanos ≡ None
unfolding moment_of
moment_of-full seconds nanos full = not_made seconds nanos (nat_lt seconds MOMENT_LIMIT) (nat_lt nanos 1000000000) refl refl (inr (le-ltb nanos 1000000000 full))
