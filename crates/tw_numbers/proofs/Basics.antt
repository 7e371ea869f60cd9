-- Facts of truth values and of results that many proofs share.
use Rattle.std.proofs.Common.{◌≡◌, Bool, true, false, ◌&&◌, Result, Ok, Err, OnOk, refl}

pub both_hold : (a b : Bool) → a && b ≡ true → (a ≡ true) × (b ≡ true)
both_hold true b e = (refl, e)
both_hold false b e = absurd cc

pub on_ok_map : {A E P Q : Type 0} (r : Result A E) → OnOk r P → (P → Q) → OnOk r Q
on_ok_map (Ok a) p f = f p
on_ok_map (Err e) p f = tt
