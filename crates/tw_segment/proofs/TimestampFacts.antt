-- A timestamp is read as the moment that it was written for.
use Rattle.std.proofs.Common.{◌≡◌, ℕ, List, [], ◌∷◌, ◌++◌, codes, Option, Some, ℤ, pos, ◌-ℤ◌, arith, refl, ap, ◌∙◌, length, append_assoc, Result, Ok, Err}
use Rattle.std.specs.Str.{IsAscii, IsUtf8}
use Rattle.std.specs.Result.{MatchResult, IsOk}
use Rattle.std.proofs.lemmas.Str.{IsUtf8-from_ascii}
use Rattle.std.proofs.lemmas.List.{take_at, drop_at}
use Rattle.jiff_core.proofs.SignedLemmas.{signed_arith}
use Rattle.tw_time.specs.Basic.{◌>>=◌}
use Rattle.tw_time.specs.Extended.{extended, extended_second}
use Rattle.tw_world.specs.declared.Moment.{Moment}
use Rattle.tw_world.proofs.Range.{moment_of-numbers}
use Rattle.tw_segment.specs.Timestamp.{digits, timestamp, nanos_at, ahead, moment_at, timestamp_moment}
use Rattle.tw_segment.proofs.Decimals.{after_point-nine}

pub ok_if_ascii : {A E : Type 0} (P : A → Type 0) (Q : E → Type 0) (r : Result A E) (bytes : List ℕ) → MatchResult r P (λ e. ¬ (IsUtf8 bytes) × Q e) → IsAscii bytes → IsOk r
ok_if_ascii P Q (Ok x) bytes h a = refl
ok_if_ascii P Q (Err e) bytes h a = absurd (h.0 (IsUtf8-from_ascii bytes a))

pub laid_out : (s0 s1 s2 s3 s4 second nanos : List ℕ) → s0 ≡ [] → s1 ≡ s0 ++ second → s2 ≡ s1 ++ 46 ∷ [] → s3 ≡ s2 ++ nanos → s4 ≡ s3 ++ 90 ∷ [] → s4 ≡ second ++ codes "." ++ nanos ++ codes "Z"
laid_out s0 s1 s2 s3 s4 second nanos e0 e1 e2 e3 e4 =
    rw (e4, e3, e2, e1, e0) (simp append_assoc)

pub timestamp-is : (at : Moment) → timestamp at ≡ extended at.seconds ++ codes "." ++ digits 9 at.nanos ++ codes "Z"
unfolding timestamp
timestamp-is at = refl

read_parts : (front : Option ℤ) (decimals : Option (ℕ × List ℕ)) (second nanos : ℕ) → front ≡ Some (pos second) → decimals ≡ Some (nanos, 90 ∷ [])
    → (front >>= λ s. decimals >>= λ n. ahead n.1 >>= λ offset. moment_at (s -ℤ offset) n.0) ≡ moment_at (pos second -ℤ pos 0) nanos
read_parts front decimals second nanos e f = λ i. e i >>= λ s. f i >>= λ n. ahead n.1 >>= λ offset. moment_at (s -ℤ offset) n.0

in_two : (second rest : List ℕ) (at : Moment) → length second ≡ 19 → extended_second second ≡ Some (pos at.seconds) → nanos_at rest ≡ Some (at.nanos, 90 ∷ []) → timestamp_moment (second ++ rest) ≡ Some at
unfolding timestamp_moment
in_two second rest at len read decimals =
    let front = ap extended_second (take_at second rest 19 len) ∙ read in
    let back = ap nanos_at (drop_at second rest 19 len) ∙ decimals in
    let whole : pos at.seconds -ℤ pos 0 ≡ pos at.seconds = omega (arith, signed_arith) in
    read_parts _ _ at.seconds at.nanos front back ∙ ap (λ z. moment_at z at.nanos) whole ∙ moment_of-numbers at

pub timestamp_moment-written : (at : Moment) → length (extended at.seconds) ≡ 19 → extended_second (extended at.seconds) ≡ Some (pos at.seconds) → timestamp_moment (timestamp at) ≡ Some at
timestamp_moment-written at len read =
    let rest : List ℕ = 46 ∷ digits 9 at.nanos ++ 90 ∷ [] in
    let laid : timestamp at ≡ extended at.seconds ++ rest = timestamp-is at ∙ simp append_assoc in
    ap timestamp_moment laid ∙ in_two (extended at.seconds) rest at len read (after_point-nine at.nanos at.in_second)
