-- Days that are found one after another.
use Rattle.std.specs.Prelude.{min}
use Rattle.std.proofs.Common.{◌≡◌, ℕ, ◌-◌, ◌<◌, List, [], ◌∷◌, ◌++◌, map, take, refl, sym, ap, subst, ◌∙◌, append_assoc, arith}
use Rattle.std.proofs.lemmas.List.{map-append}
use Rattle.std.specs.List.{AllByRecursion, flat_map}
use Rattle.tw_time.specs.Moments.{TimeZone}
use Rattle.timew_interval.specs.declared.interval.Interval.{Interval}
use Rattle.timew_report.specs.declared.days.Day.{Day}
use Rattle.timew_report.specs.declared.days.Span.{Span}
use Rattle.timew_report.specs.Time.{is_tracked, time}
use Rattle.timew_report.specs.Days.{begins, end_of, days}
use Rattle.timew_report.specs.Texts.{name_of, line_text, day_line}
use Rattle.timew_report.specs.Held.{IsDay}
use Rattle.timew_report.specs.Walk.{AreSpent, IsFirst}
use Rattle.timew_report.proofs.Stretches.{one_begins}
use Rattle.timew_report.proofs.Seconds.{still_spent}

abbrev pub starts : List Day → List ℕ
starts found = map (λ (d : Day). d.start) found

good_more : {X : Type 0} (P : X → Type 0) (xs : List X) (x : X) → AllByRecursion P xs → P x → AllByRecursion P (xs ++ x ∷ [])
good_more P [] x good is = (is, tt)
good_more P (y ∷ xs) x good is = (good.0, good_more P xs x good.1 is)

pub days_more : (span : Span) (zone : TimeZone) (rows : List Interval) (from to now at k start end seconds : ℕ) (old new : List Day)
    → IsFirst rows at to now k start → start < end_of span zone start → end ≡ min (end_of span zone start) to → seconds ≡ time rows start end now → new ≡ old ++ record { start = start; seconds = seconds } ∷ []
    → starts old ++ begins (is_tracked rows now) (end_of span zone) at at (to - at) ≡ days span zone rows from to now → AllByRecursion (IsDay span zone rows to now) old
    → (starts new ++ begins (is_tracked rows now) (end_of span zone) end end (to - end) ≡ days span zone rows from to now) × AreSpent end now (take k rows) × AllByRecursion (IsDay span zone rows to now) new
days_more span zone rows from to now at k start end seconds old new first behind end_is seconds_is new_is sum good =
    let p = is_tracked rows now in
    let e = end_of span zone in
    let last : Day = record { start = start; seconds = seconds } in (
      ap (λ x. starts new ++ begins p e x x (to - x)) end_is
          ∙ ap (λ l. starts l ++ begins p e (min (e start) to) (min (e start) to) (to - min (e start) to)) new_is
          ∙ ap (λ l. l ++ begins p e (min (e start) to) (min (e start) to) (to - min (e start) to)) (map-append (λ (d : Day). d.start) old (last ∷ []))
          ∙ append_assoc (starts old) (start ∷ []) (begins p e (min (e start) to) (min (e start) to) (to - min (e start) to))
          ∙ ap (λ l. starts old ++ l) (sym (one_begins p e at start to first.later first.before behind first.none first.tracked))
          ∙ sum,
      still_spent start end now (take k rows) (let b : start < to = first.before in omega (arith, end_is, behind, b)) first.spent,
      subst (AllByRecursion (IsDay span zone rows to now)) (sym new_is) (good_more (IsDay span zone rows to now) old last good
          (record { inside = first.before; seconds = seconds_is ∙ ap (λ x. time rows start x now) end_is })),
    )

pub day_lines : (span : Span) (zone : TimeZone) (rows : List Interval) (to now : ℕ) (found : List Day) → AllByRecursion (IsDay span zone rows to now) found
    → flat_map (λ (d : Day). line_text (name_of span zone d.start) d.seconds) found ≡ flat_map (day_line span zone rows to now) (starts found)
day_lines span zone rows to now [] good = refl
day_lines span zone rows to now (d ∷ found) good =
    ap (λ n. line_text (name_of span zone d.start) n ++ flat_map (λ (d : Day). line_text (name_of span zone d.start) d.seconds) found) good.0.seconds
    ∙ ap (λ l. day_line span zone rows to now d.start ++ l) (day_lines span zone rows to now found good.1)
