-- The totals are the times of all tags.
use Rattle.std.specs.Prelude.{nat_lt, nat_le}
use Rattle.std.proofs.Common.{◌≡◌, ℕ, ◌-◌, Bool, true, false, cond, ◌&&◌, ◌||◌, List, [], ◌∷◌, Some, None, refl, sym, ap, ◌∙◌}
use Rattle.std.proofs.lemmas.List.Folds.{list_any-append}
use Rattle.std.specs.List.{list_any, flat_map}
use Rattle.std.specs.FinMap.{get, get-empty}
use Rattle.tw_world.specs.Folder.{bytes_cmp, same_bytes}
use Rattle.tw_model.proofs.Maps.{same_bytes_exact, get-set_at, same_maps}
use Rattle.timew_interval.specs.declared.interval.Interval.{Interval}
use Rattle.timew_interval.specs.Interval.{content}
use Rattle.timew_cmd.specs.Ranges.{measured}
use Rattle.timew_report.specs.Time.{says_tag, at_now, tag_time}
use Rattle.timew_report.specs.Totals.{Times, unless_zero, times_of, totals, AreTotals}
use Rattle.timew_report.proofs.Counting.{count_same, count_none}

abbrev all_tags : List Interval → List (List ℕ)
all_tags rows = flat_map (λ (r : Interval). r.tags) rows

neither : (a b : Bool) → (a || b) ≡ false → (a ≡ false) × (b ≡ false)
neither true b e = absurd (cc)
neither false b e = (refl, e)

-- a tag that no interval has is that of no second
no_tag : (tag : List ℕ) (now s : ℕ) (rows : List Interval) → list_any (same_bytes tag) (all_tags rows) ≡ false → says_tag tag (at_now rows now s) ≡ false
no_tag tag now s [] none = refl
no_tag tag now s (r ∷ rows) none =
    let parts = neither (list_any (same_bytes tag) r.tags) (list_any (same_bytes tag) (all_tags rows)) (sym (list_any-append (same_bytes tag) r.tags (all_tags rows)) ∙ none) in
    by_case (nat_le r.start s && nat_lt s (measured now r)) parts.0 (no_tag tag now s rows parts.1)
  where
    by_case : (b : Bool) → list_any (same_bytes tag) r.tags ≡ false → says_tag tag (at_now rows now s) ≡ false → says_tag tag (cond b (Some (content r)) (at_now rows now s)) ≡ false
    by_case true here rest = here
    by_case false here rest = rest

of_tags : (q : List ℕ) (tags : List (List ℕ)) (rows : List Interval) (from to now : ℕ)
    → get (times_of tags rows from to now) q ≡ cond (list_any (same_bytes q) tags) (unless_zero (tag_time q rows from to now)) None
of_tags q [] rows from to now = get-empty bytes_cmp q
of_tags q (t ∷ tags) rows from to now =
    get-set_at (times_of tags rows from to now) t (unless_zero (tag_time t rows from to now)) q
    ∙ ap (λ o. cond (same_bytes q t) (unless_zero (tag_time t rows from to now)) o) (of_tags q tags rows from to now)
    ∙ by_case (same_bytes q t) refl
  where
    by_case : (b : Bool) → same_bytes q t ≡ b
        → cond b (unless_zero (tag_time t rows from to now)) (cond (list_any (same_bytes q) tags) (unless_zero (tag_time q rows from to now)) None)
        ≡ cond (b || list_any (same_bytes q) tags) (unless_zero (tag_time q rows from to now)) None
    by_case true e = ap (λ x. unless_zero (tag_time x rows from to now)) (sym (same_bytes_exact q t e))
    by_case false e = refl

pub totals_are : (rows : List Interval) (from to now : ℕ) → AreTotals rows from to now (totals rows from to now)
totals_are rows from to now = λ tag. of_tags tag (all_tags rows) rows from to now ∙ by_case tag (list_any (same_bytes tag) (all_tags rows)) refl
  where
    by_case : (tag : List ℕ) (b : Bool) → list_any (same_bytes tag) (all_tags rows) ≡ b → cond b (unless_zero (tag_time tag rows from to now)) None ≡ unless_zero (tag_time tag rows from to now)
    by_case tag true e = refl
    by_case tag false e = sym (ap unless_zero (count_same (λ s. says_tag tag (at_now rows now s)) (λ s. false) from (to - from) (λ s low high. no_tag tag now s rows e) ∙ count_none from (to - from)))

-- and no other map is
pub are_totals : (rows : List Interval) (from to now : ℕ) (times : Times) → AreTotals rows from to now times → times ≡ totals rows from to now
are_totals rows from to now times are = same_maps times (totals rows from to now) (λ tag. are tag ∙ sym (totals_are rows from to now tag))
