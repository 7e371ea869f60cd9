-- Edits that go to the end.
use Rattle.std.proofs.Common.{◌≡◌, ℕ, ◌+◌, ◌<◌, List, ◌++◌, take, length, sym, ap, subst, ◌∙◌, append-nil, arith}
use Rattle.std.proofs.lemmas.List.{drop_all}
use Rattle.tw_model.specs.Ops.{TasksValue}
use Rattle.timew_interval.specs.declared.interval.Interval.{Interval}
use Rattle.timew_interval.specs.Edit.{spliced}
use Rattle.timew_interval.specs.Interval.{limit, AreRows}
use Rattle.timew_bridge.specs.Track.{tracked}
use Rattle.timew_bridge.proofs.Order.{tracked_rows}

pub to_the_end : (at count : ℕ) (new rows : List Interval) → at + count ≡ length rows → spliced at count new rows ≡ take at rows ++ new
to_the_end at count new rows whole = ap (λ l. take at rows ++ (new ++ l)) (drop_all (at + count) rows (omega (arith, whole))) ∙ ap (λ l. take at rows ++ l) (append-nil new)

-- what was driven is in order
pub driven_order : (tasks : TasksValue) (now at count : ℕ) (old new front rows : List Interval) → now < limit → at + count ≡ length rows → front ≡ take at rows → front ++ new ≡ tracked tasks (front ++ old) now
    → AreRows (spliced at count old rows) → AreRows (spliced at count new rows)
driven_order tasks now at count old new front rows soon whole front_is driven are =
    subst AreRows (sym (to_the_end at count new rows whole ∙ ap (λ l. l ++ new) (sym front_is) ∙ driven))
    (tracked_rows tasks (front ++ old) now soon (subst AreRows (to_the_end at count old rows whole ∙ ap (λ l. l ++ old) (sym front_is)) are))
