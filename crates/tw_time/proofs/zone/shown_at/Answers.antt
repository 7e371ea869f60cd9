use Rattle.std.proofs.Common.{◌+ℤ◌, ◌∙◌}
use Rattle.jiff.specs.Words.{offset_at, nanos_of_seconds}
use Rattle.tw_time.proofs.ShownFacts.{Shows-nanos, date_shown, time_shown}
use Rattle.tw_time.proofs.DayFacts.{year_shown}
use Rattle.tw_time.proofs.zone.shown_at.Goals as goal

pub returns-clause-shows : goal.returns-clause-shows
returns-clause-shows c =
    let at = c.instant.ensures in
    let zone = c.zone.view_is in
    Shows-nanos _ _ _ (c.to_datetime.ensures ∙ (λ i. at i +ℤ nanos_of_seconds (offset_at (zone i) (at i))))

pub returns-clause-date : goal.returns-clause-date
returns-clause-date c =
    let at = c.instant.ensures in
    let zone = c.zone.view_is in
    date_shown _ _ _ (Shows-nanos _ _ _ (c.to_datetime.ensures ∙ (λ i. at i +ℤ nanos_of_seconds (offset_at (zone i) (at i)))))

pub returns-clause-time : goal.returns-clause-time
returns-clause-time c =
    let at = c.instant.ensures in
    let zone = c.zone.view_is in
    time_shown _ _ _ (Shows-nanos _ _ _ (c.to_datetime.ensures ∙ (λ i. at i +ℤ nanos_of_seconds (offset_at (zone i) (at i)))))

pub returns-clause-year : goal.returns-clause-year
returns-clause-year c =
    let at = c.instant.ensures in
    let zone = c.zone.view_is in
    year_shown _ _ _ (Shows-nanos _ _ _ (c.to_datetime.ensures ∙ (λ i. at i +ℤ nanos_of_seconds (offset_at (zone i) (at i)))))
