use Rattle.std.proofs.Common.{rules}
use Rattle.std.proofs.lemmas.List.Sorted.{IsNonDecreasingBy-from_sort_by_key}
use Rattle.timew_month.specs.Gathered.{rank}
use Rattle.timew_month.specs.declared.read.gathered.Seat.{Seat}
use Rattle.timew_month.proofs.StableSeats.{stable_seats, stable_from}
use Rattle.timew_month.proofs.read.gathered.sort.Goals as goal

pub returns : goal.returns
returns c =
    stable_seats c.args.seats.now.items _ c.requires
    (IsNonDecreasingBy-from_sort_by_key (λ (x : Seat). rank x.row) _ c.in_ok-sort_by_key.ensures.sorted (λ a r q k. search rules))
    (stable_from (λ (x : Seat). rank x.row) _ _ c.sort_by_key.ensures.stable (λ a r q k. search rules))
