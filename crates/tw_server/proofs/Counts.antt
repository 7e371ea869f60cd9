-- The numbers that a server knows are of records that its journal has.
use Rattle.std.proofs.Common.{◌≡◌, ◌∙◌, ◌<◌, ◌≤◌, ◌+◌, ℕ, Bool, true, false, cond, Some, Result, Ok, Err, OnOk, IfErr, List, [], ◌∷◌, ◌++◌, sym, ap, subst, arith}
use Rattle.std.specs.Prelude.{All}
use Rattle.std.specs.Ordering.{is_eq}
use Rattle.std.proofs.lemmas.Bool.{true≢false}
use Rattle.std.proofs.lemmas.List.Elements.{All-push, All-weaker}
use Rattle.tw_world.specs.Disk.{DiskModel}
use Rattle.tw_journal.specs.Journal.{Accepted, AppendRefused}
use Rattle.tw_journal.specs.declared.journal.Journal.{Journal}
use Rattle.tw_journal.specs.declared.error.AppendError.{AppendError}
use Rattle.tw_journal.specs.declared.error.AppendError.TheVariants as appends
use Rattle.tw_server.specs.Versions.{image_at, uuid_cmp}
use Rattle.tw_server.specs.declared.images.Images.{Images}
use Rattle.tw_server.specs.declared.images.Placed.{Placed}

abbrev pub AreCounted : List ℕ → ℕ → Type 0
AreCounted numbers count = All (λ n. n < count) numbers

abbrev pub ArePlaced : Images → ℕ → Type 0
ArePlaced images count = (client : List ℕ) (p : Placed) → image_at images client ≡ Some p → p.number < count

pub numbers_moved : (xs ys : List ℕ) (k l : ℕ) → ys ≡ xs → k ≤ l → AreCounted xs k → AreCounted ys l
numbers_moved xs ys k l same most all = subst (λ ns. AreCounted ns l) (sym same) (All-weaker (λ n. n < k) (λ n. n < l) (λ n lt. omega (arith, lt, most)) xs all)

pub numbers_more : (xs ys : List ℕ) (n k l : ℕ) → ys ≡ xs ++ n ∷ [] → k ≤ l → n < l → AreCounted xs k → AreCounted ys l
numbers_more xs ys n k l same most inside all = subst (λ ns. AreCounted ns l) (sym same) (All-push (λ m. m < l) xs n (numbers_moved xs xs k l (λ i. xs) most all) inside)

pub placed_moved : (a b : Images) (k l : ℕ) → ((q : List ℕ) → image_at b q ≡ image_at a q) → k ≤ l → ArePlaced a k → ArePlaced b l
placed_moved a b k l same most all client p stored = let lt = all client p (sym (same client) ∙ stored) in omega (arith, lt, most)

some_same : (p q : Placed) → Some p ≡ Some q → p.number ≡ q.number
some_same p q e = cc

pub placed_more : (a b : Images) (client version : List ℕ) (n k l : ℕ) → ((q : List ℕ) → image_at b q ≡ cond (is_eq (uuid_cmp client q)) (Some (record { version = version; number = n })) (image_at a q)) → n < l → k ≤ l → ArePlaced a k → ArePlaced b l
placed_more a b client version n k l is inside most all q p stored = by (is_eq (uuid_cmp client q)) (sym (is q) ∙ stored)
  where
    by : (t : Bool) → cond t (Some (record { version = version; number = n })) (image_at a q) ≡ Some p → p.number < l
    by true e = let same = some_same (record { version = version; number = n }) p e in omega (arith, same, inside)
    by false e = let lt = all q p e in omega (arith, lt, most)

-- an append that is refused, on a journal that is open still, leaves the count
pub refused_count : {D : Type 0} (m : DiskModel D) (old new : Journal) (before after : D) (size : ℕ) (e : AppendError) → AppendRefused m old new before after size e → old.closed ≡ false → new.closed ≡ false → new.count ≡ old.count
refused_count m old new before after size appends.Disk refused was open_now = absurd (true≢false (sym refused.1 ∙ open_now))
refused_count m old new before after size appends.Closed refused was open_now = absurd (true≢false (sym refused.0 ∙ was))
refused_count m old new before after size (appends.TooLong bytes) refused was open_now = ap (λ (j : Journal). j.count) refused.3

-- an append leaves the records that there were, if the journal is still open
pub append_count : {D : Type 0} (m : DiskModel D) (old new : Journal) (before after : D) (size : ℕ) (r : Result (Unit {0}) AppendError) → OnOk r (Accepted old new size (old.count + 1)) → IfErr r (λ e. AppendRefused m old new before after size e)
    → old.closed ≡ false → new.closed ≡ false → old.count ≤ new.count
append_count m old new before after size (Ok u) accepted refused was open_now = let more = accepted.3 in omega (arith, more)
append_count m old new before after size (Err e) accepted refused was open_now = let same = refused_count m old new before after size e refused was open_now in omega (arith, same)
