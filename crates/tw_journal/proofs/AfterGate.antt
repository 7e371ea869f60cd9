-- What is written after a closed gate.
use Rattle.std.proofs.Common.{◌≡◌, ℕ, ◌+◌, ◌≤◌, List, ◌++◌, length, take, sym, ◌∙◌, ap, arith}
use Rattle.std.proofs.lemmas.List.{take-take}
use Rattle.tw_world.specs.Disk.{DiskModel, Tells, IsStable, Steps, LeavesOnly, Torn, overwritten}
use Rattle.tw_world.proofs.Moments.{CountsNow, OnlyNow, at_rest, goes_on}
use Rattle.tw_world.proofs.Overwriting.{adjacent}
use Rattle.tw_journal.specs.Append.{IsSameFront}

pub behind_second : (at : ℕ) (body d c : List ℕ) → Torn (at + 5) body d c → take (at + 1) c ≡ take (at + 1) d
behind_second at body d c torn =
    sym (take-take (at + 1) (at + 5) c (omega arith)) ∙ ap (λ (l : List ℕ). take (at + 1) l) torn.before ∙ take-take (at + 1) (at + 5) d (omega arith)

-- the length and then the body are one part
pub one_part : (at : ℕ) (a b s : List ℕ) → length a ≡ 4 → at + 5 + length b ≤ length s → overwritten (at + 5) b (overwritten (at + 1) a s) ≡ overwritten (at + 1) (a ++ b) s
one_part at a b s four room =
    let next : at + 5 ≡ at + 1 + length a = omega (arith, four) in
    ap (λ (k : ℕ). overwritten k b (overwritten (at + 1) a s)) next ∙ adjacent (at + 1) a b s (omega (arith, four, room))

-- the closed gate and what is before it stay, whatever a crash leaves of the two writes
pub both_writes : {D : Type 0} (m : DiskModel D) → CountsNow m → OnlyNow m → (old mid new : D) (at : ℕ) (size body : List ℕ) → Tells m old → IsStable m old → Steps m (Torn (at + 1) size) old mid → Steps m (Torn (at + 5) body) mid new
    → LeavesOnly m old new (IsSameFront (at + 1) (m.seen old))
both_writes {D} m counts_now only_now old mid new at size body tells settled first second =
    let P : List ℕ → Type 0 = IsSameFront (at + 1) (m.seen old) in
    let one = goes_on m counts_now old old mid (λ c. c ≡ m.seen old) P _ (at_rest m only_now old settled) tells first
    (λ c same. record { front = ap (λ (l : List ℕ). take (at + 1) l) same; long = ap length same })
    (λ d c same torn. record { front = torn.before ∙ ap (λ (l : List ℕ). take (at + 1) l) same; long = torn.same_length ∙ ap length same }) in
    goes_on m counts_now old mid new P P _ one (first.tells ∙ tells) second (λ c has. has)
    (λ d c has torn. record { front = behind_second at body d c torn ∙ has.front; long = torn.same_length ∙ has.long })
