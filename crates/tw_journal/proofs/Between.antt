-- Writes between two offsets, which leave the rest of a file.
use Rattle.std.proofs.Common.{◌≡◌, ℕ, ◌+◌, ◌-◌, ◌≤◌, List, ◌++◌, length, take, drop, refl, sym, ◌∙◌, ap, subst, arith, append_assoc, length-append}
use Rattle.std.proofs.lemmas.List.{drop_at, take-take, drop-drop, length-take-le}
use Rattle.tw_world.specs.Disk.{DiskModel, Tells, IsStable, Steps, LeavesOnly, Torn, overwritten}
use Rattle.tw_world.specs.Memory.{torn_whole}
use Rattle.tw_world.proofs.Moments.{CountsNow, OnlyNow, at_rest, goes_on, stays}
use Rattle.tw_world.proofs.Overwriting.{adjacent}
use Rattle.tw_journal.specs.Checkpoint.{IsSameBeside}

pub beside_itself : (from to : ℕ) (file : List ℕ) → IsSameBeside from to file file
beside_itself from to file = record { before = refl; after = refl; long = refl }

-- one write more between them
pub beside_on : (from to at : ℕ) (bytes file d c : List ℕ) → from ≤ at → at + length bytes ≤ to → IsSameBeside from to file d → Torn at bytes d c → IsSameBeside from to file c
beside_on from to at bytes file d c low high so_far torn =
    let n : to ≡ at + length bytes + (to - (at + length bytes)) = omega (arith, high) in
    let rest = to - (at + length bytes) in
    let further : (l : List ℕ) → drop rest (drop (at + length bytes) l) ≡ drop to l = λ l. drop-drop rest (at + length bytes) l ∙ ap (λ (k : ℕ). drop k l) (sym n) in
    record {
      before = sym (take-take from at c low) ∙ ap (λ (l : List ℕ). take from l) torn.before ∙ take-take from at d low ∙ so_far.before;
      after = sym (further c) ∙ ap (λ (l : List ℕ). drop rest l) torn.after ∙ further d ∙ so_far.after;
      long = torn.same_length ∙ so_far.long;
    }

-- what is written stands there, and the rest stays
pub overwritten_beside : (at : ℕ) (bytes s : List ℕ) → at + length bytes ≤ length s → IsSameBeside at (at + length bytes) s (overwritten at bytes s)
overwritten_beside at bytes s le = beside_on at (at + length bytes) at bytes s s (overwritten at bytes s) (omega arith) (omega arith) (beside_itself at (at + length bytes) s) (torn_whole at bytes s le)

pub written_there : (at : ℕ) (bytes s : List ℕ) → at + length bytes ≤ length s → drop at (overwritten at bytes s) ≡ bytes ++ drop (at + length bytes) s
written_there at bytes s le =
    ap (drop at) (append_assoc (take at s) bytes (drop (at + length bytes) s)) ∙ drop_at (take at s) (bytes ++ drop (at + length bytes) s) at (length-take-le at s (omega (arith, le)))

-- a run of writes between two offsets
pub first_write : {D : Type 0} (m : DiskModel D) → CountsNow m → OnlyNow m → (old new : D) (from to at : ℕ) (bytes : List ℕ) → Tells m old → IsStable m old → from ≤ at → at + length bytes ≤ to → Steps m (Torn at bytes) old new → LeavesOnly m old new (IsSameBeside from to (m.seen old))
first_write m counts_now only_now old new from to at bytes tells settled low high step =
    goes_on m counts_now old old new (λ c. c ≡ m.seen old) (IsSameBeside from to (m.seen old)) _ (at_rest m only_now old settled) tells step
    (λ c same. subst (IsSameBeside from to (m.seen old)) (sym same) (beside_itself from to (m.seen old)))
    (λ d c same torn. beside_on from to at bytes (m.seen old) d c low high (subst (IsSameBeside from to (m.seen old)) (sym same) (beside_itself from to (m.seen old))) torn)

pub next_write : {D : Type 0} (m : DiskModel D) → CountsNow m → (old mid new : D) (from to at : ℕ) (bytes : List ℕ) → LeavesOnly m old mid (IsSameBeside from to (m.seen old)) → Tells m mid → from ≤ at → at + length bytes ≤ to → Steps m (Torn at bytes) mid new → LeavesOnly m old new (IsSameBeside from to (m.seen old))
next_write m counts_now old mid new from to at bytes so_far tells low high step =
    goes_on m counts_now old mid new (IsSameBeside from to (m.seen old)) (IsSameBeside from to (m.seen old)) _ so_far tells step (λ c has. has) (λ d c has torn. beside_on from to at bytes (m.seen old) d c low high has torn)

pub three_parts : (at : ℕ) (head body tail s : List ℕ) → length head ≡ 5 → at + 5 + length body + length tail ≤ length s → overwritten (at + 5 + length body) tail (overwritten (at + 5) body (overwritten at head s)) ≡ overwritten at ((head ++ body) ++ tail) s
three_parts at head body tail s five room =
    let inner : overwritten (at + 5) body (overwritten at head s) ≡ overwritten at (head ++ body) s =
    ap (λ (k : ℕ). overwritten (at + k) body (overwritten at head s)) (sym five) ∙ adjacent at head body s (omega (arith, five, room)) in
    let n : at + 5 + length body ≡ at + length (head ++ body) = omega (arith, length-append head body, five) in
    ap (λ (l : List ℕ). overwritten (at + 5 + length body) tail l) inner
    ∙ ap (λ (k : ℕ). overwritten k tail (overwritten at (head ++ body) s)) n
    ∙ adjacent at (head ++ body) tail s (omega (arith, length-append head body, five, room))

-- the record and what comes after it are written by three calls, and then made stable
module _ {D : Type 0} (m : DiskModel D) (counts_now : CountsNow m) (only_now : OnlyNow m) (old : D) (at : ℕ) (head body tail : List ℕ) (tells : Tells m old) (settled : IsStable m old) (five : length head ≡ 5) where
  abbrev Beside : List ℕ → Type 0
  Beside = IsSameBeside at (at + length body + 5 + length tail) (m.seen old)

  pub head_run : (a : D) → Steps m (Torn at head) old a → LeavesOnly m old a Beside
  head_run a step = first_write m counts_now only_now old a at (at + length body + 5 + length tail) at head tells settled (omega arith) (omega (arith, five)) step

  pub body_run : (a b : D) → Steps m (Torn at head) old a → Steps m (Torn (at + 5) body) a b → LeavesOnly m old b Beside
  body_run a b first second = next_write m counts_now old a b at (at + length body + 5 + length tail) (at + 5) body (head_run a first) (first.tells ∙ tells) (omega arith) (omega arith) second

  pub tail_run : (a b d : D) → Steps m (Torn at head) old a → Steps m (Torn (at + 5) body) a b → Steps m (Torn (at + 5 + length body) tail) b d → LeavesOnly m old d Beside
  tail_run a b d first second third = next_write m counts_now old b d at (at + length body + 5 + length tail) (at + 5 + length body) tail (body_run a b first second) (second.tells ∙ first.tells ∙ tells) (omega arith) (omega arith) third

  pub stable_run : (a b d n : D) → Steps m (Torn at head) old a → Steps m (Torn (at + 5) body) a b → Steps m (Torn (at + 5 + length body) tail) b d → Steps m (λ x c. c ≡ x) d n → LeavesOnly m old n Beside
  stable_run a b d n first second third last = stays m counts_now old d n Beside (tail_run a b d first second third) (third.tells ∙ second.tells ∙ first.tells ∙ tells) last
