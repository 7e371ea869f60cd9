-- What a script wrote.
use Rattle.std.proofs.Common.{◌≡◌, ◌⊎◌, inl, inr, ℕ, ◌+◌, ◌≤◌, List, ◌++◌, Option, Some, None, Result, Ok, Err, IfErr, length, ap, ◌∙◌, arith, length-append}
use Rattle.std.specs.Prelude.{OnErr}
use Rattle.std.specs.Option.{ForSome}
use Rattle.std.specs.Io.KnownBytes.{Consumes}
use Rattle.std.specs.declared.io.Error.{Error}
use Rattle.tw_files.specs.FolderFiles.{FailsAlone}
use Rattle.tw_files.specs.ProcessSpawner.{Known, IsEndless, BringsNoStatus, IsUnread}

-- as many bytes as were read were there
pub at_least : (old new : Option (List ℕ)) (bytes : List ℕ) (n : ℕ) → Consumes old new bytes → n ≤ length bytes → ForSome old (λ all. n ≤ length all)
at_least None new bytes n read le = λ all is. absurd (cc)
at_least (Some all) None bytes n read le = absurd read
at_least (Some all) (Some rest) bytes n read le = λ x is.
    let same : x ≡ all = cc in
    let long : length x ≡ length bytes + length rest = ap length (same ∙ read) ∙ length-append bytes rest in
    omega (arith, long, le)

-- an output that is kept, and then read on, is not read for one of these causes
pub unread : {T P : Type 0} (r : Result T Error) (has_failed : P → Type 0) (remaining : Known P) (script new : P) → OnErr r (has_failed new ⊎ IsEndless (remaining script))
    → IfErr r (FailsAlone (IsUnread has_failed remaining new))
unread (Ok v) has_failed remaining script new why = tt
unread (Err e) has_failed remaining script new (inl failed) = inr (inl failed)
unread (Err e) has_failed remaining script new (inr endless) = inr (inr (script, endless))

-- a script that was not read, and is given up if it has failed, brings no status
pub given_up : {P : Type 0} (start_fails : Type 0) (has_failed is_given_up : P → Type 0) (remaining : Known P) (read over : P) (e : Error) → (has_failed read → is_given_up over)
    → FailsAlone (IsUnread has_failed remaining read) e → FailsAlone (start_fails ⊎ BringsNoStatus is_given_up remaining) e
given_up start_fails has_failed is_given_up remaining read over e stopped (inl memory) = inl memory
given_up start_fails has_failed is_given_up remaining read over e stopped (inr (inl failed)) = inr (inr (over, inl (stopped failed)))
given_up start_fails has_failed is_given_up remaining read over e stopped (inr (inr endless)) = inr (inr (endless.0, inr endless.1))
