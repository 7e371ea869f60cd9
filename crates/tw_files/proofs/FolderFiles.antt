-- Why a file is not read, and what a replacement leaves.
use Rattle.std.proofs.Common.{◌≡◌, ◌≢◌, ◌⊎◌, ℕ, ◌+◌, ◌-◌, ◌<◌, List, ◌∷◌, None, Some, length, take, drop, replicate, refl, sym, ◌∙◌, subst, arith, length-drop, inl, inr, codes, Option, Result, Ok, Err, IfErr, IsErrAnd}
use Rattle.std.proofs.lemmas.List.{append_cancel_left, length-replicate, length-take}
use Rattle.std.specs.Option.{ForSome}
use Rattle.std.specs.IoError.{error_kind}
use Rattle.std.specs.declared.io.Error.{Error}
use Rattle.std.specs.declared.io.ErrorKind.TheVariants.{OutOfMemory}
use Rattle.tw_files.specs.OffsetFile.{HasLength, EndsBy, IsShorter}
use Rattle.tw_files.specs.FolderFiles.{Holding, IsUnder, IsTooLong, FailsAlone, OthersStay, HasEither, ReplacesOne, path_in}

-- an error that is passed on
pub passed_on : {T E : Type 0} (r : Result T E) (e : E) (P : E → Type 0) → IsErrAnd r (λ x. x ≡ e) → P e → IfErr r P
passed_on (Ok v) e P is has = tt
passed_on (Err x) e P is has = subst P (sym is) has

-- want of memory is passed on
pub out_of_memory : {T : Type 0} (r : Result T Error) (may_fail Why : Type 0) → IsErrAnd r (λ e. error_kind e ≡ OutOfMemory) → IfErr r (λ e. FailsAlone may_fail e ⊎ Why)
out_of_memory (Ok v) may_fail Why is = tt
out_of_memory (Err x) may_fail Why is = inl (inl is)

-- a failure that is none of memory, in a system that stays
pub not_memory : {S : Type 0} (may_fail : Type 0) (Why : S → Type 0) (e : Error) (s t : S) → t ≡ s → FailsAlone may_fail e ⊎ Why s → error_kind e ≢ OutOfMemory → may_fail ⊎ Why t
not_memory may_fail Why e s t same (inl (inl memory)) other = absurd (other memory)
not_memory may_fail Why e s t same (inl (inr fails)) other = inl fails
not_memory may_fail Why e s t same (inr why) other = inr (subst Why (sym same) why)

both : {A B C D : Type 0} → (A → C) → (B → D) → A ⊎ B → C ⊎ D
both f g (inl a) = inl (f a)
both f g (inr b) = inr (g b)

-- what is left of a buffer has room
pub room_left : (done : ℕ) (out : List ℕ) → done < length out → 0 < length (take (length out - done) (drop done out))
room_left done out lt = omega (arith, lt, length-take (length out - done) (drop done out), length-drop done out)

-- a file that has no byte from inside a range on is shorter than the range
pub ends_inside : (held : Option (List ℕ)) (from to : ℕ) → from < to → EndsBy held from → IsShorter held to
ends_inside held from to lt ends = λ all is. omega (arith, ends all is, lt)

-- a file is not shorter than it is
pub not_shorter : (Memory may_fail : Type 0) (held : Option (List ℕ)) (len to : ℕ) (P : List ℕ → Type 0) → to ≡ len → HasLength held len → may_fail ⊎ IsShorter held to → (Memory ⊎ may_fail) ⊎ ForSome held P
not_shorter Memory may_fail held len to P same has (inl fails) = inl (inr fails)
not_shorter Memory may_fail held len to P same has (inr short) = inr (λ all is. absurd (omega (arith, has all is, short all is, same)))

-- there are as many bytes
longer : (n : ℕ) → (bytes : List ℕ) × (n < length bytes)
longer n = (replicate (n + 1) 0, omega (arith, length-replicate {A = ℕ} (n + 1) 0))

-- an open file that is longer than the limit
pub too_long : (held : Option (List ℕ)) (has : Option (List ℕ) → Type 0) → IsUnder held has → ForSome held (λ all. 67_108_864 < length all) → IsTooLong has
too_long None has under long =
    let many = longer 67_108_864 in
    (many.0, under many.0 (λ x is. absurd (cc)), many.1)
too_long (Some all) has under long = (all, under all (λ x is. let same : x ≡ all = cc in same), long all refl)

-- why a file of a path is not read
pub unread : (may_fail : Type 0) (e : Error) (held : Option (List ℕ)) (has : List ℕ → Option (List ℕ) → Type 0) (found path : List ℕ) → found ≡ path → IsUnder held (has found)
    → FailsAlone may_fail e ⊎ ForSome held (λ all. 67_108_864 < length all) → FailsAlone may_fail e ⊎ IsTooLong (has path)
unread may_fail e held has found path same under (inl fails) = inl fails
unread may_fail e held has found path same under (inr long) = inr (subst (λ p. IsTooLong (has p)) same (too_long held (has found) under long))

-- files of two names in a folder have two paths
apart : (folder name other : List ℕ) → name ≢ other → path_in folder name ≢ path_in folder other
apart folder name other differ same =
    let tails : 47 ∷ name ≡ 47 ∷ other = append_cancel_left folder (47 ∷ name) (47 ∷ other) same in
    let names : name ≡ other = cc in
    differ names

pub untouched : {S : Type 0} (has : Holding S) (folder name bytes : List ℕ) (s : S) → ReplacesOne has folder name bytes s s
untouched has folder name bytes s = record { either = λ differ before h. inl h; others = λ path b n m h. h }

-- the file `.new` alone was touched
pub made_new : {S : Type 0} (has : Holding S) (folder name bytes from : List ℕ) (s t : S) → from ≡ path_in folder (codes ".new") → OthersStay has from from s t → ReplacesOne has folder name bytes s t
made_new has folder name bytes from s t is stay =
    let other : (path : List ℕ) → path ≢ path_in folder (codes ".new") → path ≢ from = λ path n same. n (same ∙ is) in
    record {
      either = λ differ before h.
          let apart_now = other (path_in folder name) (apart folder name (codes ".new") differ) in
          inl (stay (path_in folder name) before apart_now apart_now h);
      others = λ path b n m h. stay path b (other path n) (other path n) h;
    }

-- and then it was renamed
pub then_renamed : {S : Type 0} (has : Holding S) (folder name bytes from to : List ℕ) (s t u : S) → from ≡ path_in folder (codes ".new") → to ≡ path_in folder name
    → OthersStay has from from s t → OthersStay has from to t u → HasEither has to bytes t u → ReplacesOne has folder name bytes s u
then_renamed has folder name bytes from to s t u is_from is_to stay second put =
    let other : (path : List ℕ) → path ≢ path_in folder (codes ".new") → path ≢ from = λ path n same. n (same ∙ is_from) in
    record {
      either = λ differ before h.
          let apart_now = other (path_in folder name) (apart folder name (codes ".new") differ) in
          let there : has t to before = subst (λ p. has t p before) (sym is_to) (stay (path_in folder name) before apart_now apart_now h) in
          subst (λ p. has u p before ⊎ has u p (Some bytes)) is_to (put before there);
      others = λ path b n m h. second path b (other path n) (λ same. m (same ∙ is_to)) (stay path b (other path n) (other path n) h);
    }

-- and then the files stayed
pub then_kept : {S : Type 0} (has : Holding S) (folder name bytes : List ℕ) (s t u : S) → ReplacesOne has folder name bytes s t
    → ((path : List ℕ) (b : Option (List ℕ)) → has t path b → has u path b) → ReplacesOne has folder name bytes s u
then_kept has folder name bytes s t u done kept = record {
  either = λ differ before h. both (kept _ _) (kept _ _) (done.either differ before h);
  others = λ path b n m h. kept path b (done.others path b n m h);
}

-- a file that a renaming may have put has the bytes of the open file
pub put_or_not : {S : Type 0} (has : Holding S) (to bytes : List ℕ) (t u : S) (put : Type 0)
    → ((b : Option (List ℕ)) → has t to b → has u to b ⊎ put) → (put → has u to (Some bytes)) → HasEither has to bytes t u
put_or_not has to bytes t u put renamed is = λ before h. both (λ x. x) is (renamed before h)
