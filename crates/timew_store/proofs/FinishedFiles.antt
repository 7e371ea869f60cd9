-- What finishing a change makes of files of which some were replaced.
use Rattle.std.specs.Prelude.{unwrap_or, cond}
use Rattle.std.proofs.Common.{◌≡◌, ℕ, zero, suc, Bool, true, false, List, [], ◌∷◌, take, Some, refl, sym, ap, ◌∙◌}
use Rattle.std.specs.FinMap.{get, same_map}
use Rattle.std.specs.Cmp.Lexicographic.{nat_list_cmp_total}
use Rattle.tw_world.specs.Folder.{Files, same_bytes}
use Rattle.timew_month.specs.Body.{FileChange}
use Rattle.timew_month.specs.Files.{bytes_of, with_new, replaced}
use Rattle.timew_store.specs.Held.{finished_file, finished, HasOld, IsApart, AreApart}
use Rattle.timew_interval.proofs.SameBytes.{bytes_exact, same_bytes_exact, same_bytes_itself, same_bytes_back}
use Rattle.timew_month.proofs.ReplacedFiles.{get-new, get-new-here, get-new-apart}

either : {X : Type 0} (b : Bool) (x y : X) → (b ≡ true → x ≡ y) → cond b x y ≡ y
either true x y e = e refl
either false x y e = refl

-- to give a file the bytes that it has changes nothing
pub new_again : (files : Files) (f : FileChange) → get files f.name ≡ Some f.new → with_new files f ≡ files
new_again files f has = same_map nat_list_cmp_total bytes_exact _ _ (λ q.
    get-new files f q ∙ either (same_bytes q f.name) (Some f.new) (get files q) (λ t. sym has ∙ ap (get files) (sym (same_bytes_exact q f.name t))))

replaced-apart : (changes : List FileChange) (files : Files) (name : List ℕ) → IsApart name changes → get (replaced files changes) name ≡ get files name
replaced-apart [] files name apart = refl
replaced-apart (f ∷ changes) files name apart = replaced-apart changes (with_new files f) name apart.1 ∙ get-new-apart files f name (same_bytes_back name f.name ∙ apart.0)

pub apart_take : (j : ℕ) (changes : List FileChange) (name : List ℕ) → IsApart name changes → IsApart name (take j changes)
apart_take zero changes name apart = tt
apart_take (suc j) [] name apart = tt
apart_take (suc j) (f ∷ changes) name apart = (apart.0, apart_take j changes name apart.1)

old_too : (changes : List FileChange) (files : Files) (f : FileChange) → IsApart f.name changes → HasOld files changes → HasOld (with_new files f) changes
old_too [] files f apart old = tt
old_too (g ∷ changes) files f apart old = (ap (λ o. unwrap_or o []) (get-new-apart files f g.name apart.0) ∙ old.0, old_too changes files f apart.1 old.1)

-- finishing a file that has its old bytes, and one that has its new ones
one_old : (files : Files) (f : FileChange) → bytes_of files f.name ≡ f.old → finished_file files f ≡ with_new files f
one_old files f old = ap (λ b. cond b (with_new files f) files) (ap (λ b. same_bytes b f.old) old ∙ same_bytes_itself f.old)

pub one_new : (files : Files) (f : FileChange) → get files f.name ≡ Some f.new → finished_file files f ≡ files
one_new files f has = either (same_bytes (bytes_of files f.name) f.old) (with_new files f) files (λ t. new_again files f has)

-- however many of the files were replaced, finishing replaces the rest
pub finished_partly : (changes : List FileChange) (files : Files) (j : ℕ) → AreApart changes → HasOld files changes → finished (replaced files (take j changes)) changes ≡ replaced files changes
finished_partly [] files zero apart old = refl
finished_partly [] files (suc j) apart old = refl
finished_partly (f ∷ changes) files zero apart old =
    ap (λ (s : Files). finished s changes) (one_old files f old.0) ∙ finished_partly changes (with_new files f) zero apart.1 (old_too changes files f apart.0 old.1)
finished_partly (f ∷ changes) files (suc j) apart old =
    let now = replaced (with_new files f) (take j changes) in
    let has : get now f.name ≡ Some f.new = replaced-apart (take j changes) (with_new files f) f.name (apart_take j changes f.name apart.0) ∙ get-new-here files f in
    ap (λ (s : Files). finished s changes) (one_new now f has) ∙ finished_partly changes (with_new files f) j apart.1 (old_too changes files f apart.0 old.1)
