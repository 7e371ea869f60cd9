-- What a file of a name has after another one is replaced.
use Rattle.std.specs.Prelude.{cond}
use Rattle.std.proofs.Common.{◌≡◌, ℕ, false, List, Some, sym, ap, ◌∙◌}
use Rattle.std.specs.FinMap.{get, insert, get-insert}
use Rattle.std.specs.Cmp.Lexicographic.{nat_list_cmp_total, texts_ties}
use Rattle.tw_world.specs.Folder.{Files, same_bytes}
use Rattle.timew_month.specs.Body.{FileChange}
use Rattle.timew_month.specs.Files.{with_new}
use Rattle.timew_interval.proofs.SameBytes.{same_bytes_itself}

pub get-put : (files : Files) (name bytes q : List ℕ) → get (insert files name bytes) q ≡ cond (same_bytes q name) (Some bytes) (get files q)
get-put files name bytes q = get-insert nat_list_cmp_total files name bytes q ∙ ap (λ b. cond b (Some bytes) (get files q)) (sym (texts_ties q name))

pub get-new : (files : Files) (f : FileChange) (q : List ℕ) → get (with_new files f) q ≡ cond (same_bytes q f.name) (Some f.new) (get files q)
get-new files f q = get-put files f.name f.new q

pub get-new-here : (files : Files) (f : FileChange) → get (with_new files f) f.name ≡ Some f.new
get-new-here files f = get-new files f f.name ∙ ap (λ b. cond b (Some f.new) (get files f.name)) (same_bytes_itself f.name)

pub get-new-apart : (files : Files) (f : FileChange) (q : List ℕ) → same_bytes q f.name ≡ false → get (with_new files f) q ≡ get files q
get-new-apart files f q apart = get-new files f q ∙ ap (λ b. cond b (Some f.new) (get files q)) apart
