-- Texts with the same bytes.
use Rattle.std.proofs.Common.{◌≡◌, ℕ, true, List, refl, sym, ◌∙◌}
use Rattle.std.specs.FinMap.{IsAntisymmetric, slice_cmp-IsAntisymmetric, nat_cmp-IsAntisymmetric}
use Rattle.std.specs.Cmp.Lexicographic.{texts_ties}
use Rattle.std.proofs.lemmas.Cmp.{nat_list_eq_equiv}
use Rattle.std.specs.Ordering.{is_eq}
use Rattle.std.specs.declared.cmp.Ordering.{Ordering}
use Rattle.std.specs.declared.cmp.Ordering.TheVariants.{Less, Equal, Greater}
use Rattle.tw_world.specs.Folder.{bytes_cmp, same_bytes}

pub bytes_exact : IsAntisymmetric bytes_cmp
bytes_exact = slice_cmp-IsAntisymmetric nat_cmp-IsAntisymmetric

pub tied : (r : Ordering) → is_eq r ≡ true → r ≡ Equal
tied Less e = cc
tied Equal e = refl
tied Greater e = cc

pub same_bytes_exact : (a b : List ℕ) → same_bytes a b ≡ true → a ≡ b
same_bytes_exact a b e = bytes_exact a b (tied (bytes_cmp a b) (sym (texts_ties a b) ∙ e))

pub same_bytes_itself : (k : List ℕ) → same_bytes k k ≡ true
same_bytes_itself k = nat_list_eq_equiv.refl k

pub same_bytes_back : (a b : List ℕ) → same_bytes a b ≡ same_bytes b a
same_bytes_back a b = nat_list_eq_equiv.symm a b
