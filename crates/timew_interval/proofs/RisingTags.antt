-- Tags in their order.
use Rattle.std.proofs.Common.{◌≡◌, ℕ, ◌<◌, true, false, List, [], length, get_or, refl, sym, ap, ◌∙◌}
use Rattle.std.specs.Str.{IsUtf8, is_utf8}
use Rattle.std.proofs.lemmas.Str.{IsUtf8-from_is_utf8, is_utf8-from_IsUtf8}
use Rattle.std.specs.Prelude.{slice_index_or}
use Rattle.std.specs.declared.cmp.Ordering.{Ordering}
use Rattle.std.proofs.lemmas.List.{get_or_read}
use Rattle.tw_world.specs.Folder.{bytes_cmp}

-- the comparison with the tag at an index
pub compared_at : (tags : List (List ℕ)) (i : ℕ) (s : List ℕ) (k : List ℕ) (o : Ordering) → i < length tags → s ≡ get_or tags i s → o ≡ bytes_cmp k s → bytes_cmp k (slice_index_or tags i []) ≡ o
compared_at tags i s k o lt is cmp = ap (bytes_cmp k) (sym (get_or_read tags i s lt is [])) ∙ sym cmp

pub utf8_is : (bytes : List ℕ) → IsUtf8 bytes → is_utf8 bytes ≡ true
utf8_is bytes is = is_utf8-from_IsUtf8 bytes is

pub utf8_is_not : (bytes : List ℕ) → (IsUtf8 bytes → ⊥) → is_utf8 bytes ≡ false
utf8_is_not bytes none = elim (is_utf8 bytes) as (λ b. is_utf8 bytes ≡ b → b ≡ false) [ true ↦ λ is. absurd (none (IsUtf8-from_is_utf8 bytes is)) | false ↦ λ is. refl ] refl
