-- Tags: task(1), under "tags" and "virtual tags".
use Rattle.std.specs.Prelude.{ℕ, ◌==◌, ◌&&◌, ◌||◌, nat_le, Bool, true, false, nat_eq, cond, drop, List, [], ◌∷◌, ◌++◌, Option, Some, None, is_some, codes}
use Rattle.std.specs.Char.{is_ascii_digit}
use Rattle.std.specs.Int.{is_in_range}
use Rattle.std.specs.List.{list_all, starts_with}
use Rattle.tw_time.specs.Tables.{look_up}
use Rattle.tw_urgency.specs.declared.status.Status.TheVariants.{Pending, Waiting, Completed, Deleted}
use Rattle.tw_terms.specs.declared.tag.VirtualTag.{VirtualTag}
use Rattle.tw_terms.specs.declared.tag.VirtualTag.TheVariants as virtual
use Rattle.tw_terms.specs.declared.term.Test.{Test}
use Rattle.tw_terms.specs.declared.term.Test.TheVariants.{Has, HasStatus, IsActive, IsOverdue, IsBlocked, IsBlocking, IsTagged, IsAnnotated}

-- a byte of an ASCII letter, of `_`, `@`, `#`, `$` or of a character past ASCII
abbrev pub is_tag_start : ℕ → Bool
is_tag_start b = is_in_range 65 90 b || is_in_range 97 122 b || (b == 95) || (b == 64) || (b == 35) || (b == 36) || nat_le 128 b

-- such a byte, a digit, `-` or `.`
abbrev pub is_tag_byte : ℕ → Bool
is_tag_byte b = is_tag_start b || is_ascii_digit b || (b == 45) || (b == 46)

-- whether a text may be a tag
abbrev pub is_tag_text : List ℕ → Bool
is_tag_text [] = false
is_tag_text (b ∷ bs) = is_tag_start b && list_all is_tag_byte bs

-- the virtual tags, by their names
abbrev pub virtual_tags : List (List ℕ × VirtualTag)
virtual_tags =
    (codes "PENDING", virtual.Status Pending)
    ∷ (codes "WAITING", virtual.Status Waiting)
    ∷ (codes "COMPLETED", virtual.Status Completed)
    ∷ (codes "DELETED", virtual.Status Deleted)
    ∷ (codes "ACTIVE", virtual.Active)
    ∷ (codes "OVERDUE", virtual.Overdue)
    ∷ (codes "BLOCKED", virtual.Blocked)
    ∷ (codes "BLOCKING", virtual.Blocking)
    ∷ (codes "TAGGED", virtual.Tagged)
    ∷ (codes "ANNOTATED", virtual.Annotated)
    ∷ []

unfoldable pub virtual_tag : List ℕ → Option VirtualTag
virtual_tag tag = look_up tag virtual_tags

-- whether a tag is a virtual one
abbrev pub is_virtual : List ℕ → Bool
is_virtual tag = is_some (virtual_tag tag)

-- the test that a virtual tag stands for
abbrev pub virtual_test : VirtualTag → Test
virtual_test (virtual.Status s) = HasStatus s
virtual_test virtual.Active = IsActive
virtual_test virtual.Overdue = IsOverdue
virtual_test virtual.Blocked = IsBlocked
virtual_test virtual.Blocking = IsBlocking
virtual_test virtual.Tagged = IsTagged
virtual_test virtual.Annotated = IsAnnotated

abbrev pub virtual_or_own : List ℕ → Option VirtualTag → Test
virtual_or_own tag None = Has (codes "tag_" ++ tag)
virtual_or_own tag (Some v) = virtual_test v

-- the test of a tag: a virtual one, or a property of its own
abbrev pub tag_test : List ℕ → Test
tag_test tag = virtual_or_own tag (virtual_tag tag)

-- a tag, where the text may be one
abbrev pub signed_tag : Bool → List ℕ → Option (Bool × List ℕ)
signed_tag wanted tag = cond (is_tag_text tag) (Some (wanted, tag)) None

-- the tag of a word `+tag` or `-tag`, and whether it is wanted
unfoldable pub tag_in : List ℕ → Option (Bool × List ℕ)
tag_in word =
    cond (starts_with nat_eq word (codes "+")) (signed_tag true (drop 1 word))
    (cond (starts_with nat_eq word (codes "-")) (signed_tag false (drop 1 word)) None)
