-- A file whose record apart counts, and what it becomes as its upgrade goes on to its end.
use Rattle.std.specs.Prelude.{cond, nat_eq, if◌then◌else◌, Bool, true, false, Some, None}
use Rattle.std.specs.Int.{to_be_bytes, from_be_bytes, w64}
use lib.Pointwise.{pointwise}
use Rattle.std.proofs.Common.{◌≡◌, inl, inr, ℕ, zero, suc, ◌+◌, ◌-◌, ◌<◌, ◌≤◌, ◌^◌, List, [], ◌∷◌, ◌++◌, length, get_or, take, drop, refl, sym, ◌∙◌, ap, subst, arith, append_assoc}
use Rattle.std.proofs.lemmas.List.{take_at, drop-drop, get_or-drop}
use Rattle.std.proofs.lemmas.Nat.{from_be_bytes-to_be_bytes_8}
use Rattle.tw_world.specs.Disk.{overwritten}
use Rattle.tw_journal.specs.Record.{behind_gate, rows, IsTail}
use Rattle.tw_journal.specs.Form.{Records, version_of, version_in, selector_in, slot_in, last_in, is_alone, if_alone, has_magic, if_inside, start_by, start_in, ended_selector}
use Rattle.tw_journal.specs.Checkpoint.{IsSameBeside}
use Rattle.tw_journal.specs.Upgrade.{slotted, with_version, ended, ended_form, IsEnding, HasRow, HasAtMost}
use Rattle.tw_journal.specs.declared.form.Form.{Form}
use Rattle.tw_journal.proofs.Forms.{tested, first_of_front, same_part, inside_again, alone_there, alone_again, alone_long, magic_same, magic_parts, magic_of_parts, version_text}
use Rattle.tw_journal.proofs.Created.{own_version}
use Rattle.tw_journal.proofs.Between.{overwritten_beside, written_there}
use Rattle.tw_journal.proofs.Slots.{drop_more_first}

-- files that have the same bytes from an offset on have them from any later one on
pub further : (c file : List ℕ) (from k : ℕ) → drop from c ≡ drop from file → from ≤ k → drop k c ≡ drop k file
further c file from k rest far =
    let n : k ≡ from + (k - from) = omega (arith, far) in
    ap (λ (i : ℕ). drop i c) n ∙ sym (drop-drop (k - from) from c) ∙ ap (drop (k - from)) rest ∙ drop-drop (k - from) from file ∙ ap (λ (i : ℕ). drop i file) (sym n)

-- another first byte, and the same bytes after it
pub marked_rest : (first k : ℕ) (file : List ℕ) → 1 ≤ k → drop k (overwritten 0 (first ∷ []) file) ≡ drop k file
marked_rest first zero file some = absurd (omega (arith, some))
marked_rest first (suc k) file some = drop_more_first k file

pub marked_long : (first : ℕ) (file : List ℕ) → 1 ≤ length file → length (overwritten 0 (first ∷ []) file) ≡ length file
marked_long first [] some = absurd (omega (arith, some))
marked_long first (x ∷ file) some = refl

-- ---- the version is written

pub version_beside : (version : ℕ) (file : List ℕ) → 13 ≤ length file → IsSameBeside 12 13 file (with_version version file)
version_beside version file long = overwritten_beside 12 (version ∷ []) file (omega (arith, long))

pub version_there : (version : ℕ) (file : List ℕ) → 13 ≤ length file → version_in (with_version version file) ≡ version
version_there version file long =
    sym (get_or-drop 12 (with_version version file) 0 0) ∙ ap (λ (l : List ℕ). get_or l 0 0) (written_there 12 (version ∷ []) file (omega (arith, long)))

pub first_there : (version : ℕ) (file : List ℕ) → 13 ≤ length file → selector_in (with_version version file) ≡ selector_in file
first_there version file long =
    sym (first_of_front 12 (with_version version file) (omega arith)) ∙ ap selector_in (version_beside version file long).before ∙ first_of_front 12 file (omega arith)

pub magic_there : (magic file : List ℕ) (version : ℕ) → has_magic magic file ≡ true → version ≡ version_of magic → has_magic magic (with_version version file) ≡ true
magic_there magic file version has own =
    let parts = magic_parts magic file has in
    let beside = version_beside version file parts.0 in
    let eleven : take 11 (drop 1 (with_version version file)) ≡ take 11 (drop 1 file) = same_part 11 1 12 (with_version version file) file (omega arith) beside.before in
    magic_of_parts magic (with_version version file) (omega (arith, beside.long, parts.0)) (ap (λ (l : List ℕ). pointwise nat_eq l (take 11 (behind_gate magic))) eleven ∙ parts.1)
    (own_version magic (version_in (with_version version file)) (version_there version file parts.0 ∙ own))

-- the form of a file whose upgrade is ended, by whether it was cut off
abbrev ended_by : Bool → ℕ → Form → Form
ended_by b version form = record { selector = if b then 2 else form.selector; start = form.start; version = if b then version else form.version }

pub other_form : (version : ℕ) (form : Form) → nat_eq form.selector 4 ≡ false → form ≡ ended_form version form
other_form version form e = ap (λ (b : Bool). ended_by b version form) (sym e)

pub apart_form : (version : ℕ) (form : Form) → nat_eq form.selector 4 ≡ true → record { selector = 2; start = form.start; version = version } ≡ ended_form version form
apart_form version form e = ap (λ (b : Bool). ended_by b version form) (sym e)

ended_below : (n : ℕ) → n < 5 → ended_selector n < 4
ended_below zero less = omega arith
ended_below (suc zero) less = omega arith
ended_below (suc (suc zero)) less = omega arith
ended_below (suc (suc (suc zero))) less = omega arith
ended_below (suc (suc (suc (suc zero)))) less = omega arith
ended_below (suc (suc (suc (suc (suc n))))) less = absurd (omega (arith, less))

ended_least : (n : ℕ) → 2 ≤ ended_selector n → 2 ≤ n
ended_least zero two = absurd (omega (arith, two))
ended_least (suc zero) two = absurd (omega (arith, two))
ended_least (suc (suc n)) two = omega arith

-- it is not that of an upgrade, and its records begin behind the slots if it has some
pub ended_low : (version : ℕ) (form now : Form) → now ≡ ended_form version form → form.selector < 5 → now.selector < 4
ended_low version form now same less = subst (λ (f : Form). f.selector < 4) (sym same) (ended_below form.selector less)

pub ended_behind : (version : ℕ) (form now : Form) → now ≡ ended_form version form → (2 ≤ form.selector → 29 ≤ form.start) → 2 ≤ now.selector → 29 ≤ now.start
ended_behind version form now same areas two =
    let start : now.start ≡ form.start = ap (λ (f : Form). f.start) same in
    let selector : now.selector ≡ ended_selector form.selector = ap (λ (f : Form). f.selector) same in
    let low : 29 ≤ form.start = areas (ended_least form.selector (omega (arith, two, selector))) in
    omega (arith, low, start)

module _ (magic file : List ℕ) (version end : ℕ) (bodies : List (List ℕ)) (form : Form) (row : HasRow magic file form end bodies) (four : form.selector ≡ 4) (version_is : version_of magic ≡ version) (small : form.start < 2 ^ 64) where
  four_is : selector_in file ≡ 4
  four_is = row.form_is.1 ∙ four

  told : (has_magic magic file ≡ true) × (start_by (selector_in file) file ≡ Some form.start)
  told = tested (has_magic magic file) (start_by (selector_in file) file) form.start row.form_is.0

  there : (last_in file ≡ form.start) × (29 ≤ form.start) × (is_alone (drop form.start file) ≡ true)
  there = alone_there (last_in file) form.start file (subst (λ (n : ℕ). start_by n file ≡ Some form.start) four_is told.1)

  low : 29 ≤ form.start
  low = there.1

  long : form.start + 13 ≤ length file
  long = alone_long form.start file there.2

  -- a file as long, with the same bytes from 29 on
  apart_there : (c : List ℕ) → drop 29 c ≡ drop 29 file → length c ≡ length file → start_by 4 c ≡ Some form.start
  apart_there c rest same =
      let last : last_in c ≡ last_in file =
      ap (λ (n : ℕ). slot_in (n - 8) c) same ∙ ap (λ (l : List ℕ). from_be_bytes w64 (take 8 l)) (further c file 29 (length file - 8) rest (omega (arith, long, low))) in
      let alone : is_alone (drop form.start c) ≡ true = ap (λ (l : List ℕ). is_alone l) (further c file 29 form.start rest low) ∙ there.2 in
      ap (λ (k : ℕ). if_alone k c) (last ∙ there.0) ∙ alone_again form.start c low alone

  records_of : (c : List ℕ) → start_in magic c ≡ Some form.start → drop 29 c ≡ drop 29 file → Records magic c bodies
  records_of c start rest = inl (record {
    start = form.start;
    form = start;
    image = record { tail = drop end file; split = further c file 29 form.start rest low ∙ row.split; lengths = row.lengths; closed = row.closed };
  })

  -- while the slots are written
  beside_text : (c : List ℕ) → IsSameBeside 13 29 file c → take 12 (drop 1 c) ≡ take 12 (drop 1 file)
  beside_text c same = same_part 12 1 13 c file (omega arith) same.before

  beside_first : (c : List ℕ) → IsSameBeside 13 29 file c → selector_in c ≡ 4
  beside_first c same = sym (first_of_front 13 c (omega arith)) ∙ ap selector_in same.before ∙ first_of_front 13 file (omega arith) ∙ four_is

  beside_magic : (c : List ℕ) → IsSameBeside 13 29 file c → has_magic magic c ≡ true
  beside_magic c same = magic_same magic file c (beside_text c same) (omega (arith, same.long, long)) told.0

  beside_start : (c : List ℕ) → IsSameBeside 13 29 file c → start_in magic c ≡ Some form.start
  beside_start c same =
      ap (λ (b : Bool). cond b (start_by (selector_in c) c) None) (beside_magic c same)
      ∙ ap (λ (n : ℕ). start_by n c) (beside_first c same)
      ∙ apart_there c same.after same.long

  abbrev slots : List ℕ
  slots = to_be_bytes w64 form.start ++ to_be_bytes w64 0

  abbrev one : List ℕ
  one = slotted form.start file

  slots_room : 13 + length slots ≤ length file
  slots_room = omega (arith, long, low)

  one_beside : IsSameBeside 13 29 file one
  one_beside = overwritten_beside 13 slots file slots_room

  -- then the version
  abbrev two : List ℕ
  two = with_version version one

  one_long : 13 ≤ length one
  one_long = omega (arith, one_beside.long, long)

  two_version : version_in two ≡ version
  two_version = version_there version one one_long

  two_rest : drop 29 two ≡ drop 29 file
  two_rest = further two one 13 29 (version_beside version one one_long).after (omega arith) ∙ one_beside.after

  two_long : length two ≡ length file
  two_long = (version_beside version one one_long).long ∙ one_beside.long

  two_magic : has_magic magic two ≡ true
  two_magic = magic_there magic one version (beside_magic one one_beside) (sym version_is)

  two_first : selector_in two ≡ 4
  two_first = first_there version one one_long ∙ beside_first one one_beside

  two_start : start_in magic two ≡ Some form.start
  two_start =
      ap (λ (b : Bool). cond b (start_by (selector_in two) two) None) two_magic
      ∙ ap (λ (n : ℕ). start_by n two) two_first
      ∙ apart_there two two_rest two_long

  -- then the first byte
  abbrev three : List ℕ
  three = ended version form.start file

  three_long : length three ≡ length file
  three_long = marked_long 2 two (omega (arith, two_long, long)) ∙ two_long

  three_text : take 12 (drop 1 three) ≡ take 12 (drop 1 two)
  three_text = ap (take 12) (marked_rest 2 1 two (omega arith))

  three_version : version_in three ≡ version
  three_version = version_text two three three_text ∙ two_version

  three_magic : has_magic magic three ≡ true
  three_magic = magic_same magic two three three_text (omega (arith, three_long, long)) two_magic

  three_slot : slot_in 13 three ≡ form.start
  three_slot =
      ap (λ (l : List ℕ). from_be_bytes w64 (take 8 l)) (marked_rest 2 13 two (omega arith) ∙ (version_beside version one one_long).after ∙ written_there 13 slots file slots_room ∙ append_assoc (to_be_bytes w64 form.start) (to_be_bytes w64 0) (drop (13 + length slots) file))
      ∙ ap (from_be_bytes w64) (take_at (to_be_bytes w64 form.start) (to_be_bytes w64 0 ++ drop (13 + length slots) file) 8 refl)
      ∙ from_be_bytes-to_be_bytes_8 form.start small

  three_start : start_in magic three ≡ Some form.start
  three_start =
      ap (λ (b : Bool). cond b (start_by 2 three) None) three_magic
      ∙ ap (λ (k : ℕ). if_inside 29 k three) three_slot
      ∙ inside_again 29 form.start three low (omega (arith, three_long, long))

  three_rest : drop 29 three ≡ drop 29 file
  three_rest = marked_rest 2 29 two (omega arith) ∙ two_rest

  pub ending : (c : List ℕ) → IsEnding version form.start file c → HasAtMost magic bodies (length file) c
  ending c (inl same) = record { has = records_of c (beside_start c same) same.after; long = omega (arith, same.long) }
  ending c (inr (inl is)) = record { has = records_of c (ap (start_in magic) is ∙ two_start) (ap (drop 29) is ∙ two_rest); long = omega (arith, ap length is, two_long) }
  ending c (inr (inr is)) = record { has = records_of c (ap (start_in magic) is ∙ three_start) (ap (drop 29) is ∙ three_rest); long = omega (arith, ap length is, three_long) }

  pub ended_row : HasRow magic three (ended_form version form) end bodies
  ended_row =
      let behind : drop end three ≡ drop end file = further three file 29 end three_rest (omega (arith, row.ends, low)) in
      record {
        form_is = (three_start, ap ended_selector (sym four), three_version ∙ ap (λ (n : ℕ). if nat_eq n 4 then version else form.version) (sym four));
        split = further three file 29 form.start three_rest low ∙ row.split ∙ ap (λ (l : List ℕ). rows bodies ++ l) (sym behind);
        lengths = row.lengths;
        ends = row.ends;
        closed = subst IsTail (sym behind) row.closed;
      }

  pub ended_long : length three ≡ length file
  ended_long = three_long
