-- What the steps of an upgrade make of a row, and of its records.
use Rattle.std.specs.Prelude.{◌%◌, ◌==◌, if◌then◌else◌, cond, nat_eq, Bool, true, false, All, Some, None, replicate}
use Rattle.std.specs.Int.{to_be_bytes, from_be_bytes, w32, w64}
use Rattle.std.proofs.Common.{◌≡◌, ◌⊎◌, inl, inr, ℕ, zero, suc, ◌+◌, ◌-◌, ◌<◌, ◌≤◌, ◌^◌, List, [], ◌∷◌, ◌++◌, length, take, drop, refl, sym, ◌∙◌, ap, subst, arith, append_assoc, length-append, length-drop, take-append-drop}
use Rattle.std.proofs.Math.Nat.{div-eq_of_lt}
use Rattle.std.proofs.lemmas.List.{take_at, drop_at, drop_all, take-take, drop-drop, take-append-le, length-replicate, append-nil}
use Rattle.std.proofs.lemmas.Nat.{from_be_bytes-to_be_bytes_4, from_be_bytes-to_be_bytes_8}
use Rattle.tw_world.specs.Disk.{DiskModel, LeavesOnly, overwritten}
use Rattle.tw_world.proofs.Moments.{weaker, joined}
use Rattle.tw_journal.specs.Record.{behind_gate, rows, IsRecordLength, IsTail}
use Rattle.tw_journal.specs.Form.{Records, IsSameForm, version_of, version_in, selector_in, slot_in, last_in, is_alone, has_magic, start_by, start_in}
use Rattle.tw_journal.specs.Journal.{IsAtRest, IsOpenOn}
use Rattle.tw_journal.specs.declared.journal.Journal.{Journal}
use Rattle.tw_journal.specs.Checkpoint.{record_with, extended, slot_of, IsSameBeside, IsCopying, IsReplacing}
use Rattle.tw_journal.specs.Writes.{IsOldOr}
use Rattle.tw_journal.specs.Upgrade.{set_apart, marked, with_version, HasRow, HasAtMost, IsFirst}
use Rattle.tw_journal.proofs.Forms.{tested, same_part, start_bounds, start_with, inside_is, form_grown, drop_grown, magic_same, version_text, both_hold, equal_holds}
use Rattle.tw_journal.proofs.FormFront.{one_apart}
use Rattle.tw_journal.proofs.Added.{image_records}
use Rattle.tw_journal.proofs.Between.{overwritten_beside, written_there}
use Rattle.tw_journal.proofs.Ending.{further, marked_rest, marked_long, version_beside, version_there, first_there, magic_there}

-- the eight bytes of an offset begin with a closed gate
offset_shut : (at : ℕ) → at < 2 ^ 56 → IsTail (to_be_bytes w64 at)
offset_shut at small = ap (λ (k : ℕ). k % 256) (div-eq_of_lt small)

module _ (magic file body : List ℕ) (bodies : List (List ℕ)) (end at : ℕ) (form : start_in magic file ≡ Some 13) (first : selector_in file ≡ 1) (is : drop 13 file ≡ rows bodies)
    (lengths : All IsRecordLength bodies) (fits : IsRecordLength body) (long : length file ≡ end) (behind : end + 1 ≤ at) (low : 29 ≤ at) (near : at ≤ end + 16) where
  abbrev to : ℕ
  to = at + length body + 13

  abbrev tail : List ℕ
  tail = to_be_bytes w64 at

  abbrev roomed : List ℕ
  roomed = extended to file

  abbrev apart : List ℕ
  apart = set_apart at body file

  inside : 13 ≤ length file
  inside = (start_bounds magic file 13 form).1

  length-roomed : length roomed ≡ to
  length-roomed = omega (arith, length-append file (replicate (to - length file) 0), length-replicate {A = ℕ} (to - length file) 0, long, behind)

  -- the row is followed by a closed gate
  roomed_is : roomed ≡ (file ++ 0 ∷ []) ++ replicate (to - length file - 1) 0
  roomed_is =
      let n : to - length file ≡ suc (to - length file - 1) = omega (arith, long, behind) in
      ap (λ (k : ℕ). file ++ replicate k 0) n ∙ sym (append_assoc file (0 ∷ []) (replicate (to - length file - 1) 0))

  up_to_gate : length (file ++ 0 ∷ []) ≡ end + 1
  up_to_gate = omega (arith, long, length-append file (0 ∷ []))

  shut : (c : List ℕ) → IsSameBeside at to roomed c → c ≡ file ++ 0 ∷ drop (end + 1) c
  shut c same =
      let front : take (end + 1) c ≡ file ++ 0 ∷ [] =
      sym (take-take (end + 1) at c behind) ∙ ap (λ (l : List ℕ). take (end + 1) l) same.before ∙ take-take (end + 1) at roomed behind
      ∙ ap (λ (l : List ℕ). take (end + 1) l) roomed_is ∙ take_at (file ++ 0 ∷ []) (replicate (to - length file - 1) 0) (end + 1) up_to_gate in
      sym (take-append-drop (end + 1) c) ∙ ap (λ (l : List ℕ). l ++ drop (end + 1) c) front ∙ append_assoc file (0 ∷ []) (drop (end + 1) c)

  grown : (c rest : List ℕ) → IsTail rest → c ≡ file ++ rest → Records magic c bodies
  grown c rest closed split =
      image_records magic file c bodies 13 form (subst (λ (f : List ℕ). IsSameForm magic file f) (sym split) (form_grown magic file rest 13 form (omega (arith, first))))
      (record { tail = rest; split = ap (drop 13) split ∙ drop_grown magic file rest 13 form ∙ ap (λ (l : List ℕ). l ++ rest) is; lengths = lengths; closed = closed })

  beside_records : (c : List ℕ) → IsSameBeside at to roomed c → Records magic c bodies
  beside_records c same = grown c (0 ∷ drop (end + 1) c) refl (shut c same)

  longest : to ≤ end + (length body + 29)
  longest = omega (arith, near)

  pub setting : (c : List ℕ) → IsCopying at to file c → IsReplacing magic (end + (length body + 29)) bodies body c
  setting c (inl same) = record { stands = inl (grown c [] tt (same ∙ sym (append-nil file))); long = omega (arith, ap length same, long) }
  setting c (inr same) = record { stands = inl (beside_records c same); long = omega (arith, same.long, length-roomed, longest) }

  whole : length (record_with body tail) ≡ length body + 13
  whole = omega (arith, length-append (1 ∷ behind_gate body) tail)

  room : at + length (record_with body tail) ≤ length roomed
  room = omega (arith, whole, length-roomed)

  apart_beside : IsSameBeside at to roomed apart
  apart_beside = subst (λ (k : ℕ). IsSameBeside at k roomed apart) (omega (arith, whole)) (overwritten_beside at (record_with body tail) roomed room)

  apart_long : length apart ≡ to
  apart_long = apart_beside.long ∙ length-roomed

  -- the record and its offset are the file's last bytes
  apart_rest : drop at apart ≡ (1 ∷ behind_gate body) ++ tail
  apart_rest =
      written_there at (record_with body tail) roomed room
      ∙ ap (λ (l : List ℕ). record_with body tail ++ l) (drop_all (at + length (record_with body tail)) roomed (omega (arith, whole, length-roomed)))
      ∙ append-nil (record_with body tail)

  module _ (small : at < 2 ^ 56) where
    -- ---- the record counts

    abbrev now : List ℕ
    now = marked apart

    now_long : length now ≡ to
    now_long = marked_long 4 apart (omega (arith, apart_long)) ∙ apart_long

    now_rest : (k : ℕ) → at ≤ k → drop k now ≡ drop (k - at) ((1 ∷ behind_gate body) ++ tail)
    now_rest k far =
        let n : k ≡ at + (k - at) = omega (arith, far) in
        marked_rest 4 k apart (omega (arith, far, low)) ∙ ap (λ (i : ℕ). drop i apart) n ∙ sym (drop-drop (k - at) at apart) ∙ ap (λ (l : List ℕ). drop (k - at) l) apart_rest

    now_there : drop at now ≡ (1 ∷ behind_gate body) ++ tail
    now_there = marked_rest 4 at apart (omega (arith, low)) ∙ apart_rest

    now_end : drop (at + length body + 5) now ≡ tail
    now_end =
        let n : at + length body + 5 - at ≡ length body + 5 = omega arith in
        now_rest (at + length body + 5) (omega arith) ∙ ap (λ (k : ℕ). drop k ((1 ∷ behind_gate body) ++ tail)) n ∙ drop_at (1 ∷ behind_gate body) tail (length body + 5) (omega arith)

    now_last : at ≡ last_in now
    now_last =
        let n : to - 8 ≡ at + length body + 5 = omega arith in
        sym (from_be_bytes-to_be_bytes_8 at (omega (arith, small)))
        ∙ ap (λ (l : List ℕ). from_be_bytes w64 (take 8 l)) (sym now_end)
        ∙ ap (λ (k : ℕ). slot_in k now) (sym n)
        ∙ ap (λ (k : ℕ). slot_in (k - 8) now) (sym now_long)

    alone : is_alone (drop at now) ≡ true
    alone =
        let rest = (1 ∷ behind_gate body) ++ tail in
        let four : take 4 (drop 1 rest) ≡ to_be_bytes w32 (length body) = ap (take 4) (append_assoc (to_be_bytes w32 (length body)) body tail) ∙ take_at (to_be_bytes w32 (length body)) (body ++ tail) 4 refl in
        let size : from_be_bytes w32 (take 4 (drop 1 rest)) ≡ length body = ap (from_be_bytes w32) four ∙ from_be_bytes-to_be_bytes_4 (length body) fits in
        ap (λ (l : List ℕ). is_alone l) now_there
        ∙ both_hold (nat_eq 1 1) (nat_eq (13 + from_be_bytes w32 (take 4 (drop 1 rest))) (length rest)) refl
        (equal_holds (13 + from_be_bytes w32 (take 4 (drop 1 rest))) (length rest) (omega (arith, size, length-append (1 ∷ behind_gate body) tail)))

    apart_text : take 12 (drop 1 now) ≡ take 12 (drop 1 file)
    apart_text =
        ap (take 12) (marked_rest 4 1 apart (omega arith))
        ∙ same_part 12 1 29 apart roomed (omega arith) (sym (take-take 29 at apart low) ∙ ap (take 29) apart_beside.before ∙ take-take 29 at roomed low)
        ∙ same_part 12 1 13 roomed file (omega arith) (take-append-le 13 file (replicate (to - length file) 0) inside)

    now_magic : has_magic magic now ≡ true
    now_magic = magic_same magic file now apart_text (omega (arith, now_long)) (tested (has_magic magic file) (start_by (selector_in file) file) 13 form).0

    now_start : start_in magic now ≡ Some at
    now_start = ap (λ (b : Bool). cond b (start_by 4 now) None) now_magic ∙ sym (one_apart at now now_last low alone)

    one_row : rows (body ∷ []) ≡ 1 ∷ behind_gate body
    one_row = append-nil (1 ∷ behind_gate body)

    one_fits : All IsRecordLength (body ∷ [])
    one_fits zero d lt = fits
    one_fits (suc k) d lt = absurd (omega (arith, lt))

    pub now_row : (version : ℕ) → version_in file ≡ version → HasRow magic now (record { selector = 4; start = at; version = version }) (at + length body + 5) (body ∷ [])
    now_row version version_is = record {
      form_is = (now_start, refl, version_text file now apart_text ∙ version_is);
      split = now_there ∙ ap (λ (l : List ℕ). l ++ tail) (sym one_row) ∙ ap (λ (l : List ℕ). rows (body ∷ []) ++ l) (sym now_end);
      lengths = one_fits;
      ends = omega (arith, ap length one_row);
      closed = subst IsTail (sym now_end) (offset_shut at small);
    }

    now_records : Records magic now (body ∷ [])
    now_records = inl (record {
      start = at;
      form = now_start;
      image = record { tail = tail; split = now_there ∙ ap (λ (l : List ℕ). l ++ tail) (sym one_row); lengths = one_fits; closed = offset_shut at small };
    })

    pub marking : (c : List ℕ) → (c ≡ apart) ⊎ (c ≡ now) → IsReplacing magic (end + (length body + 29)) bodies body c
    marking c (inl same) = record { stands = inl (beside_records c (subst (IsSameBeside at to roomed) (sym same) apart_beside)); long = omega (arith, ap length same, apart_long, longest) }
    marking c (inr same) = record { stands = inr (subst (λ (f : List ℕ). Records magic f (body ∷ [])) (sym same) now_records); long = omega (arith, ap length same, now_long, longest) }

    pub settling : (c : List ℕ) → HasAtMost magic (body ∷ []) (length now) c → IsReplacing magic (end + (length body + 29)) bodies body c
    settling c has = record { stands = inr has.has; long = omega (arith, has.long, now_long, longest) }

-- The runs of an upgrade of a row that is at rest.
module _ {D : Type 0} (m : DiskModel D) (old : D) (magic body : List ℕ) (bodies : List (List ℕ)) (end at : ℕ) (first : IsFirst m magic old bodies) (fits : IsRecordLength body) (long : length (m.seen old) ≡ end)
    (behind : end + 1 ≤ at) (low : 29 ≤ at) (near : at ≤ end + 16) where
  abbrev Replacing : List ℕ → Type 0
  Replacing = IsReplacing magic (end + (length body + 29)) bodies body

  pub after_apart : (a : D) → LeavesOnly m old a (IsCopying at (at + length body + 13) (m.seen old)) → LeavesOnly m old a Replacing
  after_apart a run = weaker m old a _ Replacing run (setting magic (m.seen old) body bodies end at first.rest.form first.rest.selector_is first.rest.file first.rest.lengths fits long behind low near)

  module _ (small : at < 2 ^ 56) where
    pub after_mark : (a b : D) → LeavesOnly m old a Replacing → m.seen a ≡ set_apart at body (m.seen old) → LeavesOnly m a b (IsOldOr (overwritten 0 (4 ∷ [])) (m.seen a)) → LeavesOnly m old b Replacing
    after_mark a b so_far seen run =
        joined m old a b Replacing so_far (weaker m a b (IsOldOr (overwritten 0 (4 ∷ [])) (m.seen a)) Replacing run
        (λ c has. marking magic (m.seen old) body bodies end at first.rest.form first.rest.selector_is first.rest.file first.rest.lengths fits long behind low near small c (subst (λ (s : List ℕ). IsOldOr (overwritten 0 (4 ∷ [])) s c) seen has)))

    pub row_there : (b : D) → m.seen b ≡ marked (set_apart at body (m.seen old)) → HasRow magic (m.seen b) (record { selector = 4; start = at; version = 49 }) (at + length body + 5) (body ∷ [])
    row_there b seen =
        subst (λ (s : List ℕ). HasRow magic s (record { selector = 4; start = at; version = 49 }) (at + length body + 5) (body ∷ [])) (sym seen)
        (now_row magic (m.seen old) body bodies end at first.rest.form first.rest.selector_is first.rest.file first.rest.lengths fits long behind low near small 49 first.version)

    pub after_settle : (b n : D) → LeavesOnly m old b Replacing → m.seen b ≡ marked (set_apart at body (m.seen old)) → LeavesOnly m b n (HasAtMost magic (body ∷ []) (length (m.seen b))) → LeavesOnly m old n Replacing
    after_settle b n so_far seen run =
        joined m old b n Replacing so_far (weaker m b n (HasAtMost magic (body ∷ []) (length (m.seen b))) Replacing run
        (λ c has. settling magic (m.seen old) body bodies end at first.rest.form first.rest.selector_is first.rest.file first.rest.lengths fits long behind low near small c (subst (λ (s : List ℕ). HasAtMost magic (body ∷ []) (length s) c) seen has)))

-- ---- a file with areas gets the second version

slot_behind : (n : ℕ) → 13 ≤ slot_of n
slot_behind n = by (n == 2)
  where
    by : (b : Bool) → 13 ≤ (if b then 13 else 21)
    by true = omega arith
    by false = omega arith

module _ (magic file : List ℕ) (bodies : List (List ℕ)) (start version : ℕ) (form : start_in magic file ≡ Some start) (plain : selector_in file < 4) (low : 29 ≤ start) (own : version ≡ version_of magic) where
  abbrev brought : List ℕ
  brought = with_version version file

  start_inside : start ≤ length file
  start_inside = (start_bounds magic file start form).1

  beside : IsSameBeside 12 13 file brought
  beside = version_beside version file (omega (arith, start_inside, low))

  pub brought_first : selector_in brought ≡ selector_in file
  brought_first = first_there version file (omega (arith, start_inside, low))

  pub brought_version : version_in brought ≡ version
  brought_version = version_there version file (omega (arith, start_inside, low))

  pub brought_start : start_in magic brought ≡ Some start
  brought_start =
      start_with magic file brought start form plain brought_first (magic_there magic file version (tested (has_magic magic file) (start_by (selector_in file) file) start form).0 own)
      (λ two. ap (take 8) (further brought file 13 (slot_of (selector_in file)) beside.after (slot_behind (selector_in file)))) (omega (arith, beside.long, start_inside))

  pub brought_rest : drop start brought ≡ drop start file
  brought_rest = further brought file 13 start beside.after (omega (arith, low))

  pub brought_long : length brought ≡ length file
  brought_long = beside.long

  pub brought_has : drop start file ≡ rows bodies → All IsRecordLength bodies → (c : List ℕ) → (c ≡ file) ⊎ (c ≡ brought) → HasAtMost magic bodies (length file) c
  brought_has is lengths c (inl same) = record {
    has = subst (λ (f : List ℕ). Records magic f bodies) (sym same) (inl (record { start = start; form = form; image = record { tail = []; split = is ∙ sym (append-nil (rows bodies)); lengths = lengths; closed = tt } }));
    long = omega (arith, ap length same);
  }
  brought_has is lengths c (inr same) = record {
    has = subst (λ (f : List ℕ). Records magic f bodies) (sym same) (inl (record { start = start; form = brought_start; image = record { tail = []; split = brought_rest ∙ is ∙ sym (append-nil (rows bodies)); lengths = lengths; closed = tt } }));
    long = omega (arith, ap length same, brought_long);
  }

-- where the records of a row begin
pub row_start : (magic file : List ℕ) (s : ℕ) → start_in magic file ≡ Some s → selector_in file ≡ 1 → s ≡ 13
row_start magic file s form first =
    sym (inside_is 13 13 s file (subst (λ (n : ℕ). start_by n file ≡ Some s) first (tested (has_magic magic file) (start_by (selector_in file) file) s form).1)).0

-- a journal that is open on a row of the first version
pub first_row : {D : Type 0} (m : DiskModel D) (magic : List ℕ) (journal : Journal) (disk : D) (bodies : List (List ℕ)) → IsOpenOn m magic journal disk bodies → journal.selector < 2 → journal.version ≡ 49 → version_of magic ≡ 50 → IsFirst m magic disk bodies
first_row m magic journal disk bodies on row version second =
    let file = m.seen disk in
    let some = (start_bounds magic file journal.start on.rest.form).4 in
    let one : journal.selector ≡ 1 = is_one journal.selector row (λ none. some (on.rest.selector_is ∙ none)) in
    let start : journal.start ≡ 13 = row_start magic file journal.start on.rest.form (on.rest.selector_is ∙ one) in
    record {
      rest = subst (λ (k : ℕ). IsAtRest m magic 1 k disk bodies) start (subst (λ (k : ℕ). IsAtRest m magic k journal.start disk bodies) one on.rest);
      version = on.version ∙ version;
      second = second;
    }
  where
    is_one : (n : ℕ) → n < 2 → (n ≡ 0 → ⊥) → n ≡ 1
    is_one zero less some = absurd (some refl)
    is_one (suc zero) less some = refl
    is_one (suc (suc n)) less some = absurd (omega (arith, less))

-- where the one record of a file ends
pub upgraded_end : {D : Type 0} (m : DiskModel D) (magic body : List ℕ) (disk : D) (start : ℕ) → IsAtRest m magic 2 start disk (body ∷ []) → start + (length body + 5) ≡ length (m.seen disk)
upgraded_end m magic body disk start rest =
    omega (arith, (start_bounds magic (m.seen disk) start rest.form).1, ap length rest.file, length-drop start (m.seen disk), length-append (1 ∷ behind_gate body) [])
