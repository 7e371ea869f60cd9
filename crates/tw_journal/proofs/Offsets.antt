-- Where the records of a row stand.
use Rattle.std.specs.Prelude.{All, Bool, if◌then◌else◌, nat_le, slice_index_or, Option, Some, unwrap_or}
use Rattle.std.specs.Int.{to_be_bytes, from_be_bytes, w32}
use Rattle.std.proofs.Common.{◌≡◌, inl, inr, ⊎_elim, ℕ, zero, suc, ◌+◌, ◌-◌, ◌<◌, ◌≤◌, List, [], ◌∷◌, ◌++◌, length, get_or, take, drop, refl, sym, ◌∙◌, ap, subst, arith, append_assoc, length-append, take-append-drop}
use Rattle.std.proofs.lemmas.List.{drop_at, take_more, drop_more, drop-drop, drop-take, take-take, append-nil, length-drop}
use Rattle.std.proofs.lemmas.Option.{same_Some}
use Rattle.std.proofs.lemmas.Nat.{from_be_bytes-to_be_bytes_4}
use Rattle.tw_world.specs.Disk.{DiskModel, Untouched}
use Rattle.tw_journal.specs.Record.{behind_gate, rows, IsRecordLength, AreOffsets, AreFirsts}
use Rattle.tw_journal.specs.Form.{Records, HasRecords, IsSameOrEnded, ended_selector, selector_in, version_in, start_in, offset_in}
use Rattle.tw_journal.specs.Reading.{HoldsRows, IsNoRecord, IsSizeAt}
use Rattle.tw_journal.specs.Open.{IsBroken}
use Rattle.tw_journal.specs.Journal.{IsAtRest, IsOpenOn, IsOpened, IsSameBesideRoom}
use Rattle.tw_journal.specs.declared.journal.Journal.{Journal}
use Rattle.tw_journal.proofs.Forms.{unequal, start_bounds, tail_has_none}
use Rattle.tw_journal.proofs.Unique.{same_first}
use Rattle.tw_journal.proofs.Added.{length-rows-push}

rows-append : (xs ys : List (List ℕ)) → rows (xs ++ ys) ≡ rows xs ++ rows ys
rows-append [] ys = refl
rows-append (x ∷ xs) ys = ap (λ (l : List ℕ). 1 ∷ behind_gate x ++ l) (rows-append xs ys) ∙ sym (append_assoc (1 ∷ behind_gate x) (rows xs) (rows ys))

-- where no record stands there is none with any body
pub no_record : (rest body more : List ℕ) → rest ≡ 1 ∷ behind_gate body ++ more → IsRecordLength body → IsNoRecord rest → ⊥
no_record [] body more is fits none = absurd (cc)
no_record (gate ∷ tail) body more is fits none =
    let gate_is : gate ≡ 1 = ap (λ (l : List ℕ). get_or l 0 0) is in
    let tail_is : tail ≡ to_be_bytes w32 (length body) ++ (body ++ more) = ap (λ (l : List ℕ). drop 1 l) is ∙ append_assoc (to_be_bytes w32 (length body)) body more in
    let size : from_be_bytes w32 (take 4 tail) ≡ length body = ap (λ (l : List ℕ). from_be_bytes w32 (take 4 l)) tail_is ∙ from_be_bytes-to_be_bytes_4 (length body) fits in
    elim none [
      | inl shut ↦ shut gate_is
      | inr short ↦ omega (arith, short, size, ap length tail_is, length-append body more)
    ]

pub broken_is_none : (rest : List ℕ) → IsBroken rest → IsNoRecord rest
broken_is_none [] broken = tt
broken_is_none (gate ∷ more) (inl above) = inl (λ is. omega (arith, above, is))
broken_is_none (gate ∷ more) (inr short) = inr short.1

-- what stands at the offset of a record
module _ (all : List (List ℕ)) (file : List ℕ) (start at number : ℕ) (is : drop start file ≡ rows all) (lengths : All IsRecordLength all) (inside : number < length all) (offset : at ≡ start + length (rows (take number all))) where
  abbrev this : List ℕ
  this = slice_index_or all number []

  pub rest_is : drop at file ≡ 1 ∷ behind_gate this ++ rows (drop (number + 1) all)
  rest_is =
      let parts : all ≡ take number all ++ drop number all = sym (take-append-drop number all) in
      let before = length (rows (take number all)) in
      ap (λ (k : ℕ). drop k file) (omega (arith, offset))
      ∙ sym (drop-drop before start file)
      ∙ ap (λ (l : List ℕ). drop before l) (is ∙ ap rows parts ∙ rows-append (take number all) (drop number all))
      ∙ drop_at (rows (take number all)) (rows (drop number all)) before refl
      ∙ ap rows (drop_more all number [] inside)

  pub fits : IsRecordLength this
  fits = lengths number [] inside

  pub none : IsNoRecord (drop at file) → ⊥
  none = no_record (drop at file) this (rows (drop (number + 1) all)) rest_is fits

  both : (size : ℕ) → IsSizeAt (drop at file) size → (take size (drop 5 (drop at file)) ≡ this) × (drop (5 + size) (drop at file) ≡ rows (drop (number + 1) all))
  both size here =
      let left : drop at file ≡ 1 ∷ behind_gate (take size (drop 5 (drop at file))) ++ drop (5 + size) (drop at file) = here.head.0 in
      let found = take size (drop 5 (drop at file)) in
      let more = drop (5 + size) (drop at file) in
      same_first found this more (rows (drop (number + 1) all)) (omega (arith, here.fits, here.head.1)) fits
      (sym (append_assoc (to_be_bytes w32 (length found)) found more) ∙ ap (λ (l : List ℕ). drop 1 l) (sym left ∙ rest_is) ∙ append_assoc (to_be_bytes w32 (length this)) this (rows (drop (number + 1) all)))

  pub body_is : (size : ℕ) → IsSizeAt (drop at file) size → take size (drop (at + 5) file) ≡ this
  body_is size here = ap (λ (l : List ℕ). take size l) (sym (drop-drop 5 at file)) ∙ (both size here).0

  pub size_is : (size : ℕ) → IsSizeAt (drop at file) size → size ≡ length this
  size_is size here = sym here.head.1 ∙ ap length (both size here).0

  -- a part of the body
  pub part_is : (size from len : ℕ) → IsSizeAt (drop at file) size → from + len ≤ size → take len (drop (at + 5 + from) file) ≡ take len (drop from this)
  part_is size from len here le =
      let n : size ≡ from + (size - from) = omega (arith, le) in
      ap (λ (l : List ℕ). take len l) (sym (drop-drop from (at + 5) file))
      ∙ sym (take-take len (size - from) (drop from (drop (at + 5) file)) (omega (arith, le)))
      ∙ ap (λ (l : List ℕ). take len l) (sym (drop-take from (size - from) (drop (at + 5) file)))
      ∙ ap (λ (k : ℕ). take len (drop from (take k (drop (at + 5) file)))) (sym n)
      ∙ ap (λ (l : List ℕ). take len (drop from l)) (body_is size here)

  pub next_offset : (size : ℕ) → IsSizeAt (drop at file) size → at + (5 + size) ≡ start + length (rows (take (number + 1) all))
  next_offset size here = omega (arith, offset, size_is size here, ap (λ (l : List (List ℕ)). length (rows l)) (take_more all number [] inside), length-rows-push (take number all) this)

-- a disk on which a journal is open holds its rows, also after reads
pub holds_rows : {D : Type 0} (m : DiskModel D) (magic : List ℕ) (journal : Journal) (disk : D) (bodies : List (List ℕ)) → IsOpenOn m magic journal disk bodies → HoldsRows m disk journal.start bodies
holds_rows m magic journal disk bodies on = record { tells = on.rest.tells; file = on.rest.file; lengths = on.rest.lengths }

pub still_holds : {D : Type 0} (m : DiskModel D) (before after : D) (start : ℕ) (all : List (List ℕ)) → Untouched m before after → HoldsRows m before start all → HoldsRows m after start all
still_holds m before after start all untouched held = record { tells = untouched.kept.tells ∙ held.tells; file = ap (drop start) (untouched.seen held.tells) ∙ held.file; lengths = held.lengths }

-- a journal that is open on a disk is open on it after reads
pub still_open : {D : Type 0} (m : DiskModel D) (magic : List ℕ) (journal : Journal) (before after : D) (bodies : List (List ℕ)) → Untouched m before after → IsOpenOn m magic journal before bodies → IsOpenOn m magic journal after bodies
still_open m magic journal before after bodies untouched on =
    let same = untouched.seen on.rest.tells in
    record {
      rest = record {
        tells = untouched.kept.tells ∙ on.rest.tells;
        settled = λ c left. on.rest.settled c (untouched.images on.rest.tells c left) ∙ sym same;
        form = ap (start_in magic) same ∙ on.rest.form;
        selector_is = ap selector_in same ∙ on.rest.selector_is;
        file = ap (drop journal.start) same ∙ on.rest.file;
        lengths = on.rest.lengths;
      };
      version = ap version_in same ∙ on.version;
      open_now = on.open_now;
      end = on.end ∙ ap length (sym same);
      count = on.count;
      offsets = on.offsets;
      firsts = on.firsts;
    }

-- and so is the same one with other room for offsets
pub same_open : {D : Type 0} (m : DiskModel D) (magic : List ℕ) (old new : Journal) (disk : D) (bodies : List (List ℕ)) → IsSameBesideRoom old new → IsOpenOn m magic old disk bodies → IsOpenOn m magic new disk bodies
same_open m magic old new disk bodies same on = record {
  rest = subst (λ start. IsAtRest m magic new.selector start disk bodies) (sym same.start) (subst (λ selector. IsAtRest m magic selector old.start disk bodies) (sym same.selector) on.rest);
  version = on.version ∙ sym same.version;
  open_now = same.closed ∙ on.open_now;
  end = same.end ∙ on.end;
  count = same.count ∙ on.count;
  offsets = subst (λ start. AreOffsets start bodies new.offsets.items) (sym same.start) (subst (AreOffsets old.start bodies) (sym same.offsets) on.offsets);
  firsts = subst (AreFirsts bodies) (sym same.firsts) on.firsts;
}

-- the disk has the records, and so does each image that it may leave
pub open_records : {D : Type 0} (m : DiskModel D) (magic : List ℕ) (journal : Journal) (disk : D) (bodies : List (List ℕ)) → IsOpenOn m magic journal disk bodies → Records magic (m.seen disk) bodies
open_records m magic journal disk bodies on = inl (record {
  start = journal.start;
  form = on.rest.form;
  image = record { tail = []; split = on.rest.file ∙ sym (append-nil (rows bodies)); lengths = on.rest.lengths; closed = tt };
})

pub left_records : {D : Type 0} (m : DiskModel D) (magic : List ℕ) (journal : Journal) (disk : D) (bodies : List (List ℕ)) → IsOpenOn m magic journal disk bodies → (c : List ℕ) → m.leaves disk c → Records magic c bodies
left_records m magic journal disk bodies on c left = subst (λ (f : List ℕ). Records magic f bodies) (sym (on.rest.settled c left)) (open_records m magic journal disk bodies on)

-- where a record of it stands
pub open_offset : {D : Type 0} (m : DiskModel D) (magic : List ℕ) (journal : Journal) (disk : D) (bodies : List (List ℕ)) (n : ℕ) → IsOpenOn m magic journal disk bodies → offset_in magic (m.seen disk) bodies n ≡ journal.start + length (rows (take n bodies))
open_offset m magic journal disk bodies n on = ap (λ (o : Option ℕ). unwrap_or o 0 + length (rows (take n bodies))) on.rest.form

-- a file whose upgrade is ended has areas where it did
pub ended_areas : (n : ℕ) → nat_le 2 (ended_selector n) ≡ nat_le 2 n
ended_areas zero = refl
ended_areas (suc zero) = refl
ended_areas (suc (suc zero)) = refl
ended_areas (suc (suc (suc zero))) = refl
ended_areas (suc (suc (suc (suc zero)))) = refl
ended_areas (suc (suc (suc (suc (suc n))))) =
    let far = suc (suc (suc (suc (suc n)))) in
    ap (λ (b : Bool). nat_le 2 (if b then 2 else far)) (unequal far 4 (λ same. absurd (omega (arith, same))))

-- it stood there before the journal was opened
pub same_offset : {D : Type 0} (m : DiskModel D) (magic : List ℕ) (before after : D) (journal : Journal) (o : IsOpened m magic before after journal) (n : ℕ) → n < length o.bodies → offset_in magic (m.seen after) o.bodies n ≡ offset_in magic (m.seen before) o.bodies n
same_offset m magic before after journal o n inside =
    ⊎_elim (λ none. absurd (omega (arith, inside, ap length none)))
    (λ (same : IsSameOrEnded magic (m.seen before) (m.seen after)). ap (λ (s : Option ℕ). unwrap_or s 0 + length (rows (take n o.bodies))) same.start) o.form

-- an opening that makes no new file leaves no more bytes
pub no_longer : {D : Type 0} (m : DiskModel D) (magic : List ℕ) (before after : D) (journal : Journal) (o : IsOpened m magic before after journal) → IsSameOrEnded magic (m.seen before) (m.seen after) → length (m.seen after) ≤ length (m.seen before)
no_longer m magic before after journal o same = ⊎_elim there (λ none. absurd (tail_has_none magic (m.seen before) journal.start none.1 form)) o.records
  where
    form : start_in magic (m.seen before) ≡ Some journal.start
    form = sym same.start ∙ o.now.rest.form

    there : HasRecords magic (m.seen before) o.bodies → length (m.seen after) ≤ length (m.seen before)
    there has =
        let at : has.start ≡ journal.start = same_Some has.start journal.start (sym has.form ∙ form) in
        let inside : journal.start ≤ length (m.seen before) = (start_bounds magic (m.seen before) journal.start form).1 in
        let l1 : length (drop journal.start (m.seen after)) ≡ length (m.seen after) - journal.start = length-drop journal.start (m.seen after) in
        let l2 : length (drop has.start (m.seen before)) ≡ length (m.seen before) - has.start = length-drop has.start (m.seen before) in
        let l3 : length (drop has.start (m.seen before)) ≡ length (rows o.bodies) + length has.image.tail = ap length has.image.split ∙ length-append (rows o.bodies) has.image.tail in
        let l4 : length (drop journal.start (m.seen after)) ≡ length (rows o.bodies) = ap length o.now.rest.file in
        omega arith
