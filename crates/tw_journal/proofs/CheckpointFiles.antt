-- What the steps of a checkpoint make of a file, and of its records.
use Rattle.std.specs.Prelude.{cond, Bool, true, All, Some, None, replicate}
use Rattle.std.specs.Int.{to_be_bytes, from_be_bytes, w64}
use Rattle.std.proofs.Common.{◌≡◌, ◌⊎◌, inl, inr, ⊎_elim, ℕ, zero, suc, ◌+◌, ◌-◌, ◌<◌, ◌≤◌, ◌^◌, List, [], ◌∷◌, ◌++◌, length, take, drop, refl, sym, ◌∙◌, ap, subst, arith, append_assoc, length-append, take-append-drop}
use Rattle.std.proofs.lemmas.List.{take_at, take-take, drop-drop, drop-take, take-append-le, length-take, length-replicate, append-nil}
use Rattle.std.proofs.lemmas.Nat.{from_be_bytes-to_be_bytes_8}
use Rattle.tw_world.specs.Disk.{DiskModel, Tells, IsStable, overwritten}
use Rattle.tw_journal.specs.Record.{behind_gate, rows, IsRecordLength, Image}
use Rattle.tw_journal.specs.Form.{Records, selector_in, version_in, slot_in, has_magic, if_inside, start_by, start_in, IsSameForm}
use Rattle.tw_journal.specs.Journal.{IsAtRest}
use Rattle.tw_journal.specs.Checkpoint.{slot_of, other_slot, other_selector, closed_record, extended, pointed, IsSameBeside, IsCopying, IsPointing, IsReplacing}
use Rattle.tw_journal.proofs.Forms.{tested, same_part, first_of_front, start_bounds, start_same, start_front, inside_again, drop_grown, magic_same, version_text}
use Rattle.tw_journal.proofs.Added.{image_records}
use Rattle.tw_journal.proofs.Between.{overwritten_beside, written_there}
use Rattle.tw_journal.proofs.Slots.{slots_apart, slot_low, slot_high, other_counts, other_low, drop_more_first}

module _ (magic file body : List ℕ) (bodies : List (List ℕ)) (start end at selector : ℕ) (form : start_in magic file ≡ Some start) (first : selector_in file ≡ selector) (is : drop start file ≡ rows bodies)
    (lengths : All IsRecordLength bodies) (fits : IsRecordLength body) (long : length file ≡ end) (low : 29 ≤ start) (offset : ((at ≡ 29) × (29 + (length body + 5) + 1 ≤ start)) ⊎ (at ≡ end + 1)) (small : at < 2 ^ 64) (plain : selector < 4) where
  abbrev to : ℕ
  to = at + length body + 6

  abbrev roomed : List ℕ
  roomed = extended to file

  abbrev copied : List ℕ
  copied = overwritten at (closed_record body) roomed

  plain_file : selector_in file < 4
  plain_file = omega (arith, plain, first)

  inside : start ≤ length file
  inside = (start_bounds magic file start form).1

  behind : 29 ≤ at
  behind = ⊎_elim (λ front. omega (arith, front.0)) (λ end_is. omega (arith, end_is, long, inside, low)) offset

  length-roomed : length roomed ≡ end + (to - end)
  length-roomed = omega (arith, length-append file (replicate (to - length file) 0), length-replicate {A = ℕ} (to - length file) 0, long)

  reach : to ≤ length roomed
  reach = omega (arith, length-roomed)

  pub longest : length roomed ≤ end + (length body + 7)
  longest = ⊎_elim (λ front. omega (arith, length-roomed, front.0, front.1, long, inside)) (λ end_is. omega (arith, length-roomed, end_is)) offset

  roomed_front : take 29 roomed ≡ take 29 file
  roomed_front = take-append-le 29 file (replicate (to - length file) 0) (omega (arith, long, inside, low))

  beside_front : (c : List ℕ) → IsSameBeside at to roomed c → take 29 c ≡ take 29 file
  beside_front c same = sym (take-take 29 at c behind) ∙ ap (λ (l : List ℕ). take 29 l) same.before ∙ take-take 29 at roomed behind ∙ roomed_front

  beside_form : (c : List ℕ) → IsSameBeside at to roomed c → IsSameForm magic file c
  beside_form c same = start_front magic file c 29 start form plain_file (beside_front c same) (inr (omega arith)) (omega (arith, same.long, length-roomed, long, inside))

  -- the records from before stand apart from where the new one is written
  beside_image : (c : List ℕ) → IsSameBeside at to roomed c → Image (drop start c) bodies
  beside_image c same = ⊎_elim before behind_end offset
    where
      before : (at ≡ 29) × (29 + (length body + 5) + 1 ≤ start) → Image (drop start c) bodies
      before front =
          let rest = start - to in
          let n : start ≡ to + rest = omega (arith, front.0, front.1) in
          let none : to - length file ≡ 0 = omega (arith, front.0, front.1, inside) in
          let further : (l : List ℕ) → drop rest (drop to l) ≡ drop start l = λ l. drop-drop rest to l ∙ ap (λ (k : ℕ). drop k l) (sym n) in
          record {
            tail = [];
            split = sym (further c) ∙ ap (λ (l : List ℕ). drop rest l) same.after ∙ further roomed ∙ ap (λ (k : ℕ). drop start (file ++ replicate k 0)) none ∙ ap (drop start) (append-nil file) ∙ is ∙ sym (append-nil (rows bodies));
            lengths = lengths;
            closed = tt;
          }

      behind_end : at ≡ end + 1 → Image (drop start c) bodies
      behind_end end_is =
          let n : to - length file ≡ suc (length body + 6) = omega (arith, end_is, long) in
          let whole : roomed ≡ (file ++ 0 ∷ []) ++ replicate (length body + 6) 0 = ap (λ (k : ℕ). file ++ replicate k 0) n ∙ sym (append_assoc file (0 ∷ []) (replicate (length body + 6) 0)) in
          let one : length (file ++ 0 ∷ []) ≡ at = omega (arith, end_is, long, length-append file (0 ∷ [])) in
          let front : take at c ≡ file ++ 0 ∷ [] = same.before ∙ ap (take at) whole ∙ take_at (file ++ 0 ∷ []) (replicate (length body + 6) 0) at one in
          let split : c ≡ file ++ 0 ∷ drop at c = sym (take-append-drop at c) ∙ ap (λ (l : List ℕ). l ++ drop at c) front ∙ append_assoc file (0 ∷ []) (drop at c) in
          record {
            tail = 0 ∷ drop at c;
            split = ap (drop start) split ∙ drop_grown magic file (0 ∷ drop at c) start form ∙ ap (λ (l : List ℕ). l ++ 0 ∷ drop at c) is;
            lengths = lengths;
            closed = refl;
          }

  beside_records : (c : List ℕ) → IsSameBeside at to roomed c → Records magic c bodies
  beside_records c same = image_records magic file c bodies start form (beside_form c same) (beside_image c same)

  pub copying : (c : List ℕ) → IsCopying at to file c → IsReplacing magic (end + (length body + 7)) bodies body c
  copying c (inl same) = record {
    stands = inl (image_records magic file c bodies start form (subst (IsSameForm magic file) (sym same) (record { start = refl; selector = refl })) (record { tail = []; split = ap (drop start) same ∙ is ∙ sym (append-nil (rows bodies)); lengths = lengths; closed = tt }));
    long = omega (arith, ap length same, long);
  }
  copying c (inr same) = record { stands = inl (beside_records c same); long = omega (arith, same.long, longest) }

  whole_record : length (closed_record body) ≡ length body + 6
  whole_record = omega (arith, length-append (1 ∷ behind_gate body) (0 ∷ []))

  room : at + length (closed_record body) ≤ length roomed
  room = omega (arith, whole_record, reach)

  copied_beside : IsSameBeside at to roomed copied
  copied_beside = subst (λ k. IsSameBeside at k roomed copied) (omega (arith, whole_record)) (overwritten_beside at (closed_record body) roomed room)

  copied_form : IsSameForm magic file copied
  copied_form = beside_form copied copied_beside

  copied_start : start_in magic copied ≡ Some start
  copied_start = copied_form.start ∙ form

  copied_first : selector_in copied ≡ selector
  copied_first = copied_form.selector ∙ first

  long_copied : 29 ≤ length copied
  long_copied = omega (arith, copied_beside.long, length-roomed, long, inside, low)

  -- ---- the other slot

  abbrev slot : ℕ
  slot = other_slot selector

  -- while it is written the counting slot stays
  mine_stays : (c : List ℕ) → IsSameBeside slot (slot + 8) copied c → take 8 (drop (slot_of selector) c) ≡ take 8 (drop (slot_of selector) copied)
  mine_stays c same = ⊎_elim
      (λ early. same_part 8 (slot_of selector) slot c copied early same.before)
      (λ late.
      let rest = slot_of selector - (slot + 8) in
      let n : slot_of selector ≡ slot + 8 + rest = omega (arith, late) in
      let further : (l : List ℕ) → drop rest (drop (slot + 8) l) ≡ drop (slot_of selector) l = λ l. drop-drop rest (slot + 8) l ∙ ap (λ (k : ℕ). drop k l) (sym n) in
      ap (take 8) (sym (further c) ∙ ap (λ (l : List ℕ). drop rest l) same.after ∙ further copied))
      (slots_apart selector)

  text_stays : (c : List ℕ) → IsSameBeside slot (slot + 8) copied c → take 12 (drop 1 c) ≡ take 12 (drop 1 copied)
  text_stays c same = same_part 12 1 slot c copied (omega (arith, slot_low selector)) same.before

  first_stays : (c : List ℕ) → IsSameBeside slot (slot + 8) copied c → selector_in c ≡ selector_in copied
  first_stays c same = sym (first_of_front slot c (omega (arith, slot_low selector))) ∙ ap selector_in same.before ∙ first_of_front slot copied (omega (arith, slot_low selector))

  pointing_start : (c : List ℕ) → IsSameBeside slot (slot + 8) copied c → start_in magic c ≡ Some start
  pointing_start c same = start_same magic copied c start copied_start (omega (arith, copied_first, plain)) (first_stays c same) (text_stays c same)
      (λ two. subst (λ (k : ℕ). take 8 (drop (slot_of k) c) ≡ take 8 (drop (slot_of k) copied)) (sym copied_first) (mine_stays c same))
      (omega (arith, same.long, copied_beside.long, length-roomed, long, inside))

  behind_slots : (k : ℕ) (c : List ℕ) → 29 ≤ k → IsSameBeside slot (slot + 8) copied c → drop k c ≡ drop k copied
  behind_slots k c far same =
      let rest = k - (slot + 8) in
      let n : k ≡ slot + 8 + rest = omega (arith, far, slot_high selector) in
      let further : (l : List ℕ) → drop rest (drop (slot + 8) l) ≡ drop k l = λ l. drop-drop rest (slot + 8) l ∙ ap (λ (i : ℕ). drop i l) (sym n) in
      sym (further c) ∙ ap (λ (l : List ℕ). drop rest l) same.after ∙ further copied

  pointing_records : (c : List ℕ) → IsSameBeside slot (slot + 8) copied c → Records magic c bodies
  pointing_records c same = inl (record {
    start = start;
    form = pointing_start c same;
    image = subst (λ (l : List ℕ). Image l bodies) (sym (behind_slots start c low same)) (beside_image copied copied_beside);
  })

  -- ---- the other slot counts

  abbrev told : List ℕ
  told = to_be_bytes w64 at

  abbrev slotted : List ℕ
  slotted = overwritten slot told copied

  slot_room : slot + 8 ≤ length copied
  slot_room = omega (arith, long_copied, slot_high selector)

  slotted_beside : IsSameBeside slot (slot + 8) copied slotted
  slotted_beside = overwritten_beside slot told copied slot_room

  abbrev last : List ℕ
  last = pointed selector at copied

  same_last : (k : ℕ) → 1 ≤ k → drop k last ≡ drop k slotted
  same_last zero some = absurd (omega (arith, some))
  same_last (suc k) some = drop_more_first k slotted

  length-last : length last ≡ length copied
  length-last = by slotted (omega (arith, slotted_beside.long, long_copied)) ∙ slotted_beside.long
    where
      by : (l : List ℕ) → 1 ≤ length l → length (other_selector selector ∷ drop 1 l) ≡ length l
      by [] some = absurd (omega (arith, some))
      by (x ∷ l) some = refl

  last_slot : slot_in slot last ≡ at
  last_slot =
      ap (λ (l : List ℕ). from_be_bytes w64 (take 8 l)) (same_last slot (omega (arith, slot_low selector)) ∙ written_there slot told copied slot_room)
      ∙ ap (from_be_bytes w64) (take_at told (drop (slot + 8) copied) 8 refl)
      ∙ from_be_bytes-to_be_bytes_8 at small

  text_last : take 12 (drop 1 last) ≡ take 12 (drop 1 copied)
  text_last = ap (take 12) (same_last 1 (omega arith)) ∙ text_stays slotted slotted_beside

  last_magic : has_magic magic last ≡ true
  last_magic = magic_same magic copied last text_last (omega (arith, length-last, long_copied)) (tested (has_magic magic copied) (start_by (selector_in copied) copied) start copied_start).0

  at_inside : at + (length body + 6) ≤ length last
  at_inside = omega (arith, length-last, copied_beside.long, reach)

  last_start : start_in magic last ≡ Some at
  last_start =
      ap (λ (b : Bool). cond b (start_by (other_selector selector) last) None) last_magic
      ∙ other_counts selector last
      ∙ ap (λ (k : ℕ). if_inside 29 k last) last_slot
      ∙ inside_again 29 at last behind (omega (arith, at_inside))

  record_there : drop at last ≡ (1 ∷ behind_gate body) ++ 0 ∷ drop to roomed
  record_there =
      same_last at (omega (arith, behind))
      ∙ behind_slots at slotted behind slotted_beside
      ∙ written_there at (closed_record body) roomed room
      ∙ ap (λ (k : ℕ). closed_record body ++ drop k roomed) (omega (arith, whole_record))
      ∙ append_assoc (1 ∷ behind_gate body) (0 ∷ []) (drop to roomed)

  one_record : rows (body ∷ []) ≡ 1 ∷ behind_gate body
  one_record = append-nil (1 ∷ behind_gate body)

  one_fits : All IsRecordLength (body ∷ [])
  one_fits = All-cons fits
    where
      All-cons : IsRecordLength body → All IsRecordLength (body ∷ [])
      All-cons f zero d lt = f
      All-cons f (suc k) d lt = absurd (omega (arith, lt))

  last_records : Records magic last (body ∷ [])
  last_records = inl (record {
    start = at;
    form = last_start;
    image = record { tail = 0 ∷ drop to roomed; split = record_there ∙ ap (λ (l : List ℕ). l ++ 0 ∷ drop to roomed) (sym one_record); lengths = one_fits; closed = refl };
  })

  pub pointing : (c : List ℕ) → IsPointing selector at copied c → IsReplacing magic (end + (length body + 7)) bodies body c
  pointing c (inl same) = record { stands = inl (pointing_records c same); long = omega (arith, same.long, copied_beside.long, longest) }
  pointing c (inr same) = record { stands = inr (subst (λ f. Records magic f (body ∷ [])) (sym same) last_records); long = omega (arith, ap length same, length-last, copied_beside.long, longest) }

  -- ---- the file's end

  abbrev cut : List ℕ
  cut = take (at + length body + 5) last

  length-cut : length cut ≡ at + length body + 5
  length-cut = omega (arith, length-take (at + length body + 5) last, at_inside)

  pub cut_form : IsSameForm magic last cut
  cut_form = start_front magic last cut (at + length body + 5) at last_start (other_low selector) (take-take (at + length body + 5) (at + length body + 5) last (omega arith)) (inl (omega arith)) (omega (arith, length-cut))

  pub cut_start : start_in magic cut ≡ Some at
  cut_start = cut_form.start ∙ last_start

  pub cut_rows : drop at cut ≡ rows (body ∷ [])
  cut_rows =
      let n : at + length body + 5 ≡ at + (length body + 5) = omega arith in
      ap (λ (k : ℕ). drop at (take k last)) n
      ∙ drop-take at (length body + 5) last
      ∙ ap (take (length body + 5)) record_there
      ∙ take_at (1 ∷ behind_gate body) (0 ∷ drop to roomed) (length body + 5) (omega arith)
      ∙ sym one_record

  pub cutting : (c : List ℕ) → (c ≡ last) ⊎ (c ≡ cut) → IsReplacing magic (end + (length body + 7)) bodies body c
  cutting c (inl same) = pointing c (inr same)
  cutting c (inr same) = record {
    stands = inr (inl (record {
      start = at;
      form = ap (start_in magic) same ∙ cut_start;
      image = record { tail = []; split = ap (drop at) same ∙ cut_rows ∙ sym (append-nil (rows (body ∷ []))); lengths = one_fits; closed = tt };
    }));
    long = omega (arith, ap length same, length-cut, reach, longest);
  }

  pub version_kept : version_in cut ≡ version_in file
  version_kept =
      version_text last cut (same_part 12 1 (at + length body + 5) cut last (omega (arith, behind)) (take-take (at + length body + 5) (at + length body + 5) last (omega arith)))
      ∙ version_text copied last text_last
      ∙ version_text file copied (same_part 12 1 29 copied file (omega arith) (beside_front copied copied_beside))

  pub rest_after : {D : Type 0} (m : DiskModel D) (new : D) → Tells m new → IsStable m new → m.seen new ≡ cut → IsAtRest m magic (other_selector selector) at new (body ∷ [])
  rest_after m new tells settled seen = record {
    tells = tells;
    settled = settled;
    form = ap (start_in magic) seen ∙ cut_start;
    selector_is = ap selector_in seen ∙ cut_form.selector;
    file = ap (drop at) seen ∙ cut_rows;
    lengths = one_fits;
  }
