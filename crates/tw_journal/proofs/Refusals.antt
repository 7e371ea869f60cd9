-- Why a record is not found or read, and what is read.
use Rattle.std.specs.Prelude.{Result, Ok, Err, IfOk, IfErr, IsErrAnd, slice_index_or}
use Rattle.std.proofs.Common.{◌≡◌, inl, ℕ, ◌+◌, ◌-◌, ◌<◌, ◌≤◌, List, [], ◌∷◌, ◌++◌, length, take, drop, sym, ◌∙◌, ap, subst, arith, append_assoc, length-append}
use Rattle.std.proofs.Math.Nat.{min-le_left}
use Rattle.std.proofs.lemmas.List.{drop-drop}
use Rattle.std.proofs.lemmas.List.Elements.{All-push}
use Rattle.tw_world.specs.Disk.{DiskModel, Tells, Untouched}
use Rattle.tw_journal.specs.Record.{behind_gate, rows, IsRecordLength, AreOffsets}
use Rattle.tw_journal.specs.Form.{offset_in}
use Rattle.tw_journal.specs.Errors.{open_in_read}
use Rattle.tw_journal.specs.Reading.{HoldsRows, Finding, IsNoRecord, IsSizeAt, IsSpanOf, LeadsTo, StopsAt, SizeRefused, FindRefused, known_number, known_offset}
use Rattle.tw_journal.specs.declared.error.ReadError.{ReadError}
use Rattle.tw_journal.specs.declared.error.ReadError.TheVariants as reads
use Rattle.tw_journal.specs.Journal.{IsOpenOn, HasRecordAt, HasBody, HasPart, ReadRefused, PartRefused, IsNoRecordAt, IsNoPartAt}
use Rattle.tw_journal.specs.declared.journal.Journal.{Journal}
use Rattle.tw_journal.specs.declared.window.Window.{Window}
use Rattle.tw_journal.specs.declared.error.OpenError.{OpenError}
use Rattle.tw_journal.specs.declared.error.OpenError.TheVariants.{Disk, Damaged, Memory}
use Rattle.tw_journal.specs.declared.records.Span.{Span}
use Rattle.tw_journal.proofs.Added.{rows-push}
use Rattle.tw_journal.proofs.Offsets.{none, body_is, size_is, part_is, next_offset, holds_rows, open_offset}

-- what holds of the error that is passed on
pub passed_on : {T E : Type 0} (r : Result T E) (e : E) (P : E → Type 0) → IsErrAnd r (λ x. x ≡ e) → P e → IfErr r P
passed_on (Ok v) e P is has = tt
passed_on (Err x) e P is has = subst P (sym is) has

pub on_ok : {T E : Type 0} (r : Result T E) (P Q : T → Type 0) → IfOk r P → ((v : T) → P v → Q v) → IfOk r Q
on_ok (Ok v) P Q has wide = wide v has
on_ok (Err e) P Q has wide = tt

-- the way to a record begins at the nearest known offset
pub way_begins : (start : ℕ) (known : List ℕ) (n : ℕ) (file : List ℕ) (number at : ℕ) → number ≡ known_number known n → at ≡ known_offset start known n → LeadsTo start known n file number at
way_begins start known n file number at number_is at_is = record {
  front = [];
  split = ap (λ (k : ℕ). drop k file) (sym at_is);
  lengths = λ k d lt. absurd (omega arith);
  offset = omega (arith, at_is);
  count = omega (arith, number_is);
  inside = omega (arith, number_is, min-le_left n (length known - 1));
}

-- it leads on over a whole record
pub way_on : (start : ℕ) (known : List ℕ) (n : ℕ) (file : List ℕ) (number at size : ℕ) → LeadsTo start known n file number at → number < n → IsSizeAt (drop at file) size → LeadsTo start known n file (number + 1) (at + (5 + size))
way_on start known n file number at size way turn here =
    let body = take size (drop 5 (drop at file)) in
    let whole : drop at file ≡ 1 ∷ behind_gate body ++ drop (at + (5 + size)) file = here.head.0 ∙ ap (λ (l : List ℕ). 1 ∷ behind_gate body ++ l) (drop-drop (5 + size) at file) in
    let pushed = rows-push way.front body in
    record {
      front = way.front ++ body ∷ [];
      split = way.split ∙ ap (λ (l : List ℕ). rows way.front ++ l) whole ∙ sym (append_assoc (rows way.front) (1 ∷ behind_gate body) (drop (at + (5 + size)) file)) ∙ ap (λ (l : List ℕ). l ++ drop (at + (5 + size)) file) (sym pushed);
      lengths = All-push IsRecordLength way.front body way.lengths (omega (arith, here.fits, here.head.1));
      offset = omega (arith, way.offset, ap length pushed, length-append (rows way.front) (1 ∷ behind_gate body), here.head.1);
      count = omega (arith, way.count, length-append way.front (body ∷ []));
      inside = omega (arith, turn);
    }

module _ {D : Type 0} (m : DiskModel D) (old : D) (start : ℕ) (known : List ℕ) (n : ℕ) where
  -- the way leads one record further
  pub way_further : (mid new : D) (window : Window) (at number size : ℕ) → Finding m start known n old mid window at number → number < n → (Tells m mid → IsSizeAt (drop at (m.seen mid)) size) → Tells m old → LeadsTo start known n (m.seen old) (number + 1) (at + (5 + size))
  way_further mid new window at number size way turn read tells =
      way_on start known n (m.seen old) number at size (way.way tells) turn (subst (λ (s : List ℕ). IsSizeAt (drop at s) size) (way.untouched.seen tells) (read (way.untouched.kept.tells ∙ tells)))

  -- one record further on the way
  pub one_further : (mid new : D) (window : Window) (at number size : ℕ) → Finding m start known n old mid window at number → number < n → (Tells m mid → IsSizeAt (drop at (m.seen mid)) size)
      → (all : List (List ℕ)) → HoldsRows m old start all → AreOffsets start all known → n < length all → at + (5 + size) ≡ start + length (rows (take (number + 1) all))
  one_further mid new window at number size way turn read all held offsets inside =
      let here : IsSizeAt (drop at (m.seen old)) size = subst (λ (s : List ℕ). IsSizeAt (drop at s) size) (way.untouched.seen held.tells) (read (way.untouched.kept.tells ∙ held.tells)) in
      next_offset all (m.seen old) start at number held.file held.lengths (omega (arith, turn, inside)) (way.so_far all held offsets inside) size here

  pub not_found : (mid new : D) (window : Window) (at number : ℕ) (e : OpenError) → Finding m start known n old mid window at number → number < n → SizeRefused m mid new at e → FindRefused m old new start known n e
  not_found mid new window at number Disk way turn refused = let earlier : m.faults old ≤ m.faults mid = way.untouched.kept.faults in grind arith
  not_found mid new window at number Memory way turn refused = tt
  not_found mid new window at number (Damaged offset) way turn refused =
      let seen : Tells m old → IsNoRecord (drop at (m.seen old)) = λ tells. subst (λ (s : List ℕ). IsNoRecord (drop at s)) (way.untouched.seen tells) (refused.1 (way.untouched.kept.tells ∙ tells)) in (
        λ tells. subst (StopsAt start known n (m.seen old)) (sym refused.0) (record { number = number; way = way.way tells; none = seen tells }),
        λ all held offsets inside. none all (m.seen old) start at number held.file held.lengths (omega (arith, turn, inside)) (way.so_far all held offsets inside) (seen held.tells),
      )

-- A journal on a disk, and the offset that was found for one of its records.
module _ {D : Type 0} (m : DiskModel D) (old mid : D) (journal : Journal) (known : List ℕ) (n : ℕ) (kept : known ≡ journal.offsets.items) (inside : n < journal.count) where
  there : (magic : List ℕ) (bodies : List (List ℕ)) → IsOpenOn m magic journal old bodies → n < length bodies
  there magic bodies on = omega (arith, inside, on.count)

  pub find_refused : (e : OpenError) → FindRefused m old mid journal.start known n e → ReadRefused m old mid journal (open_in_read e)
  find_refused Disk refused = refused
  find_refused Memory refused = tt
  find_refused (Damaged offset) refused = λ tells magic bodies on. refused.1 bodies (holds_rows m magic journal old bodies on) (subst (AreOffsets journal.start bodies) (sym kept) on.offsets) (there magic bodies on)

  pub find_damaged : (e : OpenError) → FindRefused m old mid journal.start known n e → IsNoRecordAt m old journal n (open_in_read e)
  find_damaged Disk refused = tt
  find_damaged Memory refused = tt
  find_damaged (Damaged offset) refused = λ tells. subst (λ (l : List ℕ). StopsAt journal.start l n (m.seen old) offset) kept (refused.0 tells)

  module _ (at : ℕ) (found : (all : List (List ℕ)) → HoldsRows m old journal.start all → AreOffsets journal.start all known → n < length all → at ≡ journal.start + length (rows (take n all)))
      (way : Tells m old → LeadsTo journal.start known n (m.seen old) n at) where
    stands_at : (magic : List ℕ) (bodies : List (List ℕ)) → IsOpenOn m magic journal old bodies → at ≡ journal.start + length (rows (take n bodies))
    stands_at magic bodies on = found bodies (holds_rows m magic journal old bodies on) (subst (AreOffsets journal.start bodies) (sym kept) on.offsets) (there magic bodies on)

    pub size_refused : (new : D) (e : OpenError) → Untouched m old mid → SizeRefused m mid new at e → ReadRefused m old new journal (open_in_read e)
    size_refused new Disk untouched refused = let earlier : m.faults old ≤ m.faults mid = untouched.kept.faults in grind arith
    size_refused new Memory untouched refused = tt
    size_refused new (Damaged offset) untouched refused = λ tells magic bodies on.
        let held = holds_rows m magic journal old bodies on in
        none bodies (m.seen old) journal.start at n held.file held.lengths (there magic bodies on) (stands_at magic bodies on)
        (subst (λ (s : List ℕ). IsNoRecord (drop at s)) (untouched.seen tells) (refused.1 (untouched.kept.tells ∙ tells)))

    known_way : Tells m old → LeadsTo journal.start journal.offsets.items n (m.seen old) n at
    known_way tells = subst (λ (l : List ℕ). LeadsTo journal.start l n (m.seen old) n at) kept (way tells)

    pub size_damaged : (new : D) (e : OpenError) → Untouched m old mid → SizeRefused m mid new at e → IsNoRecordAt m old journal n (open_in_read e)
    size_damaged new Disk untouched refused = tt
    size_damaged new Memory untouched refused = tt
    size_damaged new (Damaged offset) untouched refused = λ tells. subst (StopsAt journal.start journal.offsets.items n (m.seen old)) (sym refused.0) (record {
      number = n;
      way = known_way tells;
      none = subst (λ (s : List ℕ). IsNoRecord (drop at s)) (untouched.seen tells) (refused.1 (untouched.kept.tells ∙ tells));
    })

    module _ (span : Span) (at_is : span.at ≡ at) (one : Untouched m old mid) (sized : Tells m mid → IsSizeAt (drop at (m.seen mid)) span.size) where
      pub stands_there : Tells m old → HasRecordAt journal (m.seen old) n span.at span.size
      stands_there tells = subst (λ (k : ℕ). HasRecordAt journal (m.seen old) n k span.size) (sym at_is) (record {
        way = known_way tells;
        here = subst (λ (s : List ℕ). IsSizeAt (drop at s) span.size) (one.seen tells) (sized (one.kept.tells ∙ tells));
      })

      pub span_is : (magic : List ℕ) (bodies : List (List ℕ)) → IsOpenOn m magic journal old bodies → IsSpanOf journal.start bodies n span
      span_is magic bodies on =
          let here = at_is ∙ stands_at magic bodies on in
          record { offset = here; size = size_is bodies (m.seen old) journal.start span.at n on.rest.file on.rest.lengths (there magic bodies on) here span.size (stands_there on.rest.tells).here }

-- What is read where the record was looked up.
module _ {D : Type 0} (m : DiskModel D) (old mid : D) (journal : Journal) (n : ℕ) (inside : n < journal.count) (span : Span) (one : Untouched m old mid)
    (found : (magic : List ℕ) (bodies : List (List ℕ)) → IsOpenOn m magic journal old bodies → IsSpanOf journal.start bodies n span) (stands : Tells m old → HasRecordAt journal (m.seen old) n span.at span.size)
    (magic : List ℕ) (bodies : List (List ℕ)) (on : IsOpenOn m magic journal old bodies) where
  pub offset_is : span.at ≡ offset_in magic (m.seen old) bodies n
  offset_is = (found magic bodies on).offset ∙ sym (open_offset m magic journal old bodies n on)

  pub body_read : (body : List ℕ) → (Tells m mid → body ≡ take span.size (drop (span.at + 5) (m.seen mid))) → body ≡ slice_index_or bodies n []
  body_read body read =
      read (one.kept.tells ∙ on.rest.tells)
      ∙ ap (λ (s : List ℕ). take span.size (drop (span.at + 5) s)) (one.seen on.rest.tells)
      ∙ body_is bodies (m.seen old) journal.start span.at n on.rest.file on.rest.lengths (omega (arith, inside, on.count)) (found magic bodies on).offset span.size (stands on.rest.tells).here

  pub part_read : (from len : ℕ) (part : List ℕ) → from + len ≤ span.size → (Tells m mid → part ≡ take len (drop (span.at + 5 + from) (m.seen mid))) → part ≡ take len (drop from (slice_index_or bodies n []))
  part_read from len part le read =
      read (one.kept.tells ∙ on.rest.tells)
      ∙ ap (λ (s : List ℕ). take len (drop (span.at + 5 + from) s)) (one.seen on.rest.tells)
      ∙ part_is bodies (m.seen old) journal.start span.at n on.rest.file on.rest.lengths (omega (arith, inside, on.count)) (found magic bodies on).offset span.size from len (stands on.rest.tells).here le

-- a part is refused where its record is
pub part_refused : {D : Type 0} (m : DiskModel D) (before after : D) (journal : Journal) (n from len : ℕ) (e : ReadError) → ReadRefused m before after journal e → PartRefused m before after journal n from len e
part_refused m before after journal n from len reads.Disk refused = refused
part_refused m before after journal n from len reads.Memory refused = refused
part_refused m before after journal n from len (reads.Damaged offset) refused = λ tells magic bodies on inside. refused tells magic bodies on
part_refused m before after journal n from len reads.Closed refused = refused

pub part_damaged : {D : Type 0} (m : DiskModel D) (disk : D) (journal : Journal) (n from len : ℕ) (e : ReadError) → IsNoRecordAt m disk journal n e → IsNoPartAt m disk journal n from len e
part_damaged m disk journal n from len reads.Disk none = tt
part_damaged m disk journal n from len reads.Memory none = tt
part_damaged m disk journal n from len (reads.Damaged offset) none = λ tells. inl (none tells)
part_damaged m disk journal n from len reads.Closed none = tt

-- what is read stands there, whether or not the journal is open on the disk
pub body_there : {D : Type 0} (m : DiskModel D) (old mid : D) (journal : Journal) (n : ℕ) (span : Span) (body : List ℕ) → Untouched m old mid → (Tells m old → HasRecordAt journal (m.seen old) n span.at span.size) → length body ≡ span.size
    → (Tells m mid → body ≡ take span.size (drop (span.at + 5) (m.seen mid))) → Tells m old → HasBody journal (m.seen old) n body
body_there m old mid journal n span body one stands long read tells = record {
  at = span.at;
  stands = subst (HasRecordAt journal (m.seen old) n span.at) (sym long) (stands tells);
  is = read (one.kept.tells ∙ tells) ∙ ap (λ (s : List ℕ). take span.size (drop (span.at + 5) s)) (one.seen tells) ∙ ap (λ (k : ℕ). take k (drop (span.at + 5) (m.seen old))) (sym long);
}

pub part_there : {D : Type 0} (m : DiskModel D) (old mid : D) (journal : Journal) (n from len : ℕ) (span : Span) (part : List ℕ) → Untouched m old mid → (Tells m old → HasRecordAt journal (m.seen old) n span.at span.size) → from + len ≤ span.size
    → length part ≡ len → (Tells m mid → part ≡ take len (drop (span.at + 5 + from) (m.seen mid))) → Tells m old → HasPart journal (m.seen old) n from part
part_there m old mid journal n from len span part one stands le long read tells = record {
  at = span.at;
  size = span.size;
  stands = stands tells;
  inside = omega (arith, long, le);
  is = read (one.kept.tells ∙ tells) ∙ ap (λ (s : List ℕ). take len (drop (span.at + 5 + from) s)) (one.seen tells) ∙ ap (λ (k : ℕ). take k (drop (span.at + 5 + from) (m.seen old))) (sym long);
}
