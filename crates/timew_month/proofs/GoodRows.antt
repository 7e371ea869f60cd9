-- What is read of a line is an interval.
use Rattle.std.specs.Prelude.{nat_lt, not, IfSome, fold}
use Rattle.std.proofs.Common.{◌≡◌, ℕ, ◌<◌, Bool, true, false, cond, ◌&&◌, ◌||◌, ◌==◌, List, [], ◌∷◌, ◌++◌, length, Option, Some, None, refl, ap, subst}
use Rattle.std.proofs.lemmas.Bool.{leb-true}
use Rattle.std.specs.Str.{is_utf8}
use Rattle.tw_world.specs.Folder.{add_name as add_tag}
use Rattle.timew_interval.specs.declared.interval.Interval.{Interval}
use Rattle.timew_month.specs.declared.read.reader.Mode.{Mode}
use Rattle.timew_month.specs.declared.read.reader.Mode.TheVariants.{Ahead, Bare, Quoted, Escaped, Closed, Sign, Noted, Plain, Quote, Backslash, Done, Failed}
use Rattle.timew_interval.specs.Interval.{IsRow, IsEnd, limit, is_printable, is_tag}
use Rattle.timew_interval.specs.Line.{is_special, is_escaped}
use Rattle.timew_month.specs.Tail.{Reading, start, in_mode, with_byte, with_tag, with_last, with_note, failed, moved, stepped, ended, ended_in, marked, tail_of}
use Rattle.timew_month.specs.Body.{◌>>=◌}
use Rattle.timew_month.specs.Line.{is_end, row_with}
use Rattle.timew_interval.proofs.Tests.{both_true}
use Rattle.timew_interval.proofs.InOrder.{AreTags, parts, tags_added}

-- ---- what a reader holds

-- the text so far, which has a byte in a tag without quotes
abbrev pub HasText : Mode → List ℕ → Type 0
HasText Bare text = is_tag text ≡ true
HasText _ text = is_printable text ≡ true

pub record IsGood (r : Reading) : Type 0 where
  pub text : HasText r.mode r.text
  pub printable : is_printable r.text ≡ true
  pub tags : AreTags r.tags

cond_good : (c : Bool) (x y : Reading) → (c ≡ true → IsGood x) → IsGood y → IsGood (cond c x y)
cond_good true x y f g = f refl
cond_good false x y f g = g

-- a mode that asks nothing of the text
abbrev AsksNothing : Mode → Type 0
AsksNothing mode = (text : List ℕ) → is_printable text ≡ true → HasText mode text

in_mode_good : (mode : Mode) (r : Reading) → AsksNothing mode → IsGood r → IsGood (in_mode mode r)
in_mode_good mode r none good = record { text = none r.text good.printable; printable = good.printable; tags = good.tags }

failed_good : (r : Reading) → IsGood r → IsGood (failed r)
failed_good r good = in_mode_good Failed r (λ text print. print) good

printable_push : (x : List ℕ) (b : ℕ) → is_printable x ≡ true → not (nat_lt b 32 || (b == 127)) ≡ true → is_printable (x ++ b ∷ []) ≡ true
printable_push [] b print byte = both_true _ true byte refl
printable_push (c ∷ x) b print byte = both_true _ _ (parts _ _ print).0 (printable_push x b (parts _ _ print).1 byte)

tag_push : (x : List ℕ) (b : ℕ) → is_printable (x ++ b ∷ []) ≡ true → is_tag (x ++ b ∷ []) ≡ true
tag_push [] b print = print
tag_push (c ∷ x) b print = print

tag_long : (x : List ℕ) → is_printable x ≡ true → (length x == 0) ≡ false → is_tag x ≡ true
tag_long [] print none = absurd (cc)
tag_long (b ∷ x) print none = print

bare_good : (r : Reading) (b : ℕ) → not (nat_lt b 32 || (b == 127)) ≡ true → IsGood r → IsGood (with_byte Bare b r)
bare_good r b byte good = let p = printable_push r.text b good.printable byte in record { text = tag_push r.text b p; printable = p; tags = good.tags }

byte_good : (mode : Mode) (r : Reading) (b : ℕ) → AsksNothing mode → not (nat_lt b 32 || (b == 127)) ≡ true → IsGood r → IsGood (with_byte mode b r)
byte_good mode r b none byte good = let p = printable_push r.text b good.printable byte in record { text = none _ p; printable = p; tags = good.tags }

tag_good : (r : Reading) → is_tag r.text ≡ true → IsGood r → IsGood (with_tag r)
tag_good r is good = cond_good (is_utf8 r.text) (record { mode = Ahead; text = []; tags = add_tag r.text r.tags }) (failed r)
    (λ u. record { text = refl; printable = refl; tags = tags_added r.text r.tags is good.tags }) (failed_good r good)

moved_good : (mode : Mode) (r : Reading) (b : ℕ) → r.mode ≡ mode → not (nat_lt b 32 || (b == 127)) ≡ true → IsGood r → IsGood (moved mode b r)
moved_good Ahead r b is byte good = cond_good (b == 34) _ _ (λ c. in_mode_good Quoted r (λ t p. p) good) (cond_good (b == 35) _ _ (λ c. in_mode_good Sign r (λ t p. p) good) (cond_good (is_special b) _ _ (λ c. failed_good r good) (bare_good r b byte good)))
moved_good Bare r b is byte good = cond_good (b == 32) _ _ (λ c. tag_good r (subst (λ m. HasText m r.text) is good.text) good) (cond_good (is_special b) _ _ (λ c. failed_good r good) (bare_good r b byte good))
moved_good Quoted r b is byte good = cond_good (b == 34) _ _ (λ c. in_mode_good Closed r (λ t p. p) good) (cond_good (b == 92) _ _ (λ c. in_mode_good Escaped r (λ t p. p) good) (byte_good Quoted r b (λ t p. p) byte good))
moved_good Escaped r b is byte good = cond_good (is_escaped b) _ _ (λ c. byte_good Quoted r b (λ t p. p) byte good) (failed_good r good)
moved_good Closed r b is byte good = cond_good ((b == 32) && not (length r.text == 0)) _ _ (λ c. tag_good r (tag_long r.text good.printable (not_so _ (parts _ _ c).1)) good) (failed_good r good)
  where
    not_so : (x : Bool) → not x ≡ true → x ≡ false
    not_so true e = absurd (cc)
    not_so false e = refl
moved_good Sign r b is byte good = cond_good (b == 32) _ _ (λ c. in_mode_good Noted r (λ t p. p) good) (failed_good r good)
moved_good Noted r b is byte good = cond_good (b == 34) _ _ (λ c. in_mode_good Quote r (λ t p. p) good) (byte_good Plain r b (λ t p. p) byte good)
moved_good Plain r b is byte good = byte_good Plain r b (λ t p. p) byte good
moved_good Quote r b is byte good = cond_good (b == 34) _ _ (λ c. in_mode_good Done r (λ t p. p) good) (cond_good (b == 92) _ _ (λ c. in_mode_good Backslash r (λ t p. p) good) (byte_good Quote r b (λ t p. p) byte good))
moved_good Backslash r b is byte good = cond_good (is_escaped b) _ _ (λ c. byte_good Quote r b (λ t p. p) byte good) (failed_good r good)
moved_good Done r b is byte good = failed_good r good
moved_good Failed r b is byte good = good

stepped_good : (r : Reading) (b : ℕ) → IsGood r → IsGood (stepped r b)
stepped_good r b good = by_case (nat_lt b 32 || (b == 127)) refl
  where
    by_case : (c : Bool) → (nat_lt b 32 || (b == 127)) ≡ c → IsGood (cond c (failed r) (moved r.mode b r))
    by_case true is = failed_good r good
    by_case false is = moved_good r.mode r b refl (ap not is) good

run_good : (bytes : List ℕ) (r : Reading) → IsGood r → IsGood (fold stepped r bytes)
run_good [] r good = good
run_good (b ∷ bytes) r good = run_good bytes (stepped r b) (stepped_good r b good)

-- ---- what is read

pub record AreRead (tags : List (List ℕ)) (note : List ℕ) : Type 0 where
  pub tags_are : AreTags tags
  pub note_is : is_printable note ≡ true

abbrev IfRead : Option (List (List ℕ) × List ℕ) → Type 0
IfRead None = Unit {0}
IfRead (Some read) = AreRead read.0 read.1

last_read : (r : Reading) → is_tag r.text ≡ true → IsGood r → IfRead (with_last r)
last_read r is good = by_case (is_utf8 r.text)
  where
    by_case : (u : Bool) → IfRead (cond u (Some (add_tag r.text r.tags, [])) None)
    by_case true = record { tags_are = tags_added r.text r.tags is good.tags; note_is = refl }
    by_case false = tt

note_read : (r : Reading) → IsGood r → IfRead (with_note r)
note_read r good = by_case (is_utf8 r.text)
  where
    by_case : (u : Bool) → IfRead (cond u (Some (r.tags, r.text)) None)
    by_case true = record { tags_are = good.tags; note_is = good.printable }
    by_case false = tt

ended_good : (mode : Mode) (r : Reading) → r.mode ≡ mode → IsGood r → IfRead (ended_in mode r)
ended_good Ahead r is good = tt
ended_good Bare r is good = last_read r (subst (λ m. HasText m r.text) is good.text) good
ended_good Quoted r is good = tt
ended_good Escaped r is good = tt
ended_good Closed r is good = by_case (length r.text == 0) refl
  where
    by_case : (e : Bool) → (length r.text == 0) ≡ e → IfRead (cond e None (with_last r))
    by_case true e = tt
    by_case false e = last_read r (tag_long r.text good.printable e) good
ended_good Sign r is good = tt
ended_good Noted r is good = tt
ended_good Plain r is good = note_read r good
ended_good Quote r is good = tt
ended_good Backslash r is good = tt
ended_good Done r is good = note_read r good
ended_good Failed r is good = tt

tail_good : (bytes : List ℕ) → IfRead (tail_of bytes)
unfolding marked
tail_good [] = record { tags_are = (refl, refl); note_is = refl }
tail_good (a ∷ []) = tt
tail_good (a ∷ b ∷ []) = tt
tail_good (a ∷ b ∷ c ∷ rest) = by_case ((a == 32) && (b == 35) && (c == 32))
  where
    good : IfRead (ended (fold stepped start rest))
    good = let last = fold stepped start rest in ended_good last.mode last refl (run_good rest start (record { text = refl; printable = refl; tags = (refl, refl) }))

    by_case : (e : Bool) → IfRead (cond e (ended (fold stepped start rest)) None)
    by_case true = good
    by_case false = tt

end_is : (start : ℕ) (end : Option ℕ) → is_end start end ≡ true → IfSome end (λ e. e < limit) → IsEnd start end
end_is from None is small = tt
end_is from (Some e) is small = (leb-true from e is, small)

-- the interval of a line, with moments in range
pub row_good : (start : ℕ) (end : Option ℕ) (bytes : List ℕ) → start < limit → IfSome end (λ e. e < limit) → IfSome (row_with start end bytes) IsRow
row_good start end bytes small range = by_tail (tail_of bytes) (tail_good bytes)
  where
    by_end : (e : Bool) (tags : List (List ℕ)) (note : List ℕ) → is_end start end ≡ e → AreRead tags note → IfSome (cond e (Some (record { start = start; end = end; tags = tags; annotation = note })) None) IsRow
    by_end true tags note is read = record { start = small; end = end_is start end is range; tags = read.tags_are.0; rise = read.tags_are.1; annotation = read.note_is }
    by_end false tags note is read = tt

    by_tail : (o : Option (List (List ℕ) × List ℕ)) → IfRead o → IfSome (o >>= λ tail. cond (is_end start end) (Some (record { start = start; end = end; tags = tail.0; annotation = tail.1 })) None) IsRow
    by_tail None read = tt
    by_tail (Some tail) read = by_end (is_end start end) tail.0 tail.1 refl read

pub row_is : (start : ℕ) (end : Option ℕ) (bytes : List ℕ) (tags : List (List ℕ)) (note : List ℕ) → start < limit → IfSome end (λ e. e < limit) → tail_of bytes ≡ Some (tags, note) → is_end start end ≡ true → (let r : Interval = record { start = start; end = end; tags = tags; annotation = note } in IsRow r)
row_is start end bytes tags note small range read is =
    let are : AreRead tags note = subst IfRead read (tail_good bytes) in
    record { start = small; end = end_is start end is range; tags = are.tags_are.0; rise = are.tags_are.1; annotation = are.note_is }
