-- What is read of a line after ` # ` is spelled by its bytes.
use Rattle.std.specs.Prelude.{fold, not}
use Rattle.std.proofs.Common.{◌≡◌, ◌⊎◌, inl, inr, ℕ, Bool, true, false, cond, ◌&&◌, ◌==◌, List, [], ◌∷◌, ◌++◌, length, Option, Some, None, refl, sym, ap, subst, ◌∙◌, append_assoc}
use Rattle.std.proofs.lemmas.List.{append-nil}
use Rattle.std.proofs.lemmas.List.Concat.{flat_map-append}
use Rattle.std.proofs.lemmas.List.Sums.{fold-append}
use Rattle.std.specs.List.{list_any, AllByRecursion}
use Rattle.std.specs.Str.{is_utf8}
use Rattle.tw_world.specs.Folder.{add_name as add_tag}
use Rattle.timew_month.specs.declared.read.reader.Mode.{Mode}
use Rattle.timew_month.specs.declared.read.reader.Mode.TheVariants.{Ahead, Bare, Quoted, Escaped, Closed, Sign, Noted, Plain, Quote, Backslash, Done, Failed}
use Rattle.timew_interval.specs.Interval.{is_printable, is_tag}
use Rattle.timew_interval.specs.Line.{is_special, is_escaped, escaped, quoted}
use Rattle.timew_month.specs.Spelled.{Piece, piece_bytes, text_of, IsTag, begins_plain, spaced, tags_of, Spell}
use Rattle.timew_month.specs.Spelled.Piece.{AsIs, InQuotes}
use Rattle.timew_month.specs.Spelled.Last.{OneMore, Note}
use Rattle.timew_month.specs.Tail.{Reading, start, with_last, moved, stepped, ended, ended_in, marked}
use Rattle.timew_interval.proofs.Tests.{both}
use Rattle.timew_month.proofs.TailReadBack.{pushed}
use Rattle.timew_month.proofs.LongerTexts.{is_control, one_more, print_push, tag_printed, tag_push, some_tag, special_push, begins_push, as_it_is, after_backslash, none_of}

-- ---- what a reading has come to

-- what was read after the tags that have ended
abbrev front_of : Mode → List ℕ → List ℕ
front_of Ahead text = []
front_of Bare text = text
front_of Quoted text = 34 ∷ escaped text
front_of Escaped text = 34 ∷ (escaped text ++ 92 ∷ [])
front_of Closed text = quoted text
front_of Sign text = 35 ∷ []
front_of Noted text = 35 ∷ 32 ∷ []
front_of Plain text = 35 ∷ 32 ∷ text
front_of Quote text = 35 ∷ 32 ∷ 34 ∷ escaped text
front_of Backslash text = 35 ∷ 32 ∷ 34 ∷ (escaped text ++ 92 ∷ [])
front_of Done text = 35 ∷ 32 ∷ quoted text
front_of Failed text = []

abbrev IsText : Mode → List ℕ → Type 0
IsText Ahead text = text ≡ []
IsText Bare text = (is_tag text ≡ true) × (list_any is_special text ≡ false)
IsText Quoted text = is_printable text ≡ true
IsText Escaped text = is_printable text ≡ true
IsText Closed text = is_printable text ≡ true
IsText Sign text = text ≡ []
IsText Noted text = text ≡ []
IsText Plain text = (begins_plain text ≡ true) × (is_printable text ≡ true)
IsText Quote text = is_printable text ≡ true
IsText Backslash text = is_printable text ≡ true
IsText Done text = is_printable text ≡ true
IsText Failed text = ⊥

record At (bytes : List ℕ) (m : Mode) (text : List ℕ) (tags : List (List ℕ)) : Type 0 where
  pub pieces : List Piece
  pub read : bytes ≡ spaced pieces ++ front_of m text
  pub are : AllByRecursion IsTag pieces
  pub is : IsText m text
  pub had : tags ≡ tags_of pieces

abbrev IsAt : List ℕ → Reading → Type 0
IsAt bytes r = (r.mode ≡ Failed) ⊎ At bytes r.mode r.text r.tags

pick : (bytes : List ℕ) (c : Bool) (x y : Reading) → (c ≡ true → IsAt bytes x) → (c ≡ false → IsAt bytes y) → IsAt bytes (cond c x y)
pick bytes true x y f g = f refl
pick bytes false x y f g = g refl

-- one byte more of what has not ended
grown : (bytes : List ℕ) (b : ℕ) (m n : Mode) (x y : List ℕ) (tags : List (List ℕ)) → At bytes m x tags → IsText n y → front_of m x ++ b ∷ [] ≡ front_of n y → At (bytes ++ b ∷ []) n y tags
grown bytes b m n x y tags a is front = record {
  pieces = a.pieces;
  read = ap (λ (l : List ℕ). l ++ b ∷ []) a.read ∙ append_assoc (spaced a.pieces) (front_of m x) (b ∷ []) ∙ ap (λ (l : List ℕ). spaced a.pieces ++ l) front;
  are = a.are;
  is = is;
  had = a.had;
}

all_push : (ps : List Piece) (p : Piece) → AllByRecursion IsTag ps → IsTag p → AllByRecursion IsTag (ps ++ p ∷ [])
all_push [] p all is = (is, tt)
all_push (q ∷ ps) p all is = (all.0, all_push ps p all.1 is)

spaced_push : (ps : List Piece) (p : Piece) → spaced (ps ++ p ∷ []) ≡ spaced ps ++ (piece_bytes p ++ 32 ∷ [])
spaced_push ps p = flat_map-append (λ (p : Piece). piece_bytes p ++ 32 ∷ []) ps (p ∷ []) ∙ ap (λ (l : List ℕ). spaced ps ++ l) (append-nil (piece_bytes p ++ 32 ∷ []))

pub tags_push : (ps : List Piece) (p : Piece) → tags_of (ps ++ p ∷ []) ≡ add_tag (text_of p) (tags_of ps)
tags_push ps p = fold-append (λ (had : List (List ℕ)) (p : Piece). add_tag (text_of p) had) [] ps (p ∷ [])

-- a space after a tag
tag_over : (bytes : List ℕ) (b : ℕ) (m : Mode) (x : List ℕ) (tags : List (List ℕ)) (p : Piece) → At bytes m x tags → (b == 32) ≡ true → IsTag p → text_of p ≡ x → front_of m x ≡ piece_bytes p
    → At (bytes ++ b ∷ []) Ahead [] (add_tag x tags)
tag_over bytes b m x tags p a space is text front = record {
  pieces = a.pieces ++ p ∷ [];
  read = ap (λ (l : List ℕ). l ++ b ∷ []) a.read ∙ append_assoc (spaced a.pieces) (front_of m x) (b ∷ [])
      ∙ ap (λ (l : List ℕ). spaced a.pieces ++ (l ++ b ∷ [])) front ∙ ap (λ (l : List ℕ). spaced a.pieces ++ (piece_bytes p ++ l)) (one_more b 32 space)
      ∙ sym (spaced_push a.pieces p) ∙ sym (append-nil (spaced (a.pieces ++ p ∷ [])));
  are = all_push a.pieces p a.are is;
  is = refl;
  had = ap (λ (l : List (List ℕ)). add_tag x l) a.had ∙ ap (λ (l : List ℕ). add_tag l (tags_of a.pieces)) (sym text) ∙ sym (tags_push a.pieces p);
}

-- ---- one byte

at_ahead : (bytes : List ℕ) (b : ℕ) (r : Reading) → At bytes Ahead r.text r.tags → is_control b ≡ false → IsAt (bytes ++ b ∷ []) (moved Ahead b r)
at_ahead bytes b r a print =
    pick _ (b == 34) _ _ (λ is. inr (grown bytes b Ahead Quoted r.text r.text r.tags a (ap is_printable a.is) (one_more b 34 is ∙ ap (λ (l : List ℕ). 34 ∷ escaped l) (sym a.is))))
    (λ _. pick _ (b == 35) _ _ (λ is. inr (grown bytes b Ahead Sign r.text r.text r.tags a a.is (one_more b 35 is)))
    (λ _. pick _ (is_special b) _ _ (λ _. inl refl)
    (λ none. inr (grown bytes b Ahead Bare r.text (r.text ++ b ∷ []) r.tags a (tag_push r.text b (ap is_printable a.is) print, special_push r.text b (ap (list_any is_special) a.is) none) (ap (λ (l : List ℕ). l ++ b ∷ []) (sym a.is))))))

at_bare : (bytes : List ℕ) (b : ℕ) (r : Reading) → At bytes Bare r.text r.tags → is_control b ≡ false → IsAt (bytes ++ b ∷ []) (moved Bare b r)
at_bare bytes b r a print =
    pick _ (b == 32) _ _
    (λ space. pick _ (is_utf8 r.text) _ _ (λ utf8. inr (tag_over bytes b Bare r.text r.tags (AsIs r.text) a space ((a.is.0, utf8), a.is.1) refl refl)) (λ _. inl refl))
    (λ _. pick _ (is_special b) _ _ (λ _. inl refl)
    (λ none. inr (grown bytes b Bare Bare r.text (r.text ++ b ∷ []) r.tags a (tag_push r.text b (tag_printed r.text a.is.0) print, special_push r.text b a.is.1 none) refl)))

no_escape : (b : ℕ) → (b == 34) ≡ false → (b == 92) ≡ false → is_escaped b ≡ false
no_escape b one other = none_of (b == 34) (b == 92) one other

at_quoted : (bytes : List ℕ) (b : ℕ) (r : Reading) → At bytes Quoted r.text r.tags → is_control b ≡ false → IsAt (bytes ++ b ∷ []) (moved Quoted b r)
at_quoted bytes b r a print =
    pick _ (b == 34) _ _ (λ is. inr (grown bytes b Quoted Closed r.text r.text r.tags a a.is (ap (λ (l : List ℕ). 34 ∷ (escaped r.text ++ l)) (one_more b 34 is))))
    (λ one. pick _ (b == 92) _ _ (λ is. inr (grown bytes b Quoted Escaped r.text r.text r.tags a a.is (ap (λ (l : List ℕ). 34 ∷ (escaped r.text ++ l)) (one_more b 92 is))))
    (λ other. inr (grown bytes b Quoted Quoted r.text (r.text ++ b ∷ []) r.tags a (print_push r.text b a.is print) (ap (λ (l : List ℕ). 34 ∷ l) (as_it_is r.text b (no_escape b one other))))))

at_escaped : (bytes : List ℕ) (b : ℕ) (r : Reading) → At bytes Escaped r.text r.tags → is_control b ≡ false → IsAt (bytes ++ b ∷ []) (moved Escaped b r)
at_escaped bytes b r a print =
    pick _ (is_escaped b) _ _ (λ is. inr (grown bytes b Escaped Quoted r.text (r.text ++ b ∷ []) r.tags a (print_push r.text b a.is print) (ap (λ (l : List ℕ). 34 ∷ l) (after_backslash r.text b is))))
    (λ _. inl refl)

pub not_true : (c : Bool) → not c ≡ true → c ≡ false
not_true true is = absurd (cc)
not_true false is = refl

at_closed : (bytes : List ℕ) (b : ℕ) (r : Reading) → At bytes Closed r.text r.tags → is_control b ≡ false → IsAt (bytes ++ b ∷ []) (moved Closed b r)
at_closed bytes b r a print =
    pick _ ((b == 32) && not (length r.text == 0)) _ _
    (λ is. let over = both (b == 32) (not (length r.text == 0)) is in
    pick _ (is_utf8 r.text) _ _ (λ utf8. inr (tag_over bytes b Closed r.text r.tags (InQuotes r.text) a over.0 (some_tag r.text a.is (not_true (length r.text == 0) over.1), utf8) refl refl)) (λ _. inl refl))
    (λ _. inl refl)

at_sign : (bytes : List ℕ) (b : ℕ) (r : Reading) → At bytes Sign r.text r.tags → IsAt (bytes ++ b ∷ []) (moved Sign b r)
at_sign bytes b r a = pick _ (b == 32) _ _ (λ is. inr (grown bytes b Sign Noted r.text r.text r.tags a a.is (ap (λ (l : List ℕ). 35 ∷ l) (one_more b 32 is)))) (λ _. inl refl)

at_noted : (bytes : List ℕ) (b : ℕ) (r : Reading) → At bytes Noted r.text r.tags → is_control b ≡ false → IsAt (bytes ++ b ∷ []) (moved Noted b r)
at_noted bytes b r a print =
    pick _ (b == 34) _ _
    (λ is. inr (grown bytes b Noted Quote r.text r.text r.tags a (ap is_printable a.is) (ap (λ (l : List ℕ). 35 ∷ 32 ∷ l) (one_more b 34 is) ∙ ap (λ (l : List ℕ). 35 ∷ 32 ∷ 34 ∷ escaped l) (sym a.is))))
    (λ no. inr (grown bytes b Noted Plain r.text (r.text ++ b ∷ []) r.tags a
    (ap (λ (l : List ℕ). begins_plain (l ++ b ∷ [])) a.is ∙ ap not no, print_push r.text b (ap is_printable a.is) print)
    (ap (λ (l : List ℕ). 35 ∷ 32 ∷ (l ++ b ∷ [])) (sym a.is))))

at_plain : (bytes : List ℕ) (b : ℕ) (r : Reading) → At bytes Plain r.text r.tags → is_control b ≡ false → IsAt (bytes ++ b ∷ []) (moved Plain b r)
at_plain bytes b r a print = inr (grown bytes b Plain Plain r.text (r.text ++ b ∷ []) r.tags a (begins_push r.text b a.is.0, print_push r.text b a.is.1 print) refl)

at_quote : (bytes : List ℕ) (b : ℕ) (r : Reading) → At bytes Quote r.text r.tags → is_control b ≡ false → IsAt (bytes ++ b ∷ []) (moved Quote b r)
at_quote bytes b r a print =
    pick _ (b == 34) _ _ (λ is. inr (grown bytes b Quote Done r.text r.text r.tags a a.is (ap (λ (l : List ℕ). 35 ∷ 32 ∷ 34 ∷ (escaped r.text ++ l)) (one_more b 34 is))))
    (λ one. pick _ (b == 92) _ _ (λ is. inr (grown bytes b Quote Backslash r.text r.text r.tags a a.is (ap (λ (l : List ℕ). 35 ∷ 32 ∷ 34 ∷ (escaped r.text ++ l)) (one_more b 92 is))))
    (λ other. inr (grown bytes b Quote Quote r.text (r.text ++ b ∷ []) r.tags a (print_push r.text b a.is print) (ap (λ (l : List ℕ). 35 ∷ 32 ∷ 34 ∷ l) (as_it_is r.text b (no_escape b one other))))))

at_backslash : (bytes : List ℕ) (b : ℕ) (r : Reading) → At bytes Backslash r.text r.tags → is_control b ≡ false → IsAt (bytes ++ b ∷ []) (moved Backslash b r)
at_backslash bytes b r a print =
    pick _ (is_escaped b) _ _ (λ is. inr (grown bytes b Backslash Quote r.text (r.text ++ b ∷ []) r.tags a (print_push r.text b a.is print) (ap (λ (l : List ℕ). 35 ∷ 32 ∷ 34 ∷ l) (after_backslash r.text b is))))
    (λ _. inl refl)

at_moved : (m : Mode) (bytes : List ℕ) (b : ℕ) (r : Reading) → At bytes m r.text r.tags → is_control b ≡ false → IsAt (bytes ++ b ∷ []) (moved m b r)
at_moved Ahead bytes b r a print = at_ahead bytes b r a print
at_moved Bare bytes b r a print = at_bare bytes b r a print
at_moved Quoted bytes b r a print = at_quoted bytes b r a print
at_moved Escaped bytes b r a print = at_escaped bytes b r a print
at_moved Closed bytes b r a print = at_closed bytes b r a print
at_moved Sign bytes b r a print = at_sign bytes b r a
at_moved Noted bytes b r a print = at_noted bytes b r a print
at_moved Plain bytes b r a print = at_plain bytes b r a print
at_moved Quote bytes b r a print = at_quote bytes b r a print
at_moved Backslash bytes b r a print = at_backslash bytes b r a print
at_moved Done bytes b r a print = inl refl
at_moved Failed bytes b r a print = absurd a.is

stays_failed : (bytes : List ℕ) (b : ℕ) (m : Mode) (r : Reading) → m ≡ Failed → r.mode ≡ Failed → IsAt (bytes ++ b ∷ []) (moved m b r)
stays_failed bytes b m r is has = subst (λ (m : Mode). IsAt (bytes ++ b ∷ []) (moved m b r)) (sym is) (inl has)

at_stepped : (bytes : List ℕ) (b : ℕ) (r : Reading) → IsAt bytes r → IsAt (bytes ++ b ∷ []) (stepped r b)
at_stepped bytes b r (inl is) = pick _ (is_control b) _ _ (λ _. inl refl) (λ _. stays_failed bytes b r.mode r is is)
at_stepped bytes b r (inr a) = pick _ (is_control b) _ _ (λ _. inl refl) (λ print. at_moved r.mode bytes b r a print)

at_all : (more bytes : List ℕ) (r : Reading) → IsAt bytes r → IsAt (bytes ++ more) (fold stepped r more)
at_all [] bytes r a = subst (λ (l : List ℕ). IsAt l r) (sym (append-nil bytes)) a
at_all (b ∷ more) bytes r a = subst (λ (l : List ℕ). IsAt l (fold stepped (stepped r b) more)) (pushed bytes more b) (at_all more (bytes ++ b ∷ []) (stepped r b) (at_stepped bytes b r a))

-- ---- the end

abbrev pub Tail : Type 0
Tail = List (List ℕ) × List ℕ

some_of : (c : Bool) (v tail : Tail) → cond c (Some v) None ≡ Some tail → (c ≡ true) × (v ≡ tail)
some_of true v tail is = (refl, cc)
some_of false v tail is = absurd (cc)

none_if : (c : Bool) (o : Option Tail) (tail : Tail) → cond c None o ≡ Some tail → (c ≡ false) × (o ≡ Some tail)
none_if true o tail is = absurd (cc)
none_if false o tail is = (refl, is)

last_tag : (bytes : List ℕ) (m : Mode) (r : Reading) (tail : Tail) (p : Piece) → At bytes m r.text r.tags → IsTag p → text_of p ≡ r.text → front_of m r.text ≡ piece_bytes p → (add_tag r.text r.tags, []) ≡ tail → Spell bytes tail
last_tag bytes m r tail p a is text front same = record {
  pieces = a.pieces;
  last = OneMore p;
  text = a.read ∙ ap (λ (l : List ℕ). spaced a.pieces ++ l) front;
  tags = a.are;
  is_last = is;
  says = sym same ∙ ap (λ (l : List (List ℕ)). (l, [])) (ap (λ (l : List (List ℕ)). add_tag r.text l) a.had ∙ ap (λ (l : List ℕ). add_tag l (tags_of a.pieces)) (sym text) ∙ sym (tags_push a.pieces p));
}

at_end : (m : Mode) (bytes : List ℕ) (r : Reading) (tail : Tail) → At bytes m r.text r.tags → ended_in m r ≡ Some tail → Spell bytes tail
at_end Ahead bytes r tail a is = absurd (cc)
at_end Bare bytes r tail a is =
    let s = some_of (is_utf8 r.text) (add_tag r.text r.tags, []) tail is in
    last_tag bytes Bare r tail (AsIs r.text) a ((a.is.0, s.0), a.is.1) refl refl s.1
at_end Quoted bytes r tail a is = absurd (cc)
at_end Escaped bytes r tail a is = absurd (cc)
at_end Closed bytes r tail a is =
    let n = none_if (length r.text == 0) (with_last r) tail is in
    let s = some_of (is_utf8 r.text) (add_tag r.text r.tags, []) tail n.1 in
    last_tag bytes Closed r tail (InQuotes r.text) a (some_tag r.text a.is n.0, s.0) refl refl s.1
at_end Sign bytes r tail a is = absurd (cc)
at_end Noted bytes r tail a is = absurd (cc)
at_end Plain bytes r tail a is =
    let s = some_of (is_utf8 r.text) (r.tags, r.text) tail is in
    record { pieces = a.pieces; last = Note (AsIs r.text); text = a.read; tags = a.are; is_last = (a.is.0, a.is.1, s.0); says = sym s.1 ∙ ap (λ (l : List (List ℕ)). (l, r.text)) a.had }
at_end Quote bytes r tail a is = absurd (cc)
at_end Backslash bytes r tail a is = absurd (cc)
at_end Done bytes r tail a is =
    let s = some_of (is_utf8 r.text) (r.tags, r.text) tail is in
    record { pieces = a.pieces; last = Note (InQuotes r.text); text = a.read; tags = a.are; is_last = (a.is, s.0); says = sym s.1 ∙ ap (λ (l : List (List ℕ)). (l, r.text)) a.had }
at_end Failed bytes r tail a is = absurd (cc)

none_failed : (m : Mode) (r : Reading) (tail : Tail) → m ≡ Failed → ended_in m r ≡ Some tail → ⊥
none_failed m r tail failed is = let no : None ≡ Some tail = sym (ap (λ (m : Mode). ended_in m r) failed) ∙ is in absurd (cc)

spelled_of : (bytes : List ℕ) (r : Reading) (tail : Tail) → IsAt bytes r → ended r ≡ Some tail → Spell bytes tail
spelled_of bytes r tail (inl failed) is = absurd (none_failed r.mode r tail failed is)
spelled_of bytes r tail (inr a) is = at_end r.mode bytes r tail a is

at_start : At [] Ahead [] []
at_start = record { pieces = []; read = refl; are = tt; is = refl; had = refl }

pub what_is_read : (bytes : List ℕ) (tail : Tail) → marked bytes ≡ Some tail → Spell bytes tail
unfolding marked
what_is_read bytes tail is = spelled_of bytes (fold stepped start bytes) tail (at_all bytes [] start (inr at_start)) is
