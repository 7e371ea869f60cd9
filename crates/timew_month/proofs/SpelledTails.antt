-- What is read of a line after ` # ` is what its bytes spell.
use Rattle.std.specs.Prelude.{fold, not}
use Rattle.std.proofs.Common.{◌≡◌, inl, inr, ℕ, true, cond, ◌==◌, List, [], ◌∷◌, ◌++◌, Some, None, refl, sym, ap, ◌∙◌}
use Rattle.std.proofs.lemmas.List.{append-nil}
use Rattle.std.proofs.lemmas.List.Sums.{fold-append}
use Rattle.std.specs.List.{AllByRecursion}
use Rattle.std.specs.Str.{is_utf8}
use Rattle.tw_world.specs.Folder.{add_name as add_tag}
use Rattle.timew_interval.specs.ReadBack.{IsGoodTag}
use Rattle.timew_month.specs.declared.read.reader.Mode.TheVariants.{Ahead, Quoted, Escaped, Noted, Plain, Quote}
use Rattle.timew_interval.specs.Interval.{is_printable}
use Rattle.timew_interval.specs.Line.{escaped}
use Rattle.timew_month.specs.Spelled.{Piece, Last, piece_bytes, text_of, IsTag, IsLast, begins_plain, last_bytes, spaced, tags_of, said, Spell, TailsAreSpelled}
use Rattle.timew_month.specs.Spelled.Piece.{AsIs, InQuotes}
use Rattle.timew_month.specs.Spelled.Last.{OneMore, Note}
use Rattle.timew_month.specs.Tail.{Reading, start, in_mode, with_byte, stepped, ended, marked}
use Rattle.timew_interval.proofs.Tests.{both}
use Rattle.timew_month.proofs.TailReadBack.{pushed, plain, bare_tag, quoted_more, of_tag, IsRead, tag_ended, note_read}
use Rattle.timew_month.proofs.LongerTexts.{is_control, tag_printed}
use Rattle.timew_month.proofs.ReadTails.{Tail, tags_push, not_true, what_is_read}

abbrev ahead : List (List ℕ) → Reading
ahead tags = record { mode = Ahead; text = []; tags = tags }

good_tag : (p : Piece) → IsTag p → IsGoodTag (text_of p)
good_tag (AsIs t) is = is.0
good_tag (InQuotes t) is = is

piece_read : (p : Piece) (tags : List (List ℕ)) → IsTag p → IsRead (text_of p) tags (fold stepped (ahead tags) (piece_bytes p))
piece_read (AsIs t) tags is = inl (bare_tag t tags is.0.0 is.1)
piece_read (InQuotes t) tags is =
    inr (fold-append stepped (in_mode Quoted (ahead tags)) (escaped t) (34 ∷ []) ∙ ap (λ (r : Reading). stepped r 34) (quoted_more Quoted Escaped of_tag t [] tags (tag_printed t is.0)))

abbrev with_pieces : List (List ℕ) → List Piece → List (List ℕ)
with_pieces tags ps = fold (λ (had : List (List ℕ)) (p : Piece). add_tag (text_of p) had) tags ps

pieces_read : (ps : List Piece) (tags : List (List ℕ)) → AllByRecursion IsTag ps → fold stepped (ahead tags) (spaced ps) ≡ ahead (with_pieces tags ps)
pieces_read [] tags all = refl
pieces_read (p ∷ ps) tags all =
    fold-append stepped (ahead tags) (piece_bytes p ++ 32 ∷ []) (spaced ps)
    ∙ ap (λ (r : Reading). fold stepped r (spaced ps)) (fold-append stepped (ahead tags) (piece_bytes p) (32 ∷ []) ∙ (tag_ended (text_of p) tags (fold stepped (ahead tags) (piece_bytes p)) (good_tag p all.0) (piece_read p tags all.0)).0)
    ∙ pieces_read ps (add_tag (text_of p) tags) all.1

plain_more : (t x : List ℕ) (tags : List (List ℕ)) → is_printable t ≡ true → fold stepped (record { mode = Plain; text = x; tags = tags }) t ≡ record { mode = Plain; text = x ++ t; tags = tags }
plain_more [] x tags print = ap (λ (l : List ℕ). let r : Reading = record { mode = Plain; text = l; tags = tags } in r) (sym (append-nil x))
plain_more (b ∷ t) x tags print =
    let here : Reading = record { mode = Plain; text = x; tags = tags } in
    let p = both (not (is_control b)) (is_printable t) print in
    ap (λ (r : Reading). fold stepped r t) (plain here b p.0)
    ∙ plain_more t (x ++ b ∷ []) tags p.1
    ∙ ap (λ (l : List ℕ). let r : Reading = record { mode = Plain; text = l; tags = tags } in r) (pushed x t b)

plain_note : (note : List ℕ) (tags : List (List ℕ)) → begins_plain note ≡ true → is_printable note ≡ true → is_utf8 note ≡ true → ended (fold stepped (record { mode = Noted; text = []; tags = tags }) note) ≡ Some (tags, note)
plain_note [] tags begins print utf8 = absurd (cc)
plain_note (b ∷ note) tags begins print utf8 =
    let here : Reading = record { mode = Noted; text = []; tags = tags } in
    let p = both (not (is_control b)) (is_printable note) print in
    ap ended (ap (λ (r : Reading). fold stepped r note) (plain here b p.0 ∙ ap (λ c. cond c (in_mode Quote here) (with_byte Plain b here)) (not_true (b == 34) begins)) ∙ plain_more note (b ∷ []) tags p.1)
    ∙ ap (λ c. cond c (Some (tags, b ∷ note)) None) utf8

last_read : (l : Last) (ps : List Piece) → IsLast l → ended (fold stepped (ahead (tags_of ps)) (last_bytes l)) ≡ Some (said ps l)
last_read (OneMore p) ps is =
    (tag_ended (text_of p) (tags_of ps) (fold stepped (ahead (tags_of ps)) (piece_bytes p)) (good_tag p is) (piece_read p (tags_of ps) is)).1
    ∙ ap (λ (l : List (List ℕ)). Some (l, [])) (sym (tags_push ps p))
last_read (Note (AsIs note)) ps is = plain_note note (tags_of ps) is.0 is.1 is.2
last_read (Note (InQuotes note)) ps is = note_read (tags_of ps) note is.0 is.1

what_is_spelled : (bytes : List ℕ) (tail : Tail) → Spell bytes tail → marked bytes ≡ Some tail
unfolding marked
what_is_spelled bytes tail s =
    ap (λ (l : List ℕ). ended (fold stepped start l)) s.text
    ∙ ap ended (fold-append stepped start (spaced s.pieces) (last_bytes s.last) ∙ ap (λ (r : Reading). fold stepped r (last_bytes s.last)) (pieces_read s.pieces [] s.tags))
    ∙ last_read s.last s.pieces s.is_last
    ∙ ap (λ (t : Tail). Some t) (sym s.says)

pub tails_are_spelled : TailsAreSpelled
tails_are_spelled bytes tail = (what_is_read bytes tail, what_is_spelled bytes tail)
