-- The tags and the annotation of a line, as they are read.
use Rattle.std.specs.Prelude.{ℕ, not, ◌&&◌, ◌||◌, ◌==◌, nat_lt, if◌then◌else◌, List, [], ◌∷◌, ◌++◌, fold, length, Option, Some, None}
use Rattle.std.specs.Str.{is_utf8}
use Rattle.tw_world.specs.Folder.{add_name as add_tag}
use Rattle.timew_month.specs.declared.read.reader.Mode.{Mode}
use Rattle.timew_month.specs.declared.read.reader.Mode.TheVariants.{Ahead, Bare, Quoted, Escaped, Closed, Sign, Noted, Plain, Quote, Backslash, Done, Failed}
use Rattle.timew_month.specs.declared.read.reader.Reader.{Reader}
use Rattle.timew_interval.specs.Line.{is_special, is_escaped}

-- what a reader has: how far it is, the text so far, and the tags before it
pub record Reading : Type 0 where
  pub mode : Mode
  pub text : List ℕ
  pub tags : List (List ℕ)

abbrev pub start : Reading
start = record { mode = Ahead; text = []; tags = [] }

abbrev pub reading_of : Reader → Reading
reading_of r = record { mode = r.mode; text = r.text.items; tags = r.tags.items }

abbrev pub in_mode : Mode → Reading → Reading
in_mode mode r = record { mode = mode; text = r.text; tags = r.tags }

abbrev pub with_byte : Mode → ℕ → Reading → Reading
with_byte mode b r = record { mode = mode; text = r.text ++ b ∷ []; tags = r.tags }

abbrev pub failed : Reading → Reading
failed r = in_mode Failed r

-- a tag ends, which has to be UTF-8
abbrev pub with_tag : Reading → Reading
with_tag r = if is_utf8 r.text then record { mode = Ahead; text = []; tags = add_tag r.text r.tags } else failed r

-- the reading after one byte, which is no control character
abbrev pub moved : Mode → ℕ → Reading → Reading
moved Ahead b r = if b == 34 then in_mode Quoted r else (if b == 35 then in_mode Sign r else (if is_special b then failed r else with_byte Bare b r))
moved Bare b r = if b == 32 then with_tag r else (if is_special b then failed r else with_byte Bare b r)
moved Quoted b r = if b == 34 then in_mode Closed r else (if b == 92 then in_mode Escaped r else with_byte Quoted b r)
moved Escaped b r = if is_escaped b then with_byte Quoted b r else failed r
moved Closed b r = if (b == 32) && not (length r.text == 0) then with_tag r else failed r
moved Sign b r = if b == 32 then in_mode Noted r else failed r
moved Noted b r = if b == 34 then in_mode Quote r else with_byte Plain b r
moved Plain b r = with_byte Plain b r
moved Quote b r = if b == 34 then in_mode Done r else (if b == 92 then in_mode Backslash r else with_byte Quote b r)
moved Backslash b r = if is_escaped b then with_byte Quote b r else failed r
moved Done b r = failed r
moved Failed b r = r

abbrev pub stepped : Reading → ℕ → Reading
stepped r b = if nat_lt b 32 || (b == 127) then failed r else moved r.mode b r

-- what was read: tags and an annotation
abbrev pub with_last : Reading → Option (List (List ℕ) × List ℕ)
with_last r = if is_utf8 r.text then Some (add_tag r.text r.tags, []) else None

abbrev pub with_note : Reading → Option (List (List ℕ) × List ℕ)
with_note r = if is_utf8 r.text then Some (r.tags, r.text) else None

abbrev pub ended_in : Mode → Reading → Option (List (List ℕ) × List ℕ)
ended_in Ahead r = None
ended_in Bare r = with_last r
ended_in Quoted r = None
ended_in Escaped r = None
ended_in Closed r = if length r.text == 0 then None else with_last r
ended_in Sign r = None
ended_in Noted r = None
ended_in Plain r = with_note r
ended_in Quote r = None
ended_in Backslash r = None
ended_in Done r = with_note r
ended_in Failed r = None

abbrev pub ended : Reading → Option (List (List ℕ) × List ℕ)
ended r = ended_in r.mode r

-- the tags and the annotation after ` # `
unfoldable pub marked : List ℕ → Option (List (List ℕ) × List ℕ)
marked bytes = ended (fold stepped start bytes)

-- what a line has after its moments, if it is so written
abbrev pub tail_of : List ℕ → Option (List (List ℕ) × List ℕ)
tail_of [] = Some ([], [])
tail_of (a ∷ []) = None
tail_of (a ∷ b ∷ []) = None
tail_of (a ∷ b ∷ c ∷ rest) = if (a == 32) && (b == 35) && (c == 32) then marked rest else None
