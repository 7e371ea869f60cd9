-- Lines that are as their intervals are written.
use Rattle.std.specs.Prelude.{◌≡◌, ℕ, ◌<◌, true, List, [], ◌∷◌, ◌++◌, length, Option, Some, None}
use Rattle.std.specs.List.{list_all, flat_map, AllByRecursion}
use Rattle.std.specs.Str.{is_utf8}
use Rattle.timew_interval.specs.declared.interval.Interval.{Interval}
use Rattle.timew_month.specs.declared.read.month.MonthRows.{MonthRows}
use Rattle.timew_month.specs.declared.read.tail.Tail.{Tail}
use Rattle.timew_month.specs.declared.read.line.Line.{Line}
use Rattle.timew_month.specs.Tail.{tail_of}
use Rattle.timew_interval.specs.Interval.{tags_rise}
use Rattle.timew_interval.specs.Line.{is_bare, tag_text, tags_text, tail_text, line_text, lines_text}
use Rattle.timew_interval.specs.ReadBack.{IsGoodTag, IsWritable}

-- what follows a tag: a space and the next one, or nothing
abbrev pub behind_tag : Option (List ℕ) → List ℕ
behind_tag None = []
behind_tag (Some rest) = 32 ∷ rest

-- the first tag of some, without quotes and in UTF-8, and what follows its space
pub record IsFirstTag (tag : List ℕ) (rest : Option (List ℕ)) (bytes : List ℕ) : Type 0 where
  pub some : 0 < length tag
  pub bare : list_all is_bare tag ≡ true
  pub utf8 : is_utf8 tag ≡ true
  pub text : bytes ≡ tag ++ behind_tag rest

-- each tag with a space after it
abbrev pub spaced : List (List ℕ) → List ℕ
spaced tags = flat_map (λ t. tag_text t ++ 32 ∷ []) tags

-- these tags were taken from the front of the bytes, and this is left
pub record AreTaken (tags : List (List ℕ)) (rest bytes : List ℕ) : Type 0 where
  pub text : bytes ≡ spaced tags ++ rest
  pub good : AllByRecursion IsGoodTag tags
  pub rise : tags_rise tags ≡ true

-- tags as they are written, in UTF-8
pub record AreWritten (tags : List (List ℕ)) (bytes : List ℕ) : Type 0 where
  pub text : bytes ≡ tags_text tags
  pub good : AllByRecursion IsGoodTag tags
  pub rise : tags_rise tags ≡ true
  pub some : 0 < length tags

-- what a line has after its moments, as it is written
pub record IsTail (tags : List (List ℕ)) (note : List ℕ) (bytes : List ℕ) : Type 0 where
  pub text : bytes ≡ tail_text tags note
  pub utf8 : AllByRecursion (λ tag. is_utf8 tag ≡ true) tags
  pub note_utf8 : is_utf8 note ≡ true

abbrev pub read_of : Tail → List (List ℕ) × List ℕ
read_of t = (t.tags, t.annotation)

-- this was read of the bytes
pub record IsTailOf (t : Tail) (bytes : List ℕ) : Type 0 where
  pub value : tail_of bytes ≡ Some (read_of t)
  pub exact : t.is_exact ≡ true → IsTail t.tags t.annotation bytes

-- the interval of a line that was read
abbrev pub row_in : Line → Interval
row_in l = record { start = l.start; end = l.end; tags = l.tail.now.tags; annotation = l.tail.now.annotation }

-- the line of an interval, which is read back
pub record IsExact (line : List ℕ) (r : Interval) : Type 0 where
  pub text : line ≡ line_text r
  pub writable : IsWritable r

-- a line that is not empty gave one interval more
abbrev pub AddsExactly : List ℕ → (before after : List Interval) → Type 0
AddsExactly [] before after = after ≡ before
AddsExactly (b ∷ line) before after = (r : Interval) × (after ≡ before ++ r ∷ []) × IsExact (b ∷ line) r

-- a month file is the text of these intervals, each of which is read back
pub record IsText (bytes : List ℕ) (rows : List Interval) : Type 0 where
  pub text : bytes ≡ lines_text rows
  pub writable : AllByRecursion IsWritable rows

-- a month file is the text of the intervals that come after others
abbrev pub IsTextAfter : (before : List Interval) (bytes : List ℕ) (after : List Interval) → Type 0
IsTextAfter before bytes after = (rows : List Interval) × (after ≡ before ++ rows) × IsText bytes rows

-- a month that is still the text of its file was it before, and the line is as its interval is written
abbrev pub StaysText : List ℕ → (before after : MonthRows) → Type 0
StaysText line before after = after.is_text ≡ true → (before.is_text ≡ true) × AddsExactly line before.rows.items after.rows.items
