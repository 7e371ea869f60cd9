-- What is said of a run of `timew` that was refused.
use Rattle.std.specs.Prelude.{ℕ, List, [], ◌∷◌, Option, codes}
use Rattle.timew_cli.specs.declared.cause.Cause.{Cause}
use Rattle.timew_cli.specs.declared.cause.Cause.TheVariants.{Done, NotTracking, NothingToUndo, Edited, BadWords, NoInterval, NoOpen, AlreadyOpen, Range}
use Rattle.timew_cli.specs.declared.cause.Cause.TheVariants.{Overlap, BadLine, DiskFault, RecordTooLong, Damaged, FolderFault, Memory, OutFault}
use Rattle.timew_words.specs.declared.error.WordKind.{WordKind}
use Rattle.timew_words.specs.declared.error.WordKind.TheVariants as kind
use Rattle.tw_hints.specs.declared.places.Places.{Places}
use Rattle.tw_hints.specs.declared.places.NotOpened.{NotOpened}
use Rattle.tw_hints.specs.Lines.{Row, says_of}
use Rattle.tw_hints.specs.Words.{word_at, says_word}
use Rattle.tw_hints.specs.Causes.{disk_text}

-- what is said of a word
abbrev pub word_text : WordKind → List ℕ
word_text kind.Value = codes "\"%\" has no meaning here; see tw --help"
word_text kind.Date = codes "\"%\": no moment; as tomorrow, eow, 2026-12-31"
word_text kind.Missing = codes "\"%\" needs words behind it"
word_text kind.Extra = codes "\"%\" may not be here; words behind -- are text"

-- what is said of a cause that is about no word
abbrev pub text_of : Cause → Option NotOpened → List ℕ
text_of NotTracking why = codes "tw timew start begins one"
text_of NothingToUndo why = codes "each change of the hours is undone"
text_of (Edited file) why = codes "it was changed by hand since; undo stops there"
text_of (NoInterval id) why = codes "tw timew summary :all has the numbers"
text_of NoOpen why = codes "tw timew start begins one"
text_of (AlreadyOpen id) why = codes "tw timew stop ends it"
text_of (Overlap id) why = codes ":adjust makes room"
text_of (BadLine file line) why = codes "mend that line by hand"
text_of DiskFault why = disk_text why
text_of (RecordTooLong bytes) why = codes "do it in parts"
text_of (Damaged offset) why = codes "tw rescue % saves what is whole; keep the damaged file"
text_of FolderFault why = codes "% can't be read or written"
text_of Memory why = codes "free some memory, or do it in parts"
text_of OutFault why = codes "it was carried out; only the answer is lost"
text_of Done why = []
text_of (BadWords word kind) why = []
text_of (Range word) why = []

-- the place that a cause is about
abbrev pub place_of : Cause → Places → List ℕ
place_of DiskFault p = p.journal
place_of (Damaged offset) p = p.journal
place_of FolderFault p = p.hours
place_of cause p = []

-- the lines that are said of a cause
abbrev pub timew_rows : Cause → (words : List (List ℕ)) → Places → List Row
timew_rows Done words p = []
timew_rows (BadWords word kind) words p = says_word (word_text kind) (word_at word words) ∷ []
timew_rows (Range word) words p = says_word (codes "\"%\" is before the start, or too far") (word_at word words) ∷ []
timew_rows cause words p = says_of (text_of cause p.not_opened) (place_of cause p) ∷ []
