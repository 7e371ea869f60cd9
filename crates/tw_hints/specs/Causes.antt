-- What is said of a run of `task` that was refused.
use Rattle.std.specs.Prelude.{ℕ, ◌==◌, List, [], ◌∷◌, Option, Some, None, cond, codes, length}
use Rattle.std.specs.Fmt.{decimal}
use Rattle.tw_cli.specs.declared.cause.Cause.{Cause}
use Rattle.tw_cli.specs.declared.cause.Cause.TheVariants.{Done, NoMatch, NothingToUndo, BadWords, BadSetting, NoServer, IdTaken, Cycle}
use Rattle.tw_cli.specs.declared.cause.Cause.TheVariants.{DiskFault, RecordTooLong, Memory, LinkFault, BadReply, Gone, Busy, OutOfSync}
use Rattle.tw_cli.specs.declared.cause.Cause.TheVariants.{BadSegment, SegmentTooLong, PullTooLong, OutFault, Damaged, InFault, InputTooLong, BadInput}
use Rattle.tw_cli.specs.declared.cause.Cause.TheVariants.{HookRefused, HookAnswer, HookFault, TrackFault, TrackBad, TrackDamaged}
use Rattle.tw_sync.specs.declared.error.ReplyKind.{ReplyKind}
use Rattle.tw_sync.specs.declared.error.ReplyKind.TheVariants as reply
use Rattle.tw_hints.specs.declared.places.Places.{Places}
use Rattle.tw_hints.specs.declared.places.NotOpened.{NotOpened}
use Rattle.tw_hints.specs.declared.places.NotOpened.TheVariants as opened
use Rattle.tw_hints.specs.Lines.{Row, says, says_with}
use Rattle.tw_hints.specs.Words.{word_at, no_match_text, word_rows, says_word}
use Rattle.tw_hints.specs.Settings.{setting_rows}

-- why a journal's file failed
abbrev pub disk_text : Option NotOpened → List ℕ
disk_text None = codes "%: a write failed; is the disk full?"
disk_text (Some opened.Rights) = codes "%: no right to read and write it"
disk_text (Some opened.Folder) = codes "% is a folder"
disk_text (Some opened.InTheWay) = codes "%: a file is in its way"
disk_text (Some opened.ReadOnly) = codes "%: its disk is read-only"
disk_text (Some opened.Other) = codes "% can't be opened"

-- what is wrong with the reply of a server
abbrev pub status_text : ℕ → List ℕ
status_text code =
    cond (code == 413) (codes "the server takes no version as long as this")
    (cond (code == 500) (codes "sync again") (codes "% answered with #; is it a sync server?"))

abbrev pub reply_text : ReplyKind → List ℕ
reply_text reply.Cut = codes "its reply was cut off; sync again"
reply_text reply.TooLong = codes "its reply is too long"
reply_text (reply.Status code) = status_text code
reply_text kind = codes "% does not speak as a sync server"

abbrev pub code_of : ReplyKind → ℕ
code_of (reply.Status code) = code
code_of kind = 0

-- which element of the input is no task
abbrev pub input_text : (name : List ℕ) → List ℕ
input_text name = cond (length name == 0) (codes "no JSON array; tools/from-taskwarrior mends exports") (codes "elements count from 0; % is its first bad key")

-- what is said of a cause that is about no word, line or key
abbrev pub text_of : Cause → Option NotOpened → List ℕ
text_of NothingToUndo why = codes "what a sync has sent can't be undone"
text_of NoServer why = codes "set sync.server.url and sync.server.client_id: twrc(5)"
text_of (IdTaken uuid) why = codes "run it again: another uuid is drawn"
text_of (Cycle uuid) why = codes "that task waits for this one already, perhaps through others"
text_of DiskFault why = disk_text why
text_of (RecordTooLong bytes) why = codes "do it in parts"
text_of Memory why = codes "free some memory, or do it in parts"
text_of LinkFault why = codes "no answer from %; is the server up, and the tunnel?"
text_of (BadReply kind) why = reply_text kind
text_of (Gone base) why = codes "its file is older than this machine: SERVING, A lost server"
text_of (Busy parent) why = codes "others add versions all the time; sync again"
text_of (OutOfSync base parent) why = codes "% contradicts itself: two servers?"
text_of (BadSegment version) why = codes "another program wrote it, or the server's file is damaged"
text_of (SegmentTooLong bytes) why = codes "one change is above 16 MB"
text_of (PullTooLong bytes) why = codes "sync again: it goes on from there"
text_of OutFault why = codes "it was carried out; only the answer is lost"
text_of (Damaged offset) why = codes "tw rescue % saves what is whole; keep the damaged file"
text_of InFault why = codes "the standard input can't be read"
text_of InputTooLong why = codes "import at most 64 MiB at a time"
text_of (HookRefused name status) why = codes "it ended with status #"
text_of (HookAnswer name) why = codes "its first line must be the task, as JSON"
text_of HookFault why = codes "hooks can't be read, or a signal ended one"
text_of TrackFault why = codes "the hours are in %; try tw timew"
text_of (TrackBad file line) why = codes "mend that line by hand"
text_of (TrackDamaged offset) why = codes "tw rescue %/undo.journal saves what is whole; keep the damaged file"
text_of Done why = []
text_of NoMatch why = []
text_of (BadWords word kind) why = []
text_of (BadSetting line) why = []
text_of (BadInput index name) why = []

-- the place that a cause is about
abbrev pub place_of : Cause → Places → List ℕ
place_of DiskFault p = p.journal
place_of (Damaged offset) p = p.journal
place_of LinkFault p = p.server
place_of (BadReply kind) p = p.server
place_of (OutOfSync base parent) p = p.server
place_of TrackFault p = p.hours
place_of (TrackDamaged offset) p = p.hours
place_of cause p = []

-- the number that its text names
abbrev pub number_of : Cause → ℕ
number_of (BadReply kind) = code_of kind
number_of (HookRefused name status) = status
number_of cause = 0

-- the lines that are said of a cause
abbrev pub task_rows : Cause → (words : List (List ℕ)) → (settings : List ℕ) → Places → List Row
task_rows Done words settings p = []
task_rows NoMatch words settings p = says (no_match_text words) ∷ []
task_rows (BadWords word kind) words settings p = word_rows kind (word_at word words)
task_rows (BadSetting line) words settings p = setting_rows line words settings p
task_rows (BadInput index name) words settings p = says_word (input_text name) name ∷ []
task_rows cause words settings p = says_with (text_of cause p.not_opened) (place_of cause p) (decimal (number_of cause)) ∷ []
