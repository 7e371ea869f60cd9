-- What is printed of a large world.
use Rattle.std.specs.Prelude.{ℕ, Bool, cond, List, ◌++◌, codes}
use Rattle.std.specs.Fmt.{decimal}
use Rattle.tw_sync.specs.declared.report.SyncReport.{SyncReport}

abbrev pub word_of : (equal : Bool) → List ℕ
word_of equal = cond equal (codes "equal") (codes "different")

-- how many tasks there are, how many bytes their first segment has, what the last sync of the first replica did, and whether both export the same
abbrev pub summary : (count bytes : ℕ) → SyncReport → (equal : Bool) → List ℕ
summary count bytes report equal =
    codes "tasks " ++ decimal count ++ codes ", first segment " ++ decimal bytes ++ codes " bytes, dropped " ++ decimal report.dropped
    ++ codes ", pushed " ++ decimal report.pushed ++ codes ", exports " ++ word_of equal ++ codes "\n"
