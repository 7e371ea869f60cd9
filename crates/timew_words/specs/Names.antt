-- The names of the commands.
use Rattle.timew_words.specs.declared.name.Name.TheVariants as name
use Rattle.std.specs.Prelude.{ℕ, List, [], ◌∷◌, codes, Bool, true, false}
use Rattle.timew_words.specs.declared.command.TimeReport.TheVariants.{Gaps, Days, Weeks, Totals}
use Rattle.timew_words.specs.declared.name.Name.{Name}

abbrev pub names : List (List ℕ × Name)
names =
    (codes "start", name.Start) ∷ (codes "stop", name.Stop) ∷ (codes "cancel", name.Cancel)
    ∷ (codes "continue", name.Continue) ∷ (codes "track", name.Track)
    ∷ (codes "tag", name.Tag) ∷ (codes "untag", name.Untag) ∷ (codes "annotate", name.Annotate)
    ∷ (codes "delete", name.Delete) ∷ (codes "split", name.Split) ∷ (codes "join", name.Join)
    ∷ (codes "move", name.Move) ∷ (codes "lengthen", name.Lengthen) ∷ (codes "shorten", name.Shorten)
    ∷ (codes "undo", name.Undo) ∷ (codes "export", name.Export) ∷ (codes "summary", name.Summary)
    ∷ (codes "gaps", name.Hours Gaps) ∷ (codes "days", name.Hours Days) ∷ (codes "weeks", name.Hours Weeks) ∷ (codes "totals", name.Hours Totals)
    ∷ []

-- the command places an interval, so that `:adjust` is no part of it, wherever it is
abbrev pub places : Name → Bool
places name.Start = true
places name.Continue = true
places name.Track = true
places name.Join = true
places name.Move = true
places name.Lengthen = true
places name.Shorten = true
places _ = false
