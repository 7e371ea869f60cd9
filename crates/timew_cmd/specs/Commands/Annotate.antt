-- `annotate`: sets the annotation of an interval.
use Rattle.std.specs.Prelude.{ℕ, List, [], ◌∷◌, Option, Some, None, Result, Ok}
use Rattle.timew_interval.specs.declared.interval.Interval.{Interval}
use Rattle.timew_cmd.specs.Labels.{targets, each_of, with_annotation}
use Rattle.timew_words.specs.Results.{◌>>=◌}
use Rattle.timew_cmd.specs.declared.error.TimewError.{TimewError}

abbrev pub as_ids : Option ℕ → List ℕ
as_ids None = []
as_ids (Some id) = id ∷ []

abbrev pub annotated : List ℕ → List ℕ → List Interval → Result (List Interval) TimewError
annotated ids text rows = targets ids rows >>= λ those. Ok (each_of those (with_annotation text) rows)
