-- `join`: makes one interval of two.
use Rattle.std.specs.Prelude.{ℕ, List, [], ◌∷◌, Bool, Option, Some, None, Result, length, max, min, fold}
use Rattle.tw_world.specs.Folder.{add_name as add_tag}
use Rattle.timew_interval.specs.declared.interval.Interval.{Interval}
use Rattle.timew_cmd.specs.Numbers.{checked, row_at}
use Rattle.timew_cmd.specs.Placing.{place}
use Rattle.timew_words.specs.Results.{◌>>=◌}
use Rattle.timew_cmd.specs.declared.error.TimewError.{TimewError}

abbrev pub later_end : Option ℕ → Option ℕ → Option ℕ
later_end None other = None
later_end (Some end) None = None
later_end (Some end) (Some other) = Some (max end other)

abbrev pub first_text : List ℕ → List ℕ → List ℕ
first_text [] other = other
first_text (b ∷ text) other = b ∷ text

-- from the earlier start to the later end, with both tag sets and the first annotation
abbrev pub joined : Interval → Interval → Interval
joined r s = record {
  start = r.start;
  end = later_end r.end s.end;
  tags = fold (λ had tag. add_tag tag had) r.tags s.tags;
  annotation = first_text r.annotation s.annotation;
}

abbrev pub joined_both : (first second : ℕ) → Bool → List Interval → Result (List Interval) TimewError
joined_both first second adjust rows = do
  n ← checked (length rows) (first ∷ second ∷ [])
  earlier ← row_at (max first second) rows
  later ← row_at (min first second) rows
  place adjust (joined earlier later) (first ∷ second ∷ []) rows
