-- Tags and annotations of intervals.
use Rattle.std.specs.List.{list_any}
use Rattle.std.specs.Prelude.{ℕ, List, [], ◌∷◌, Option, Some, None, Result, Ok, Err, filter, not, length, cond, fold}
use Rattle.tw_world.specs.Folder.{same_bytes, add_name as add_tag}
use Rattle.timew_interval.specs.declared.interval.Interval.{Interval}
use Rattle.timew_cmd.specs.Numbers.{Numbered, numbered, is_among, checked}
use Rattle.timew_cmd.specs.Open.{open_of}
use Rattle.timew_words.specs.Results.{◌>>=◌}
use Rattle.timew_cmd.specs.declared.error.TimewError.{TimewError}
use Rattle.timew_cmd.specs.declared.error.TimewError.TheVariants.{NoOpen}
use Rattle.timew_cmd.specs.declared.labels.Label.{Label}
use Rattle.timew_cmd.specs.declared.labels.Label.TheVariants.{Add, Remove, Annotation}

-- the numbers that a command is about: those given, or the open one's
abbrev pub targets : List ℕ → List Interval → Result (List ℕ) TimewError
targets [] rows = open_number (open_of rows)
  where
    open_number : Option (List Interval × Interval) → Result (List ℕ) TimewError
    open_number None = Err NoOpen
    open_number (Some o) = Ok (1 ∷ [])
targets (id ∷ ids) rows = checked (length rows) (id ∷ ids) >>= λ n. Ok (id ∷ ids)

abbrev pub each_from : List ℕ → (Interval → Interval) → Numbered → List Interval
each_from ids change [] = []
each_from ids change (r ∷ rows) = cond (is_among ids r.0) (change r.1) r.1 ∷ each_from ids change rows

-- the intervals of these numbers are changed
abbrev pub each_of : List ℕ → (Interval → Interval) → List Interval → List Interval
each_of ids change rows = each_from ids change (numbered rows)

abbrev pub with_tags : List (List ℕ) → Interval → Interval
with_tags tags r = record r { tags = fold (λ had tag. add_tag tag had) r.tags tags }

abbrev pub without_tags : List (List ℕ) → Interval → Interval
without_tags tags r = record r { tags = filter (λ tag. not (list_any (same_bytes tag) tags)) r.tags }

abbrev pub with_annotation : List ℕ → Interval → Interval
with_annotation text r = record r { annotation = text }

abbrev pub with_label : Label → Interval → Interval
with_label (Add tags) r = with_tags tags.now r
with_label (Remove tags) r = without_tags tags.now r
with_label (Annotation text) r = with_annotation text.now r

-- the intervals of these numbers, or the open one, with a label
abbrev pub labelled : List ℕ → Label → List Interval → Result (List Interval) TimewError
labelled ids label rows = targets ids rows >>= λ those. Ok (each_of those (with_label label) rows)
