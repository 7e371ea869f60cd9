-- The texts of the months of intervals.
use Rattle.std.specs.Prelude.{◌≡◌, ℕ, true, List, ◌++◌, map}
use Rattle.std.specs.List.{AllByRecursion}
use Rattle.timew_interval.specs.declared.interval.Interval.{Interval}
use Rattle.timew_month.specs.declared.write.month_texts.MonthText.{MonthText}
use Rattle.timew_interval.specs.MonthName.{is_month_name, month_text}
use Rattle.timew_month.specs.Gathered.{NamedBytes}
use Rattle.timew_month.specs.NamedFiles.{text_in, with_names, with_months}
use Rattle.timew_interval.specs.ReadBack.{IsWritable}

-- without its address in memory
abbrev pub text_of : MonthText → NamedBytes
text_of t = (t.name, t.known.now ++ t.new.items)

abbrev pub texts_of : List MonthText → List NamedBytes
texts_of = map text_of

-- each has the name of a month
abbrev pub HaveNames : List NamedBytes → Type 0
HaveNames texts = AllByRecursion (λ t. is_month_name t.0 ≡ true) texts

-- texts with those of the months of intervals after them
pub record AddTexts (old new : List NamedBytes) (rows : List Interval) : Type 0 where
  pub text : (name : List ℕ) → text_in new name ≡ text_in old name ++ month_text name rows
  pub names : (names : List (List ℕ)) → with_names new names ≡ with_months rows (with_names old names)
  pub good : HaveNames old → HaveNames new
  pub writable : AllByRecursion IsWritable rows
