-- Intervals whose lines are read back.
use Rattle.std.specs.Prelude.{◌≡◌, ℕ, true, List, length, Some, IfSome}
use Rattle.std.specs.List.{AllByRecursion}
use Rattle.std.specs.Str.{is_utf8}
use Rattle.tw_time.specs.Basic.{basic, basic_moment}
use Rattle.timew_interval.specs.declared.interval.Interval.{Interval}
use Rattle.timew_interval.specs.Interval.{is_tag, IsRow}

-- the moment is read back from its 16 bytes
pub record IsPrinted (at : ℕ) : Type 0 where
  pub back : basic_moment (basic at) ≡ Some at
  pub size : length (basic at) ≡ 16

-- a tag in UTF-8
abbrev pub IsGoodTag : List ℕ → Type 0
IsGoodTag t = (is_tag t ≡ true) × (is_utf8 t ≡ true)

-- an interval with moments that are printed and texts in UTF-8
pub record IsWritable (r : Interval) : Type 0 where
  pub row : IsRow r
  pub start : IsPrinted r.start
  pub end : IfSome r.end IsPrinted
  pub tags : AllByRecursion IsGoodTag r.tags
  pub note : is_utf8 r.annotation ≡ true
