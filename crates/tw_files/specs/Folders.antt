-- The folders on the way to a file.
use Rattle.std.specs.Prelude.{◌≡◌, ℕ, ◌+◌, ◌<◌, false, List, length, take, codes, nat_eq, slice_index}
use Rattle.std.specs.List.{starts_with}

-- What holds of each folder on the way to a file: of each front part of its path that a slash ends, and, if no slash
-- begins the path, of the folder that the program runs in.
pub record EachOnWay (P : List ℕ → Type 0) (path : List ℕ) : Type 0 where
  pub above : (i : ℕ) → i < length path → slice_index path i ≡ 47 → P (take (i + 1) path)
  pub here : starts_with nat_eq path (codes "/") ≡ false → P (codes ".")
