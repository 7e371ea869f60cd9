-- What is found out once for many tests.
use Rattle.std.specs.Prelude.{◌≡◌, ℕ, ◌&&◌, nat_le, Bool, cond, List, Option, Some, None}
use Rattle.std.specs.BTreeMap as tree
use Rattle.tw_model.specs.Maps.{bytes_cmp}
use Rattle.tw_model.specs.Places.{Places, id_of}
use Rattle.tw_terms.specs.Scenes.{Scene}
use Rattle.tw_terms.specs.Indexes.{AreBlocking}
use Rattle.tw_terms.specs.declared.facts.Facts.{Facts}
use Rattle.tw_terms.specs.declared.id_range.IdRange.{IdRange}

-- whether a number is from the first to the last
abbrev pub between : (first last : ℕ) → ℕ → Bool
between first last id = nat_le first id && nat_le id last

-- a number, if it is
abbrev pub within : (first last : ℕ) → Option ℕ → Option ℕ
within first last None = None
within first last (Some id) = cond (between first last id) (Some id) None

-- a range has the number of each task whose number is in it
abbrev pub HasIds : IdRange → Places → Type 0
HasIds range places = (u : List ℕ) → tree.get bytes_cmp range.ids u ≡ within range.first range.last (id_of u places)

-- the same of a range that there may be
abbrev pub AreIn : Option IdRange → Places → Type 0
AreIn None places = Unit {0}
AreIn (Some range) places = HasIds range places

-- what is found out is true
pub record AreFacts (facts : Facts) (scene : Scene) : Type 0 where
  pub ids : AreIn facts.ids scene.places
  pub blocking : AreBlocking facts.blocking scene.tasks
