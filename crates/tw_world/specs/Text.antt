-- A text as it is held. No public clause cites this module.
use Rattle.std.specs.Prelude.{ℕ, List}
use Rattle.std.specs.String.{string_bytes}
use Rattle.tw_world.specs.declared.texts.Held.{Held}
use Rattle.tw_world.specs.declared.texts.Held.TheVariants.{Short, Long}

-- the bytes of a text
abbrev pub held_bytes : Held → List ℕ
held_bytes (Short text) = text.bytes
held_bytes (Long text) = string_bytes text
