-- The uuids that are drawn for a request.
use Rattle.std.specs.Prelude.{ℕ, ◌+◌, ◌%◌, ◌^◌, List}
use Rattle.tw_world.specs.Ids.{id_bytes}
use Rattle.tw_world.specs.declared.ids.IdWords.{IdWords}

-- the uuid that is drawn next
abbrev pub drawn : IdWords → List ℕ
drawn ids = id_bytes ids.start

-- the identifiers once one is drawn
abbrev pub after_draw : IdWords → IdWords
after_draw ids = record { start = (ids.start + ids.step) % 2 ^ 128; step = ids.step }
