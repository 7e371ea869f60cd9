-- Which hooks an event has.
use Rattle.std.specs.Prelude.{ℕ, Bool, nat_eq, List, [], codes, filter, fold}
use Rattle.std.specs.List.{starts_with}
use Rattle.tw_world.specs.Folder.{add_name}
use Rattle.tw_spawn.specs.Spawner.{SpawnerModel}
use Rattle.tw_hooks.specs.declared.event.Event.{Event}
use Rattle.tw_hooks.specs.declared.event.Event.TheVariants.{Add, Modify}

-- the names of an event's hooks begin so
abbrev pub prefix_of : Event → List ℕ
prefix_of Add = codes "on-add"
prefix_of Modify = codes "on-modify"

unfoldable pub is_hook : Event → List ℕ → Bool
is_hook event name = starts_with nat_eq name (prefix_of event)

-- the hooks of an event, in byte order of their names
abbrev pub hooks_of : Event → List (List ℕ) → List (List ℕ)
hooks_of event names = fold (λ had name. add_name name had) [] (filter (is_hook event) names)

-- the hooks of an event that an object tells
abbrev pub told_hooks : {P : Type 0} → Event → SpawnerModel P → P → List (List ℕ)
told_hooks event m spawner = hooks_of event (m.names spawner)
