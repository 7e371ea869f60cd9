-- Texts as they are held. No public clause cites this module.
use Rattle.std.specs.Prelude.{ℕ, List, [], ◌∷◌}
use Rattle.timew_interval.specs.declared.interval.texts.Few.{Few}
use Rattle.timew_interval.specs.declared.interval.texts.Few.TheVariants.{Empty, One, Two, More}

abbrev pub few_texts : Few → List (List ℕ)
few_texts Empty = []
few_texts (One text) = text ∷ []
few_texts (Two text other) = text ∷ other ∷ []
few_texts (More texts) = texts.items
