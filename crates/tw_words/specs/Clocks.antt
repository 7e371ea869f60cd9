-- A moment and a zone, where dates are judged.
use Rattle.std.specs.Prelude.{Option, Some, None}
use Rattle.tw_words.specs.Modifications.{Clock}
use Rattle.tw_words.specs.declared.clock.Clock as declared

abbrev pub clock_of : Option declared.Clock → Clock
clock_of None = None
clock_of (Some c) = Some (c.now.seconds, c.zone.now)
