-- the words left, after what is read, give what all give
use Rattle.std.proofs.Common.{◌≡◌, drop}
use Rattle.tw_terms.specs.Scenes.{scene_of}
use Rattle.tw_words.specs.Readings.{with_words}
use Rattle.tw_words.specs.Modifications.{rest_words}
use Rattle.tw_words.proofs.changes.reading.read_words.Given as goal

abbrev pub invariant-loop-n : goal.invariant-loop-n
invariant-loop-n l =
    with_words (scene_of l.fn.view) l.sole l.line l.changes.items l.n (drop l.n l.line.words)
    ≡ with_words (scene_of l.fn.view) l.sole l.line l.fn.changes.items l.line.rest_from (rest_words l.line)
