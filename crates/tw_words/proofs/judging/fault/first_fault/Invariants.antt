-- the first fault of what is left is that of all
use Rattle.std.proofs.Common.{◌≡◌, drop}
use Rattle.tw_words.specs.Modifications.{first_fault, rest_words, is_add}
use Rattle.tw_words.specs.Clocks.{clock_of}
use Rattle.tw_words.proofs.judging.fault.first_fault.Given as goal

abbrev pub invariant-loop-n : goal.invariant-loop-n
invariant-loop-n l = record {
  adding : l.adding ≡ is_add l.line.command;
  same : first_fault (clock_of l.clock) l.sole l.line l.n (drop l.n l.line.words) ≡ first_fault (clock_of l.fn.clock) l.sole l.line l.line.rest_from (rest_words l.line);
}
