-- what was read and what is still to be read are all
use Rattle.std.proofs.Common.{◌≡◌, ◌++◌, ◌-◌, ◌≤◌, length}
use Rattle.tw_world.specs.Source.{SourceKept, TellsRest}
use Rattle.tw_cli.proofs.input.read_all.Given as goal

abbrev pub invariant-loop-buffer : goal.invariant-loop-buffer
invariant-loop-buffer g l = record {
  read : TellsRest g.S.Source.model l.fn.input → l.bytes.items ++ g.S.Source.model.rest l.input ≡ g.S.Source.model.rest l.fn.input;
  few : length l.bytes.items ≤ 67108865;
  kept : SourceKept g.S.Source.model l.fn.input l.input;
}

abbrev pub decreases-loop-buffer : goal.decreases-loop-buffer
decreases-loop-buffer g l = 67108865 - length l.bytes.items
