use Rattle.std.proofs.Common.{◌≡◌, ◌++◌, drop, map}
use Rattle.json.specs.Token.{string}
use Rattle.timew_cmd.proofs.commands.export.put_each_tag.Given as goal

abbrev pub invariant-loop-n : goal.invariant-loop-n
invariant-loop-n l = record {
  written : l.writer.tokens ++ map string (drop l.n l.tags) ≡ l.initial.writer.tokens ++ map string l.tags;
  before : l.writer.before ≡ l.initial.writer.before;
}
