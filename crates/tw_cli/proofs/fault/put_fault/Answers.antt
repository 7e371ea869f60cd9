use Rattle.std.proofs.Common.{◌++◌, sym, subst, codes, List, ℕ}
use Rattle.tw_ending.specs.Lines.{numbered, GotLine}
use Rattle.tw_cli.specs.Fault.{GotFault}
use Rattle.tw_cli.proofs.fault.put_fault.Goals as goal

pub returns-in-BadInput : goal.returns-in-BadInput
returns-in-BadInput g c =
    subst (GotFault g.E.Sink.model c.args.err.now c.put_bad_input.new.err) (sym c.in-BadInput.is)
    (subst (λ (name : List ℕ). GotLine g.E.Sink.model c.args.err.now c.put_bad_input.new.err (numbered (codes "task: element ") c.in-BadInput.index (codes " is no task: ") ++ (name ++ codes "\n"))) c.as_str.ensures c.put_bad_input.ensures)

pub returns-in-HookRefused : goal.returns-in-HookRefused
returns-in-HookRefused g c =
    subst (GotFault g.E.Sink.model c.args.err.now c.put_hook.new.err) (sym c.in-HookRefused.is)
    (subst (λ (name : List ℕ). GotLine g.E.Sink.model c.args.err.now c.put_hook.new.err (codes "task: hook " ++ (name ++ codes " refused\n"))) c.as_str-in-HookRefused.ensures c.put_hook.ensures)

pub returns-in-HookAnswer : goal.returns-in-HookAnswer
returns-in-HookAnswer g c =
    subst (GotFault g.E.Sink.model c.args.err.now c.put_hook-in-HookAnswer.new.err) (sym c.in-HookAnswer.is)
    (subst (λ (name : List ℕ). GotLine g.E.Sink.model c.args.err.now c.put_hook-in-HookAnswer.new.err (codes "task: hook " ++ (name ++ codes " answered no task\n"))) c.as_str-in-HookAnswer.ensures c.put_hook-in-HookAnswer.ensures)

pub returns-in-TrackBad : goal.returns-in-TrackBad
returns-in-TrackBad g c =
    subst (GotFault g.E.Sink.model c.args.err.now c.put_bad_line.new.err) (sym c.in-TrackBad.is)
    (subst (λ (name : List ℕ). GotLine g.E.Sink.model c.args.err.now c.put_bad_line.new.err (numbered (codes "task: line ") c.in-TrackBad.line (codes " of ") ++ (name ++ codes " is no interval\n"))) c.as_str-in-TrackBad.ensures c.put_bad_line.ensures)
