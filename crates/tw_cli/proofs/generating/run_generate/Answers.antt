use Rattle.std.proofs.Common.{ℕ, List, subst}
use Rattle.tw_world.specs.Sink.{Got, GotPart}
use Rattle.tw_words.specs.Faults.{number_behind}
use Rattle.tw_generate.specs.Generated.{IsGenerated}
use Rattle.tw_cli.specs.Generating.{GeneratedBy, GenerateGives}
use Rattle.tw_cli.proofs.Endings.{at_end}
use Rattle.tw_cli.proofs.generating.run_generate.Goals as goal

pub returns-in-Ok-clause-gives : goal.returns-in-Ok-clause-gives
returns-in-Ok-clause-gives g c =
    let text : List ℕ = c.in-Ok.text.items in
    let made : GeneratedBy c.args.line.now c.args.settings.now text =
    subst (λ w. IsGenerated (number_behind c.args.line.now 0) (number_behind c.args.line.now 1) w text) c.weights-weights.ensures.value
    (subst (λ (n : ℕ). IsGenerated (number_behind c.args.line.now 0) n c.weights-weights.result text) c.number-2.ensures (subst (λ (n : ℕ). IsGenerated n c.number-2.result c.weights-weights.result text) c.number.ensures c.in-Ok.ensures)) in
    at_end g.O.Sink.model c.args.out.now c.print.new.out c.as_slice.result.now c.print.result
    (GenerateGives g.O.Sink.model c.args.line.now c.args.settings.now c.args.out.now c.print.new.out) c.print.ensures
    (λ got. (text, made, subst (Got g.O.Sink.model c.args.out.now c.print.new.out) c.as_slice.ensures.value got))
    (λ part rose. ((text, made, subst (GotPart g.O.Sink.model c.args.out.now c.print.new.out) c.as_slice.ensures.value part), rose))
