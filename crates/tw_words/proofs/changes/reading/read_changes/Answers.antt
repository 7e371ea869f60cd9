use Rattle.std.proofs.Common.{◌≡◌, ◌∙◌, ◌==◌, ap, sym, subst, List, [], Option, Some, None, Result, Ok, Err}
use Rattle.tw_terms.specs.Scenes.{scene_of}
use Rattle.tw_terms.specs.declared.bad_word.BadWord.{BadWord}
use Rattle.tw_words.specs.Makes.{Reads}
use Rattle.tw_words.specs.Modifications.{rest_words, tally_of}
use Rattle.tw_words.specs.Readings.{with_words, modifications}
use Rattle.tw_words.specs.declared.changes.modification.Modification.{Modification}
use Rattle.tw_words.proofs.EmptyWords.{sole_if_empty}
use Rattle.tw_words.proofs.changes.reading.read_changes.Goals as goal

pub returns-in-Some : goal.returns-in-Some
returns-in-Some c =
    let scene = scene_of c.args.view.now in
    let line = c.args.line.now in
    let rest = rest_words line in
    let start = c.new-changes.result.items in
    let all = with_words scene c.is_sole.result line start line.rest_from rest in
    let same : all ≡ modifications scene line =
    ap (λ (ms : List Modification). with_words scene c.is_sole.result line ms line.rest_from rest) c.new-changes.ensures.items
    ∙ ap (λ sole. with_words scene sole line [] line.rest_from rest) c.is_sole.ensures
    ∙ sole_if_empty scene ((tally_of line).texts == 1) line [] line.rest_from rest in
    sym same ∙ subst (λ (o : Option BadWord). Reads o all c.read_words.new.changes.items) c.in-Some.is c.in_ok-bad.ensures

pub returns-in-None : goal.returns-in-None
returns-in-None c =
    let scene = scene_of c.args.view.now in
    let line = c.args.line.now in
    let rest = rest_words line in
    let start = c.new-changes.result.items in
    let all = with_words scene c.is_sole.result line start line.rest_from rest in
    let same : all ≡ modifications scene line =
    ap (λ (ms : List Modification). with_words scene c.is_sole.result line ms line.rest_from rest) c.new-changes.ensures.items
    ∙ ap (λ sole. with_words scene sole line [] line.rest_from rest) c.is_sole.ensures
    ∙ sole_if_empty scene ((tally_of line).texts == 1) line [] line.rest_from rest in
    sym same ∙ subst (λ (o : Option BadWord). Reads o all c.read_words.new.changes.items) c.in-None.is c.in_ok-bad.ensures
