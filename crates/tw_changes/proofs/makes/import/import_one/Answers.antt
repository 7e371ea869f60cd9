use Rattle.std.proofs.Common.{◌≡◌, ◌∙◌, ap, sym, ℕ, List}
use Rattle.tw_changes.specs.Request.{drawn, after_draw}
use Rattle.tw_changes.specs.Makes.Import.{is_taken, stopped}
use Rattle.tw_changes.proofs.ImportedElements.{drawn_taken}
use Rattle.tw_changes.proofs.makes.import.import_one.Goals as goal

pub returns-then-is_taken-clause-stops : goal.returns-then-is_taken-clause-stops
returns-then-is_taken-clause-stops c = λ d e es.
    let same : c.draw-uuid.result ≡ d = (let f = e in cc) in
    let uuid : drawn c.args.ids.now ≡ c.draw-uuid.result = sym c.draw-uuid.ensures.uuid in
    drawn_taken c.args.ids.now c.args.tasks.now c.args.changes.now.items c.args.element es c.in-None.is
    (ap (is_taken c.args.tasks.now c.args.changes.now.items) uuid ∙ sym (c.is_taken.ensures c.args.changes.now.items c.requires) ∙ c.if-is_taken.true)
    ∙ ap (λ (u : List ℕ). stopped u (after_draw c.args.ids.now)) (uuid ∙ same) ∙ ap (stopped d) (sym c.draw-uuid.ensures.ids)
