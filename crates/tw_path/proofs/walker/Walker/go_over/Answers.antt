use Rattle.std.proofs.Common.{◌≡◌, ◌∙◌, true, false, sym, subst}
use Rattle.tw_model.specs.Ops.{fits, apply}
use Rattle.tw_path.specs.Presence.{Tells}
use Rattle.tw_path.specs.Walk.{StandsAt}
use Rattle.tw_path.proofs.Walking.{over_unfit, stands_over}
use Rattle.tw_path.proofs.walker.Walker.go_over.Goals as goal

pub returns-then-not-fits : goal.returns-then-not-fits
returns-then-not-fits c = λ r s.
    let unfit : fits r.tasks c.args.op.now ≡ false = sym (c.fits.ensures r.tasks s.there) ∙ c.if-not-fits.true in
    subst (λ x. StandsAt c.args.hand.now x c.args.self.now) (sym (over_unfit r c.args.op.now unfit)) s

pub returns : goal.returns
returns c = λ r s.
    let fit : fits r.tasks c.args.op.now ≡ true = sym (c.fits.ensures r.tasks s.there) ∙ c.if-not-fits.false in
    let there : Tells c.go_over_fitting.new.self.there c.args.hand.now (apply r.tasks c.args.op.now) =
    subst (λ p. Tells p c.args.hand.now (apply r.tasks c.args.op.now)) (sym c.go_over_fitting.ensures.there) (c.in_ok-follow.ensures c.args.hand.now r.tasks s.there) in
    stands_over c.args.hand.now r c.args.self.now c.go_over_fitting.new.self c.args.op.now s fit c.go_over_fitting.ensures.at c.go_over_fitting.ensures.mine there
    c.in_ok-go_over_fitting.ensures.apart c.in_ok-go_over_fitting.ensures.met
