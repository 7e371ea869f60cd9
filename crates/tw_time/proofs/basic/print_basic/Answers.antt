use Rattle.std.specs.Str.{IsAscii}
use Rattle.std.proofs.Common.{codes, subst, refl, ap, sym, ◌∙◌, ◌∷◌, []}
use Rattle.tw_time.specs.Basic.{basic_moment}
use Rattle.tw_time.proofs.PrintedFacts.{printed-ascii}
use Rattle.tw_time.proofs.BasicFacts.{basic_is}
use Rattle.tw_time.proofs.RoundTrip.{basic_moment-printed}
use Rattle.tw_time.proofs.basic.print_basic.Goals as goal

pub returns-clause-text : goal.returns-clause-text
returns-clause-text c =
    (λ i. c.digit.ensures i ∷ c.digit-2.ensures i ∷ c.digit-3.ensures i ∷ c.digit-4.ensures i ∷ c.digit-5.ensures i ∷ c.digit-6.ensures i ∷ c.digit-7.ensures i ∷ c.digit-8.ensures i ∷ 84 ∷ c.digit-9.ensures i ∷ c.digit-10.ensures i ∷ c.digit-11.ensures i ∷ c.digit-12.ensures i ∷ c.digit-13.ensures i ∷ c.digit-14.ensures i ∷ 90 ∷ []) ∙ sym (basic_is c.args.at c.utc_parts-parts.result c.utc_parts-parts.ensures.shown)

pub returns-clause-reads_back : goal.returns-clause-reads_back
returns-clause-reads_back c =
    ap basic_moment (λ i. c.digit.ensures i ∷ c.digit-2.ensures i ∷ c.digit-3.ensures i ∷ c.digit-4.ensures i ∷ c.digit-5.ensures i ∷ c.digit-6.ensures i ∷ c.digit-7.ensures i ∷ c.digit-8.ensures i ∷ 84 ∷ c.digit-9.ensures i ∷ c.digit-10.ensures i ∷ c.digit-11.ensures i ∷ c.digit-12.ensures i ∷ c.digit-13.ensures i ∷ c.digit-14.ensures i ∷ 90 ∷ []) ∙ basic_moment-printed c.utc_parts-parts.result c.args.at c.utc_parts-parts.ensures.printable c.utc_parts-parts.ensures.placed

pub returns-clause-ascii : goal.returns-clause-ascii
returns-clause-ascii c =
    subst IsAscii (sym (λ i. c.digit.ensures i ∷ c.digit-2.ensures i ∷ c.digit-3.ensures i ∷ c.digit-4.ensures i ∷ c.digit-5.ensures i ∷ c.digit-6.ensures i ∷ c.digit-7.ensures i ∷ c.digit-8.ensures i ∷ 84 ∷ c.digit-9.ensures i ∷ c.digit-10.ensures i ∷ c.digit-11.ensures i ∷ c.digit-12.ensures i ∷ c.digit-13.ensures i ∷ c.digit-14.ensures i ∷ 90 ∷ [])) (printed-ascii (codes "YYYYMMDDThhmmssZ") c.utc_parts-parts.result refl)
