use Rattle.std.specs.Str.{IsAscii}
use Rattle.std.proofs.Common.{codes, subst, refl, ap, sym, ◌∙◌, ◌∷◌, [], pos}
use Rattle.tw_time.specs.Extended.{extended_second}
use Rattle.tw_time.proofs.PrintedFacts.{printed-ascii}
use Rattle.tw_time.proofs.BasicFacts.{extended_is}
use Rattle.tw_time.proofs.RoundTrip.{extended_second-printed}
use Rattle.tw_time.proofs.extended.print_extended.Goals as goal

pub returns-clause-text : goal.returns-clause-text
returns-clause-text c =
    (λ i. c.digit.ensures i ∷ c.digit-2.ensures i ∷ c.digit-3.ensures i ∷ c.digit-4.ensures i ∷ 45 ∷ c.digit-5.ensures i ∷ c.digit-6.ensures i ∷ 45 ∷ c.digit-7.ensures i ∷ c.digit-8.ensures i ∷ 84 ∷ c.digit-9.ensures i ∷ c.digit-10.ensures i ∷ 58 ∷ c.digit-11.ensures i ∷ c.digit-12.ensures i ∷ 58 ∷ c.digit-13.ensures i ∷ c.digit-14.ensures i ∷ []) ∙ sym (extended_is c.args.at c.utc_parts-parts.result c.utc_parts-parts.ensures.shown)

pub returns-clause-reads_back : goal.returns-clause-reads_back
returns-clause-reads_back c =
    ap extended_second (λ i. c.digit.ensures i ∷ c.digit-2.ensures i ∷ c.digit-3.ensures i ∷ c.digit-4.ensures i ∷ 45 ∷ c.digit-5.ensures i ∷ c.digit-6.ensures i ∷ 45 ∷ c.digit-7.ensures i ∷ c.digit-8.ensures i ∷ 84 ∷ c.digit-9.ensures i ∷ c.digit-10.ensures i ∷ 58 ∷ c.digit-11.ensures i ∷ c.digit-12.ensures i ∷ 58 ∷ c.digit-13.ensures i ∷ c.digit-14.ensures i ∷ []) ∙ extended_second-printed c.utc_parts-parts.result (pos c.args.at) c.utc_parts-parts.ensures.printable c.utc_parts-parts.ensures.counted

pub returns-clause-ascii : goal.returns-clause-ascii
returns-clause-ascii c =
    subst IsAscii (sym (λ i. c.digit.ensures i ∷ c.digit-2.ensures i ∷ c.digit-3.ensures i ∷ c.digit-4.ensures i ∷ 45 ∷ c.digit-5.ensures i ∷ c.digit-6.ensures i ∷ 45 ∷ c.digit-7.ensures i ∷ c.digit-8.ensures i ∷ 84 ∷ c.digit-9.ensures i ∷ c.digit-10.ensures i ∷ 58 ∷ c.digit-11.ensures i ∷ c.digit-12.ensures i ∷ 58 ∷ c.digit-13.ensures i ∷ c.digit-14.ensures i ∷ [])) (printed-ascii (codes "YYYY-MM-DDThh:mm:ss") c.utc_parts-parts.result refl)
