use Rattle.std.proofs.Common.{◌∙◌, ap, unwrap_or}
use Rattle.tw_time.specs.Tables.{look_up}
use Rattle.tw_import.specs.Meanings.{kinds, kind_of}
use Rattle.tw_import.specs.declared.kind.Kind.TheVariants.{Plain}
use Rattle.tw_import.proofs.kind.kind_of.Goals as goal

pub returns : goal.returns
unfolding kind_of
returns c =
    c.kind_or_plain.ensures
    ∙ ap (λ kind. unwrap_or kind Plain) (c.look_up.ensures ∙ ap (λ text. look_up text kinds) c.as_bytes.ensures.value)
