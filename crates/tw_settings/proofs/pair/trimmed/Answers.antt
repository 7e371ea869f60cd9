use Rattle.std.proofs.Common.{◌∙◌, ap, reverse}
use Rattle.tw_settings.specs.Settings.{front_trimmed, trimmed}
use Rattle.tw_settings.proofs.Spaces.{trims_front, trims_end}
use Rattle.tw_settings.proofs.pair.trimmed.Goals as goal

pub returns : goal.returns
unfolding trimmed
returns c =
    trims_end c.trim_start_matches.result.now c.trim_end_matches.result.now c.trim_end_matches.ensures.matches
    ∙ ap (λ t. reverse (front_trimmed (reverse t))) (trims_front c.args.text.now c.trim_start_matches.result.now c.trim_start_matches.ensures.matches)
