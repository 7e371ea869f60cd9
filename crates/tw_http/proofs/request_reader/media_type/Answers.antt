use Rattle.std.proofs.Common.{◌∙◌, ap, take}
use Rattle.std.proofs.lemmas.List.Folds.{length-prefix_len}
use Rattle.std.proofs.lemmas.Str.Ascii.{trim_ascii_end_is}
use Rattle.tw_http.specs.Requests.{is_before_parameters, trimmed_end}
use Rattle.tw_http.proofs.request_reader.media_type.Goals as goal

pub returns : goal.returns
returns c =
    let value = c.args.value.now in
    trim_ascii_end_is _ _ c.trim_ascii_end.ensures.value ∙ ap (λ n. trimmed_end (take n value)) (c.type_len.ensures.value ∙ length-prefix_len is_before_parameters value)
