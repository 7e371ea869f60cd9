use Rattle.std.proofs.Common.{sym, Some, None, lit<}
use Rattle.std.proofs.lemmas.Str.Pattern.{strip_suffix_char}
use Rattle.tw_settings.proofs.Slashes.{unslashed_at, unslashed_none}
use Rattle.tw_settings.proofs.address.unslashed.Goals as goal

pub returns-in-Some : goal.returns-in-Some
returns-in-Some c =
    let parts = strip_suffix_char 47 c.args.text.now (Some c.in-Some.front) c.in-Some.ensures.cases (lit< tt) in
    rw parts (sym (unslashed_at c.in-Some.front.now))

pub returns-in-None : goal.returns-in-None
returns-in-None c = sym (unslashed_none c.args.text.now (strip_suffix_char 47 c.args.text.now None c.in-None.ensures.cases (lit< tt)))
