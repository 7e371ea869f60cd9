use Rattle.std.proofs.Common.{◌∙◌, ap, sym, Result}
use Rattle.tw_cli.specs.Asked.{asked_by, needs_hours}
use Rattle.tw_cli.specs.declared.asked.Job.{Job}
use Rattle.tw_cli.specs.declared.asked.LineError.{LineError}
use Rattle.tw_cli.proofs.Asking.{job_asked}
use Rattle.tw_cli.proofs.asked.needs_hours.Goals as goal

pub returns-in-Ok : goal.returns-in-Ok
returns-in-Ok c =
    c.is_for_hours.ensures
    ∙ ap (λ (found : Result Job LineError). needs_hours found) (sym (job_asked (asked_by c.args.words.now c.args.settings.now c.args.now c.args.zone) c.asked.result c.in-Ok.job c.asked.ensures c.in-Ok.is))
