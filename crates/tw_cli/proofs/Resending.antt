-- What is appended to pending, and what a refused sync added.
use Rattle.std.proofs.Common.{◌∙◌, [], ◌++◌, refl, sym, ap}
use Rattle.std.proofs.lemmas.List.{append_assoc, append-nil}
use Rattle.tw_model.specs.LocalOps.{plain}
use Rattle.tw_path.proofs.Sending.{sent_stays}
use Rattle.tw_outcome.specs.End.{starts_at}
use Rattle.tw_outcome.proofs.Ends.{all_in_groups}
use Rattle.tw_sync.specs.Laws.LaterOps.{Follows}
use Rattle.tw_sync.proofs.PendingOps.{plain-append}
use Rattle.tw_sync.proofs.LaterOps.{commit_follows}
use Rattle.tw_sync.proofs.Ends.{added_was_sent}
use Rattle.tw_cli.specs.Resending.{AddedIsNotSentAgain, CommitAppends, AppendingGoesOn}

pub commit_appends : CommitAppends
commit_appends renumber ops old new e =
    let f : Follows old new ops = commit_follows old old new renumber [] ops (record { base = refl; start = refl; pending = sym (append-nil old.pending) }) e in
    record { base = f.base; start = f.start; pending = ap plain f.pending ∙ plain-append old.pending ops }

pub appending_goes_on : AppendingGoesOn
appending_goes_on a b c first second one two = record {
  base = two.base ∙ one.base;
  start = two.start ∙ one.start;
  pending = two.pending ∙ ap (λ xs. xs ++ second) one.pending ∙ append_assoc (plain a.pending) first second;
}

pub added_is_not_sent_again : AddedIsNotSentAgain
added_is_not_sent_again old new before after chain legs more v ops appended sound sound_now went grows a =
    let sent = added_was_sent old before after legs more v ops sound went in (
      sent.0,
      sent.1,
      sent_stays (starts_at old) (starts_at new) after.chain chain sent.0 sent.1 (sent.1 ++ appended) v.id sent.2 a.base a.start
          (sym (all_in_groups new.pending sound_now.begins)
          ∙ a.pending
          ∙ ap (λ xs. xs ++ appended) (all_in_groups old.pending sound.begins ∙ sent.2.all)
          ∙ append_assoc sent.0 sent.1 appended)
          grows,
    )
