use Rattle.std.proofs.lemmas.Result.{err_from_is_err_and}
use Rattle.tw_fields.specs.Reading.{many_at}
use Rattle.tw_fields.proofs.ReadLoop.{ends, is_done}
use Rattle.timew_month.specs.Body.{file_at}
use Rattle.timew_month.specs.Records.{changes_of}
use Rattle.timew_month.proofs.FilesOfBody.{goes_on, names_more}
use Rattle.timew_month.proofs.body.read_files.Goals as goal

pub returns-in_err-file-clause-value : goal.returns-in_err-file-clause-value
returns-in_err-file-clause-value c =
    let p = err_from_is_err_and c.from_residual.result c.from_residual.ensures.1 in
    rw (p.1, p.2) (ends file_at c.in_err-file.field-0.0 (changes_of c.loop.files.items) c.args.count c.loop.counter c.loop.rest.now (many_at file_at c.args.count c.args.bytes.now) c.loop-test.true c.in_err-file.ensures.value c.loop.invariant.0)

pub loop-preserved : goal.loop-preserved
loop-preserved c = (
  rw c.in_ok-push.ensures.items (goes_on c.loop.files.items c.args.count c.loop.counter c.loop.rest.now c.in_ok-file.file c.in_ok-file.after.now (many_at file_at c.args.count c.args.bytes.now) c.loop-test.true c.in_ok-file.ensures.value c.loop.invariant.0),
  rw c.in_ok-push.ensures.items (names_more c.loop.files.items c.in_ok-file.file c.loop.invariant.1 c.in_ok-file.ensures.name),
)

pub returns-clause-value : goal.returns-clause-value
returns-clause-value c = is_done file_at (changes_of c.loop.files.items) c.args.count c.loop.counter c.loop.rest.now (many_at file_at c.args.count c.args.bytes.now) c.loop-test.false c.loop.invariant.0
