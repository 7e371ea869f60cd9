use Rattle.std.proofs.Common.{◌≡◌, ◌≤◌, ◌++◌, ◌∷◌, [], List, length, ap, ◌∙◌, arith, rules}
use Rattle.std.proofs.lemmas.List.{length-append}
use Rattle.std.proofs.lemmas.Iterator.Adapters.{YieldsList-from_vec}
use Rattle.std.proofs.lemmas.Iterator.Consumers.{YieldsList-turn, YieldsList-end}
use Rattle.std.specs.Vec.{vec_capacity}
use Rattle.timew_month.specs.declared.months.MonthFile.{MonthFile}
use Rattle.timew_month.specs.Gathered.{files_of}
use Rattle.timew_month.proofs.PutFiles.{put_next, no_more}
use Rattle.timew_month.proofs.changed.files_with.Goals as goal

pub put_file-requires : goal.put_file-requires
put_file-requires c =
    let gives = c.into_iter-change-iterator.ensures.into_iter_gives in
    let begun = YieldsList-from_vec {s = c.into_iter-change-iterator.result} c.args.changes.items gives.0 (gives.1 ∙ c.args.changes.ok.0) in
    let t = YieldsList-turn begun c.loop-change.yielded _ c.loop-change.yielded_by _ c.next.new.self c.in-Some.change c.in-Some.is c.next.ensures.steps in
    omega (arith, t.0, c.args.changes.ok.0, c.loop-change.invariant.1, c.loop-change.invariant.2)

pub loop-change-preserved : goal.loop-change-preserved
loop-change-preserved c = (
  c.put_file.ensures.files ∙ put_next c.args.files.items c.loop-change.yielded c.in-Some.change c.loop-change.next.items c.loop-change.invariant.0,
  omega (arith, length-append c.loop-change.yielded (c.in-Some.change ∷ []), c.put_file.ensures.len, c.loop-change.invariant.1),
  omega (arith, c.put_file.ensures.capacity, c.loop-change.invariant.2),
)

pub returns : goal.returns
returns c =
    let gives = c.into_iter-change-iterator.ensures.into_iter_gives in
    let begun = YieldsList-from_vec {s = c.into_iter-change-iterator.result} c.args.changes.items gives.0 (gives.1 ∙ c.args.changes.ok.0) in
    let t = YieldsList-end begun c.loop-change.yielded _ c.loop-change.yielded_by _ c.next.new.self c.in-None.is c.next.ensures.steps in
    no_more c.args.files.items c.loop-change.yielded c.args.changes.items c.loop-change.next.items t.0 c.loop-change.invariant.0

pub loop-change-init : goal.loop-change-init
loop-change-init c =
    let joined : c.append.new.self.items ≡ c.args.room.items ++ c.args.files.items = search rules in
    let same : c.append.new.self.items ≡ c.args.files.items = joined ∙ ap (λ (l : List MonthFile). l ++ c.args.files.items) c.requires.empty in
    let capacity : vec_capacity c.args.room ≤ vec_capacity c.append.new.self = c.append.ensures.capacity in
    (ap files_of same, omega (arith, ap length same, c.append.new.self.ok.0, c.args.files.ok.0), omega (arith, capacity, c.requires.room))
