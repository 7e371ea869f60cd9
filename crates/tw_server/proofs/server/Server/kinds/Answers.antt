use Rattle.std.proofs.Common.{◌∙◌, ◌+◌, ◌<◌, [], ◌∷◌, length, map, ap, arith}
use Rattle.std.proofs.lemmas.List.{length-append, take_all}
use Rattle.tw_journal.specs.Journal.{journal_count}
use Rattle.tw_records.specs.Bodies.{kind_in}
use Rattle.tw_server.proofs.Openings.{kinds_more}
use Rattle.tw_server.proofs.server.Server.kinds.Goals as goal

pub loop-n-preserved : goal.loop-n-preserved
loop-n-preserved g c =
    let l = c.loop-n in
    let inside : l.n < journal_count c.args.self.now.journal = let some = c.loop-n-test.true in let end = c.count-n-end.ensures in omega (arith, some, end) in
    record {
      kinds = λ magic bodies on.
          let long = on.count in
          kinds_more bodies l.n c.first.result l.kinds.items _ (omega (arith, inside, long)) (l.invariant.kinds magic bodies on) (c.first.ensures.first magic bodies on) c.in_ok-push.ensures.items;
      count = ap length c.in_ok-push.ensures.items ∙ length-append l.kinds.items (c.first.result ∷ []) ∙ ap (λ k. k + 1) l.invariant.count;
      few = omega (arith, inside);
    }

pub returns-clause-kinds : goal.returns-clause-kinds
returns-clause-kinds g c = λ magic bodies on.
    let l = c.loop-n in
    let long = on.count in
    let done = c.loop-n-test.false in
    let end = c.count-n-end.ensures in
    l.invariant.kinds magic bodies on ∙ ap (map kind_in) (take_all l.n bodies (omega (arith, long, done, end)))
