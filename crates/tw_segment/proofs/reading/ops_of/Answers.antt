use Rattle.std.proofs.Common.{◌≡◌, ◌∙◌, ◌<◌, ◌+◌, ◌++◌, ap, sym, subst, length, get_or, option_map, Some, drop}
use Rattle.std.proofs.lemmas.List.{length_push}
use Rattle.serde_json.specs.View.{view, items_view}
use Rattle.tw_segment.specs.Segment.{ops_of, bad_index, op_of}
use Rattle.tw_segment.proofs.Loops.{rest_is, read_more, place_more}
use Rattle.tw_segment.proofs.reading.ops_of.Goals as goal

pub loop-value-preserved : goal.loop-value-preserved
loop-value-preserved c =
    let at = c.loop-value.value-index in
    let vs = c.args.values.now.items in
    let v = c.value-item.result in
    let front = c.loop-value.ops.items in
    let within : at < length vs = subst (λ xs. at < length xs) c.deref-value-items.ensures.value c.loop-value-test.true in
    let is : v ≡ get_or vs at v = subst (λ xs. v ≡ get_or xs at v) c.deref-value-items.ensures.value c.value-item.is in
    let rest = rest_is vs at v within is in
    let op : Some c.in-Some.op ≡ op_of (view v) = sym c.in-Some.is ∙ c.in_ok-op.ensures in
    record {
      read = c.loop-value.invariant.read ∙ ap (λ its. option_map (λ more. front ++ more) (ops_of its)) rest ∙ read_more (view v) (items_view (drop (at + 1) vs)) front c.push.new.self.items c.in-Some.op op c.in_ok-push.ensures.items;
      place = c.loop-value.invariant.place ∙ ap (λ its. option_map (λ p. at + p) (bad_index its)) rest ∙ place_more (view v) (items_view (drop (at + 1) vs)) at c.in-Some.op op;
      count = ap length c.in_ok-push.ensures.items ∙ length_push front c.in-Some.op ∙ ap (λ n. n + 1) c.loop-value.invariant.count;
    }
