use Rattle.std.proofs.Common.{◌≡◌, ◌∙◌, ◌<◌, ◌≤◌, ◌+◌, ◌++◌, ◌∷◌, [], suc, length, take, replicate, vec_len, refl, sym, ap, subst, arith}
use Rattle.std.proofs.lemmas.List.{length-map, length-take-le, take_all}
use Rattle.tw_server.specs.Index.{IsIndexOf, key_of, keys_of}
use Rattle.tw_server.proofs.Buckets.{empty_buckets, keys_further}
use Rattle.tw_server.proofs.index.Index.fill_again.Goals as goal

pub loop-entry-init : goal.loop-entry-init
loop-entry-init c =
    let ends = c.fill.new.self.items in
    let filled = c.fill.ensures.len in
    let wide : length ends ≡ length c.args.self.now.ends.items = omega (arith, filled) in
    let size : vec_len c.args.self.now.ends ≡ length ends = omega (arith, filled) in
    record {
      index = empty_buckets (length ends) ends c.clear.new.self.items (c.fill.ensures.items (λ y is. is) ∙ ap (λ n. replicate n 0) size) refl c.clear.ensures.items;
      ends = wide;
      capacity = c.clear.ensures.capacity;
    }

pub push-requires : goal.push-requires
push-requires c =
    let l = c.loop-entry in
    let inside : l.entry-index < length c.args.entries.now = c.loop-entry-test.true in
    let long : length l.self.before.items ≡ l.entry-index =
    l.invariant.index.long ∙ length-map (take l.entry-index c.args.entries.now) (key_of c.args.by_parent) ∙ length-take-le l.entry-index c.args.entries.now (omega (arith, inside)) in
    let ends = l.invariant.ends in
    let capacity = l.invariant.capacity in
    let some = c.requires.some in
    let spare = c.requires.spare in
    let few = c.requires.few in
    record {
      buckets = omega (arith, ends, some);
      spare = omega (arith, inside, long, capacity, spare);
      few = omega (arith, inside, long, few);
    }

pub loop-entry-preserved : goal.loop-entry-preserved
loop-entry-preserved c =
    let l = c.loop-entry in
    let by_parent = c.args.by_parent in
    let es = c.args.entries.now in
    let next : suc l.entry-index ≡ l.entry-index + 1 = omega arith in
    let keys =
    ap (λ k. keys_of by_parent (take l.entry-index es) ++ k ∷ []) c.key_of.ensures
    ∙ sym (keys_further by_parent es l.entry-index c.entry-item.result c.loop-entry-test.true c.entry-item.is)
    ∙ ap (λ k. keys_of by_parent (take k es)) next in
    record {
      index = subst (IsIndexOf c.push.new.self) keys (c.push.ensures.index (keys_of by_parent (take l.entry-index es)) l.invariant.index);
      ends = c.push.ensures.ends ∙ l.invariant.ends;
      capacity = c.push.ensures.capacity ∙ l.invariant.capacity;
    }

pub returns-clause-index : goal.returns-clause-index
returns-clause-index c =
    let l = c.loop-entry in
    subst (λ es. IsIndexOf l.self (keys_of c.args.by_parent es)) (take_all l.entry-index c.args.entries.now (omega arith)) l.invariant.index
