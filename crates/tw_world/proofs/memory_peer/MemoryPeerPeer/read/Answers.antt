use Rattle.std.proofs.Common.{◌≡◌, ◌≤◌, ◌+◌, ◌-◌, ℕ, List, length, take, drop, arith, sym, ap, ◌∙◌}
use Rattle.std.proofs.lemmas.List.{take_at, drop-drop, drop_all, length-take-le, length-drop}
use Rattle.tw_world.proofs.memory_peer.MemoryPeerPeer.read.Goals as goal

pub returns-clause-gave : goal.returns-clause-gave
returns-clause-gave c = λ tells.
    let peer = c.args.self.now in
    let content = peer.content.items in
    let n = c.min-count.result in
    let few : n ≤ length c.args.out.now = omega arith in
    let copied : length c.copy_from_slice.new.self ≡ n = c.copy_from_slice.ensures.len ∙ length-take-le n c.args.out.now few in
    let whole : peer.at + n - peer.at ≡ n = omega arith in
    record {
      bytes = take_at c.copy_from_slice.new.self (drop n c.args.out.now) n copied ∙ c.copy_from_slice.ensures.after ∙ ap (λ (k : ℕ). take k (drop peer.at c.deref.result.now)) whole ∙ ap (λ (l : List ℕ). take n (drop peer.at l)) c.deref.ensures.value;
      rest = sym (drop-drop n peer.at content);
      there = omega (arith, length-drop peer.at content);
      end = λ none. drop_all peer.at content (omega (arith, none));
    }
