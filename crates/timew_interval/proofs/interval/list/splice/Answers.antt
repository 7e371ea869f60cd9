use Rattle.std.proofs.Common.{rules, ◌≡◌, ◌+◌, ◌-◌, length, ◌++◌, take, ap, ◌∙◌, ℕ}
use Rattle.timew_interval.proofs.SplicedRows.{turned, put_in_place}
use Rattle.timew_interval.proofs.interval.list.splice.Goals as goal

pub returns : goal.returns
returns c =
    let xs = c.args.rows.now.items in
    let y = c.args.new.items in
    let at = c.args.at in
    let count = c.args.count in
    let joined : c.append.new.self.items ≡ xs ++ y = search rules in
    let first : c.turn.new.rows.items ≡ turned at (length xs - at) (xs ++ y) = search rules in
    let second : c.turn-2.new.rows.items ≡ turned (at + length y) count (turned at (length xs - at) (xs ++ y)) = search rules in
    let total : c.len-len.result + c.len-added.result - count ≡ length xs + length y - count = search rules in
    c.truncate.ensures.items ∙ ap (take (c.len-len.result + c.len-added.result - count)) second
    ∙ ap (λ (n : ℕ). take n (turned (at + length y) count (turned at (length xs - at) (xs ++ y)))) total ∙ put_in_place xs y at count c.requires.inside
