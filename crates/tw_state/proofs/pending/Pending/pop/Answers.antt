use Rattle.std.proofs.Common.{◌++◌, ◌∙◌, List, Option, ap, subst, sym, arith}
use Rattle.std.specs.Option.{option_to_list}
use Rattle.tw_state.specs.Groups.{group_in, groups_in, AreCounted}
use Rattle.tw_state.specs.declared.pending.Group.{Group}
use Rattle.tw_state.proofs.PendingBodies.{groups_push, group_is, same_left, kept_fewer}
use Rattle.tw_state.proofs.pending.Pending.pop.Goals as goal

pub overflow_sub-self : goal.overflow_sub-self
overflow_sub-self c =
    let whole = c.pop.ensures.items ∙ ap (λ (o : Option Group). c.pop.new.self.items ++ option_to_list o) c.in-Some.is in
    (kept_fewer c.pop.new.self.items c.in-Some.kept c.self.inside.count (subst (λ (bs : List Group). AreCounted bs c.self.inside.count) whole c.self.invariant)).1

pub invariant_of-self : goal.invariant_of-self
invariant_of-self c =
    let whole = c.pop.ensures.items ∙ ap (λ (o : Option Group). c.pop.new.self.items ++ option_to_list o) c.in-Some.is in
    (kept_fewer c.pop.new.self.items c.in-Some.kept c.self.inside.count (subst (λ (bs : List Group). AreCounted bs c.self.inside.count) whole c.self.invariant)).0

pub returns-in-Some : goal.returns-in-Some
returns-in-Some c = λ ops last.
    let whole = c.pop.ensures.items ∙ ap (λ (o : Option Group). c.pop.new.self.items ++ option_to_list o) c.in-Some.is in
    let own = (kept_fewer c.pop.new.self.items c.in-Some.kept c.self.inside.count (subst (λ (bs : List Group). AreCounted bs c.self.inside.count) whole c.self.invariant)).2 in
    let count = own.count in
    let some = own.some in
    same_left c.args.self.now (groups_in c.pop.new.self.items) ops (group_in c.in-Some.kept.body.items) last (sym c.self.view_is ∙ ap groups_in whole ∙ groups_push c.pop.new.self.items c.in-Some.kept) (group_is c.in-Some.kept.body.items) (omega arith)
