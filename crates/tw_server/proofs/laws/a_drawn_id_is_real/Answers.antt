use Rattle.std.proofs.Common.{◌≡◌, ◌/◌, subst}
use Rattle.std.specs.Prelude.{slice_index}
use Rattle.tw_server.proofs.Adds.{drawn_uuid, drawn_real}
use Rattle.tw_server.proofs.laws.a_drawn_id_is_real.Goals as goal

pub returns : goal.returns
returns c =
    let version = subst (λ x. slice_index x 6 / 16 ≡ 4) c.next.ensures.id c.next.ensures.version in
    let variant = subst (λ x. slice_index x 8 / 64 ≡ 2) c.next.ensures.id c.next.ensures.variant in
    (drawn_uuid c.args.start version variant, drawn_real c.args.start version)
