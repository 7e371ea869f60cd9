use Rattle.std.proofs.Common.{◌∙◌, []}
use Rattle.tw_numbers.proofs.AssignedByLooks.{left_assigns}
use Rattle.tw_numbers.proofs.AlikeOnPart.{left_alike, ranks_alike}
use Rattle.tw_numbers.proofs.numbering.assigned.Goals as goal

pub returns : goal.returns
returns c = λ tasks agree ready.
    let places = c.args.numbers.now.items in
    let us = c.args.touched.now.keys in
    let part = c.args.part.now in
    c.in_ok-push_ranks.ensures
    ∙ left_assigns places c.in_ok-places.places.items tasks us c.in_ok-ranks.ranks.keys ready (c.in_ok-places.ensures ∙ left_alike us part tasks places agree)
    (c.in_ok-ranks.ensures places c.in_ok-placed.ensures ∙ ranks_alike places part tasks [] us agree)
