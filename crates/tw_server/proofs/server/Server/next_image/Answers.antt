use Rattle.std.proofs.Common.{◌∙◌, sym, true, false}
use Rattle.tw_records.specs.Bodies.{image_of, snapshot_in, is_snapshot_body, is_next_image}
use Rattle.tw_server.proofs.Openings.{none_either, image_is}
use Rattle.tw_server.proofs.server.Server.next_image.Goals as goal

pub returns-in-None : goal.returns-in-None
returns-in-None c log knows sound =
    none_either (is_snapshot_body c.args.front.now) (is_next_image log (image_of (snapshot_in c.args.front.now))) (image_of (snapshot_in c.args.front.now)) (sym c.read_image.ensures ∙ c.in-None.is)

pub returns-then-is_welcome : goal.returns-then-is_welcome
returns-then-is_welcome c log knows sound = image_is log c.args.front.now c.in-Some.image true (sym c.read_image.ensures ∙ c.in-Some.is) (c.if-is_welcome.ensures log knows sound)

pub returns-else-is_welcome : goal.returns-else-is_welcome
returns-else-is_welcome c log knows sound = image_is log c.args.front.now c.in-Some.image false (sym c.read_image.ensures ∙ c.in-Some.is) (c.if-is_welcome.ensures log knows sound)
