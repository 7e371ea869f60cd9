use Rattle.std.proofs.Common.{◌+◌, inl, inr, refl}
use Rattle.tw_http.specs.Messages.{max_body}
use Rattle.tw_server.specs.Log.{log_after}
use Rattle.tw_server.specs.Server.{most_added, drawn_id}
use Rattle.tw_server.proofs.Disks.{growth_within, most_fits}
use Rattle.tw_server.proofs.Ends.{sent_served, if_cut_off, sent_cut_off, never_cut_off}
use Rattle.tw_server.proofs.serve.serve_request.Goals as goal

pub returns-in-Ok-clause-growth : goal.returns-in-Ok-clause-growth
returns-in-Ok-clause-growth g c log on =
    growth_within g.D.Disk.model c.args.disk.now c.answer.new.disk (most_added c.args.request.now) (max_body + 54) (most_fits c.args.request.now c.requires.fits) (c.answer.ensures.growth log on)

pub returns-in-Err-clause-growth : goal.returns-in-Err-clause-growth
returns-in-Err-clause-growth g c log on =
    growth_within g.D.Disk.model c.args.disk.now c.answer.new.disk (most_added c.args.request.now) (max_body + 54) (most_fits c.args.request.now c.requires.fits) (c.answer.ensures.growth log on)

pub returns-in-Ok-clause-cut_off : goal.returns-in-Ok-clause-cut_off
returns-in-Ok-clause-cut_off g c =
    if_cut_off c.send.result _ _ (λ wrote tells. record { response = c.in-Ok.response; written = wrote tells; acts = (c.in-Ok.ensures.kind, (λ log on. c.in-Ok.ensures.answered log on), c.in-Ok.ensures.remembered) })
    (sent_cut_off g.P.Peer.model c.args.peer.now c.send.new.peer c.in-Ok.response c.send.result c.send.ensures.sent)

pub returns-in-Err-clause-cut_off : goal.returns-in-Err-clause-cut_off
returns-in-Err-clause-cut_off g c = never_cut_off c.end_of.result c.in-Err.error _ c.end_of.ensures

pub returns-in-Ok-clause-served : goal.returns-in-Ok-clause-served
returns-in-Ok-clause-served g c =
    sent_served g.P.Peer.model c.args.peer.now c.send.new.peer c.in-Ok.response c.send.result _ c.send.ensures.sent (λ status code written tells. record {
      response = c.in-Ok.response;
      code = code;
      written = written tells;
      acts = (c.in-Ok.ensures.kind, (λ log on. c.in-Ok.ensures.answered log on), c.in-Ok.ensures.remembered);
    })

pub returns-in-Err-clause-step : goal.returns-in-Err-clause-step
returns-in-Err-clause-step g c log on = record {
  next = log_after log c.args.request.now (drawn_id c.args.ids.now.start);
  by_request = inr (c.args.request.now, refl, refl);
  moments = c.answer.ensures.any_moment log on;
  stands = λ open_now. inl (c.in-Err.ensures.stays log on open_now);
}
