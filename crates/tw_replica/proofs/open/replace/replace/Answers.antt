use Rattle.std.proofs.Common.{inl, ◌+◌, ◌^◌, ◌∙◌, List, ℕ, subst, arith}
use Rattle.std.proofs.lemmas.Result.{err_from_is_err_and}
use Rattle.tw_world.proofs.Moments.{joined}
use Rattle.tw_journal.specs.Journal.{IsOpenOn}
use Rattle.tw_state.specs.State.{Stands}
use Rattle.tw_state.specs.Core.{state_of}
use Rattle.tw_replica.specs.Replica.{magic, OpensTo}
use Rattle.tw_replica.specs.Opening.{renewed}
use Rattle.tw_replica.proofs.Renewing.{replaced_is, grows_on, no_longer_still, not_shortened}
use Rattle.tw_replica.proofs.open.replace.replace.Goals as goal

pub returns-in_err-renew-clause-growth : goal.returns-in_err-renew-clause-growth
returns-in_err-renew-clause-growth g c = λ bodies on most le. c.renew.ensures.growth bodies on most (λ v. le (inl v))

pub returns-in_err-shorten-clause-any_moment : goal.returns-in_err-shorten-clause-any_moment
returns-in_err-shorten-clause-any_moment g c = λ bodies on stands.
    let state = state_of c.args.core.now in
    let r = c.in_ok-renew.ensures.replaced in
    joined g.D.Disk.model c.args.disk.now c.renew.new.disk c.shorten.new.disk (λ f. OpensTo f state) (c.renew.ensures.any_moment bodies on stands)
    (c.shorten.ensures.any_moment (renewed c.args.journal.now state bodies) (r.records bodies on) (r.stands bodies on stands))

pub returns-in_err-shorten-clause-growth : goal.returns-in_err-shorten-clause-growth
returns-in_err-shorten-clause-growth g c = λ bodies on most le.
    let m = g.D.Disk.model in
    let state = state_of c.args.core.now in
    let now = c.in_ok-renew.ensures.replaced.records bodies on in
    grows_on m g.met.D.Disk.counts_now c.args.disk.now c.renew.new.disk c.shorten.new.disk most (2 ^ 30 + 24) (2 ^ 30 + 2) (c.renew.ensures.growth bodies on most (λ v. le (inl v)))
    (c.shorten.ensures.growth (renewed c.args.journal.now state bodies) now most (no_longer_still m c.args.disk.now c.renew.new.disk c.args.journal.now c.renew.new.journal state bodies most on now c.in_ok-renew.ensures.in_place le)) (omega arith)

pub returns-clause-any_moment : goal.returns-clause-any_moment
returns-clause-any_moment g c = λ bodies on stands.
    let state = state_of c.args.core.now in
    let r = c.in_ok-renew.ensures.replaced in
    joined g.D.Disk.model c.args.disk.now c.renew.new.disk c.shorten.new.disk (λ f. OpensTo f state) (c.renew.ensures.any_moment bodies on stands)
    (c.shorten.ensures.any_moment (renewed c.args.journal.now state bodies) (r.records bodies on) (r.stands bodies on stands))

pub returns-clause-growth : goal.returns-clause-growth
returns-clause-growth g c = λ bodies on most le.
    let m = g.D.Disk.model in
    let state = state_of c.args.core.now in
    let now = c.in_ok-renew.ensures.replaced.records bodies on in
    grows_on m g.met.D.Disk.counts_now c.args.disk.now c.renew.new.disk c.shorten.new.disk most (2 ^ 30 + 24) (2 ^ 30 + 2) (c.renew.ensures.growth bodies on most (λ v. le (inl v)))
    (c.shorten.ensures.growth (renewed c.args.journal.now state bodies) now most (no_longer_still m c.args.disk.now c.renew.new.disk c.args.journal.now c.renew.new.journal state bodies most on now c.in_ok-renew.ensures.in_place le)) (omega arith)

pub returns-in_err-shorten-clause-refused : goal.returns-in_err-shorten-clause-refused
returns-in_err-shorten-clause-refused g c =
    let p = err_from_is_err_and c.from_residual-in_err-shorten.result c.from_residual-in_err-shorten.ensures.1 in
    rw (p.1, p.2) (not_shortened g.D.Disk.model c.args.disk.now c.renew.new.disk c.shorten.new.disk c.args.journal.now c.renew.new.journal (state_of c.args.core.now) c.in_err-shorten.field-0.0
    c.renew.ensures.kept c.in_ok-renew.ensures.replaced.records c.in_err-shorten.ensures.refused)

pub returns-clause-replaced : goal.returns-clause-replaced
returns-clause-replaced g c =
    let journal = c.args.journal.now in
    let state = state_of c.args.core.now in
    let r = c.in_ok-renew.ensures.replaced in
    let s = c.in_ok-shorten.ensures in
    record {
      records = λ bodies on. subst (IsOpenOn g.D.Disk.model magic c.shorten.new.journal c.shorten.new.disk) (replaced_is journal state bodies c.renew.new.journal c.in_ok-renew.ensures.in_place.areas) (s.records (renewed journal state bodies) (r.records bodies on));
      stands = λ bodies on stands. subst (λ (l : List (List ℕ)). Stands l state) (replaced_is journal state bodies c.renew.new.journal c.in_ok-renew.ensures.in_place.areas) (s.stands (renewed journal state bodies) (r.records bodies on) (r.stands bodies on stands));
      length = s.length;
      live = s.live;
      version = λ bodies on. c.shorten.ensures.version ∙ r.version bodies on;
    }
