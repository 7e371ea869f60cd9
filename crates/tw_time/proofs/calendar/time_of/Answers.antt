use Rattle.std.proofs.Common.{◌≡◌, pos, w8, to_z, arith, sym, ◌∙◌}
use Rattle.std.proofs.lemmas.Int.{to_z_pos}
use Rattle.std.proofs.lemmas.Result.{IfOk-at_ok}
use Rattle.jiff_core.proofs.SignedLemmas.{signed_arith}
use Rattle.tw_time.specs.Civil.{time_of}
use Rattle.tw_time.proofs.CivilFacts.{time_of_none, time_of-time}
use Rattle.tw_time.proofs.calendar.time_of.Goals as goal
use Rattle.tw_time.proofs.calendar.time_of.Goals.{then-hour-gt23-via-then-hour-gt23, then-hour-gt23-via-else-hour-gt23+then-minute-gt59, then-hour-gt23-via-else-hour-gt23+else-minute-gt59+then-second-gt59}

pub returns-then-hour-gt23 : goal.returns-then-hour-gt23
returns-then-hour-gt23 c = sym (time_of_none c.args.hour c.args.minute c.args.second (λ h m s.
    elim c.then-hour-gt23.branch [
      | then-hour-gt23-via-then-hour-gt23 w ↦ omega (arith, h)
      | then-hour-gt23-via-else-hour-gt23+then-minute-gt59 w ↦ omega (arith, m)
      | then-hour-gt23-via-else-hour-gt23+else-minute-gt59+then-second-gt59 w ↦ omega (arith, s)
    ]))

pub returns : goal.returns
returns c =
    let hour : to_z w8 c.args.hour ≡ pos c.args.hour = to_z_pos w8 c.args.hour (omega arith) in
    let minute : to_z w8 c.args.minute ≡ pos c.args.minute = to_z_pos w8 c.args.minute (omega arith) in
    let second : to_z w8 c.args.second ≡ pos c.args.second = to_z_pos w8 c.args.second (omega arith) in
    let is = IfOk-at_ok _ c.in-Ok.is c.new.ensures.value in
    let t = c.in-Ok.time in
    let h : c.args.hour ≡ t.hour = omega (arith, signed_arith, is.0 ∙ hour) in
    let m : c.args.minute ≡ t.minute = omega (arith, signed_arith, is.1 ∙ minute) in
    let s : c.args.second ≡ t.second = omega (arith, signed_arith, is.2 ∙ second) in
    let whole : t.subsec_nanosecond ≡ 0 = omega (arith, signed_arith, is.3) in
    sym ((λ i. time_of (h i) (m i) (s i)) ∙ time_of-time t whole)
