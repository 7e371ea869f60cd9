use Rattle.std.proofs.Common.{ℕ, ◌^◌, List, Result, length, refl, ap, sym, subst}
use Rattle.tw_world.proofs.Moments.{untouched}
use Rattle.timew_store.proofs.Growth.{nothing_grown as no_growth}
use Rattle.tw_world.specs.Turns.{InTurns, crash_of}
use Rattle.timew_interval.specs.Edit.{edited}
use Rattle.timew_store.specs.Held.{held_by}
use Rattle.timew_store.specs.Store.{intervals_of}
use Rattle.timew_interval.specs.declared.interval.Interval.{Interval}
use Rattle.timew_cmd.specs.Planned.{Fails, planned}
use Rattle.timew_cmd.specs.Texts.{stored}
use Rattle.timew_cmd.specs.declared.error.TimewError.{TimewError}
use Rattle.timew_cli.specs.Carried.{changes}
use Rattle.timew_cli.specs.Cause.{change_cause}
use Rattle.timew_cli.specs.Run.{went}
use Rattle.timew_cli.specs.Step.{EndsBadly, EndsWith, Among}
use Rattle.timew_cli.proofs.Ending.{rests, among_here, made_of_kept, plan_ends, plan_fault, change_ends, change_fault, change_done}
use Rattle.timew_cli.proofs.carry.change.Goals as goal

pub returns-in-Err-clause-ends : goal.returns-in-Err-clause-ends
returns-in-Err-clause-ends g c = λ bodies history on.
    let m = g.F.Folder.model in
    let n = g.D.Disk.model in
    let held = held_by m c.args.folder.now history in
    let fails = subst (λ (r : List Interval). Fails c.in-Err.error (planned c.args.command.now r c.args.now)) c.intervals.ensures c.in-Err.ensures.planned in
    plan_ends m n (went c.args.folder.now c.args.folder.now c.args.disk.now c.args.disk.now) held bodies (planned c.args.command.now (intervals_of c.args.store) c.args.now) c.in-Err.error fails (rests m n c.args.store c.args.folder.now c.args.disk.now bodies history on)

pub returns-in-Err-clause-faults : goal.returns-in-Err-clause-faults
returns-in-Err-clause-faults g c = plan_fault g.F.Folder.model g.D.Disk.model (went c.args.folder.now c.args.folder.now c.args.disk.now c.args.disk.now) c.args.store c.in-Err.error (refl, untouched g.D.Disk.model g.met.D.Disk.only_now c.args.disk.now)

pub returns-in-Err-clause-growth : goal.returns-in-Err-clause-growth
returns-in-Err-clause-growth g c = λ bodies on. no_growth g.D.Disk.model g.met.D.Disk.only_now c.args.disk.now (2 ^ 30)

pub returns-in-Err-clause-any_moment : goal.returns-in-Err-clause-any_moment
returns-in-Err-clause-any_moment g c = λ bodies history on. among_here g.F.Folder.model g.D.Disk.model c.args.store c.args.folder.now c.args.disk.now bodies history _ on

pub returns-in-Err-change-clause-ends : goal.returns-in-Err-change-clause-ends
returns-in-Err-change-clause-ends g c = λ bodies history on.
    let m = g.F.Folder.model in
    let n = g.D.Disk.model in
    let held = held_by m c.args.folder.now history in
    let w = went c.args.folder.now c.change.new.folder c.args.disk.now c.change.new.disk in
    let next = edited c.in-Ok.edit (intervals_of c.args.store) in
    let is = made_of_kept (λ (r : List Interval). planned c.args.command.now r c.args.now) c.in-Ok.edit _ (intervals_of c.args.store) c.intervals.ensures c.in-Ok.ensures.planned in
    subst (λ (p : Result (List Interval) TimewError). EndsBadly m n w (changes held p) bodies held (change_cause c.in-Err-change.error)) (sym is)
    (change_ends m n c.args.store c.change.new.self c.args.folder.now c.change.new.folder c.args.disk.now c.change.new.disk next c.in-Err-change.error c.in-Err-change.ensures.refused bodies history on)

pub returns-in-Err-change-clause-faults : goal.returns-in-Err-change-clause-faults
returns-in-Err-change-clause-faults g c =
    change_fault g.F.Folder.model g.D.Disk.model c.args.store c.change.new.self c.args.folder.now c.change.new.folder c.args.disk.now c.change.new.disk (edited c.in-Ok.edit (intervals_of c.args.store)) (untouched g.D.Disk.model g.met.D.Disk.only_now c.args.disk.now) c.requires.live c.in-Err-change.error c.in-Err-change.ensures.refused

pub returns-in-Err-change-clause-any_moment : goal.returns-in-Err-change-clause-any_moment
returns-in-Err-change-clause-any_moment g c = λ bodies history on.
    let m = g.F.Folder.model in
    let n = g.D.Disk.model in
    let held = held_by m c.args.folder.now history in
    let next = edited c.in-Ok.edit (intervals_of c.args.store) in
    let is = made_of_kept (λ (r : List Interval). planned c.args.command.now r c.args.now) c.in-Ok.edit _ (intervals_of c.args.store) c.intervals.ensures c.in-Ok.ensures.planned in
    subst (λ (p : Result (List Interval) TimewError). InTurns m (crash_of n) (Among held (changes held p)) c.args.folder.now c.args.disk.now c.change.new.folder c.change.new.disk) (sym is) (c.change.ensures.any_moment bodies history on)

pub returns-in-Ok-change-clause-ends : goal.returns-in-Ok-change-clause-ends
returns-in-Ok-change-clause-ends g c = λ bodies history on.
    let m = g.F.Folder.model in
    let n = g.D.Disk.model in
    let held = held_by m c.args.folder.now history in
    let w = went c.args.folder.now c.change.new.folder c.args.disk.now c.change.new.disk in
    let next = edited c.in-Ok.edit (intervals_of c.args.store) in
    let is = made_of_kept (λ (r : List Interval). planned c.args.command.now r c.args.now) c.in-Ok.edit _ (intervals_of c.args.store) c.intervals.ensures c.in-Ok.ensures.planned in
    subst (λ (text : List ℕ). EndsWith m n w (changes held (planned c.args.command.now (intervals_of c.args.store) c.args.now)) bodies text) (sym c.stored.ensures)
    (subst (λ (p : Result (List Interval) TimewError). EndsWith m n w (changes held p) bodies (stored (length (intervals_of c.change.new.self)))) (sym is)
    (change_done m n c.args.store c.change.new.self c.args.folder.now c.change.new.folder c.args.disk.now c.change.new.disk next bodies history (length (intervals_of c.change.new.self)) (ap (λ (r : List Interval). length r) c.in-Ok-change.ensures.rows) (c.in-Ok-change.ensures.changed bodies history on)))

pub returns-in-Ok-change-clause-any_moment : goal.returns-in-Ok-change-clause-any_moment
returns-in-Ok-change-clause-any_moment g c = λ bodies history on.
    let m = g.F.Folder.model in
    let n = g.D.Disk.model in
    let held = held_by m c.args.folder.now history in
    let next = edited c.in-Ok.edit (intervals_of c.args.store) in
    let is = made_of_kept (λ (r : List Interval). planned c.args.command.now r c.args.now) c.in-Ok.edit _ (intervals_of c.args.store) c.intervals.ensures c.in-Ok.ensures.planned in
    subst (λ (p : Result (List Interval) TimewError). InTurns m (crash_of n) (Among held (changes held p)) c.args.folder.now c.args.disk.now c.change.new.folder c.change.new.disk) (sym is) (c.change.ensures.any_moment bodies history on)

pub returns-in-Ok-change-clause-growth : goal.returns-in-Ok-change-clause-growth
returns-in-Ok-change-clause-growth g c = c.change.ensures.growth.0

pub returns-in-Err-change-clause-growth : goal.returns-in-Err-change-clause-growth
returns-in-Err-change-clause-growth g c = c.change.ensures.growth.0
