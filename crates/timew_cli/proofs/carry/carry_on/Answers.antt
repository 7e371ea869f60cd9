use Rattle.std.proofs.Common.{◌^◌, List, Result, refl, ap, sym, subst, ◌∙◌}
use Rattle.tw_world.proofs.Moments.{untouched}
use Rattle.timew_store.proofs.Growth.{nothing_grown}
use Rattle.tw_world.specs.Turns.{InTurns, crash_of}
use Rattle.timew_store.specs.Held.{held_by}
use Rattle.timew_store.specs.Store.{intervals_of}
use Rattle.timew_interval.specs.declared.interval.Interval.{Interval}
use Rattle.timew_words.specs.declared.command.Command.{Command}
use Rattle.timew_cli.specs.Carried.{Carried, carried_by, view_of}
use Rattle.timew_cli.specs.Run.{went}
use Rattle.timew_cli.specs.Step.{shown_of, Ends, Among}
use Rattle.timew_cli.specs.declared.cause.Cause.{Cause}
use Rattle.timew_cli.proofs.Ending.{rests, among_here, view_ends, view_fails, some_view, none_view}
use Rattle.timew_cli.proofs.carry.carry_on.Goals as goal

pub returns-in-Undo-clause-ends : goal.returns-in-Undo-clause-ends
returns-in-Undo-clause-ends g c = λ bodies history on.
    let m = g.F.Folder.model in
    let n = g.D.Disk.model in
    let held = held_by m c.args.folder.now history in
    subst (λ (e : Result Carried Cause). Ends m n (went c.args.folder.now c.take_back.new.folder c.args.disk.now c.take_back.new.disk) e bodies held (shown_of c.take_back.result))
    (sym (ap (λ (a : Command). carried_by a held (intervals_of c.args.store) c.args.now c.args.zone.now) c.in-Undo.is)) (c.take_back.ensures.ends bodies history on)

pub returns-in-Undo-clause-any_moment : goal.returns-in-Undo-clause-any_moment
returns-in-Undo-clause-any_moment g c = λ bodies history on.
    let m = g.F.Folder.model in
    let n = g.D.Disk.model in
    let held = held_by m c.args.folder.now history in
    subst (λ (e : Result Carried Cause). InTurns m (crash_of n) (Among held e) c.args.folder.now c.args.disk.now c.take_back.new.folder c.take_back.new.disk)
    (sym (ap (λ (a : Command). carried_by a held (intervals_of c.args.store) c.args.now c.args.zone.now) c.in-Undo.is)) (c.take_back.ensures.any_moment bodies history on)

pub returns-in-Change-clause-ends : goal.returns-in-Change-clause-ends
returns-in-Change-clause-ends g c = λ bodies history on.
    let m = g.F.Folder.model in
    let n = g.D.Disk.model in
    let held = held_by m c.args.folder.now history in
    subst (λ (e : Result Carried Cause). Ends m n (went c.args.folder.now c.change.new.folder c.args.disk.now c.change.new.disk) e bodies held (shown_of c.change.result))
    (sym (ap (λ (a : Command). carried_by a held (intervals_of c.args.store) c.args.now c.args.zone.now) c.in-Change.is)) (c.change.ensures.ends bodies history on)

pub returns-in-Change-clause-any_moment : goal.returns-in-Change-clause-any_moment
returns-in-Change-clause-any_moment g c = λ bodies history on.
    let m = g.F.Folder.model in
    let n = g.D.Disk.model in
    let held = held_by m c.args.folder.now history in
    subst (λ (e : Result Carried Cause). InTurns m (crash_of n) (Among held e) c.args.folder.now c.args.disk.now c.change.new.folder c.change.new.disk)
    (sym (ap (λ (a : Command). carried_by a held (intervals_of c.args.store) c.args.now c.args.zone.now) c.in-Change.is)) (c.change.ensures.any_moment bodies history on)

-- a command that only shows

pub returns-in-Some-clause-ends : goal.returns-in-Some-clause-ends
returns-in-Some-clause-ends g c = λ bodies history on.
    view_ends g.F.Folder.model g.D.Disk.model c.args.store c.args.folder.now c.args.disk.now bodies history on c.args.command.now c.in-Show.showing c.args.now c.args.zone.now c.in-Show.is c.in-Some.text.items
    (ap (λ (rows : List Interval). view_of c.in-Show.showing rows c.args.now c.args.zone.now) (sym c.intervals.ensures) ∙ some_view _ c.in-Ok.text c.in-Some.text _ c.in-Some.is c.in-Ok.ensures)

pub returns-in-Some-clause-any_moment : goal.returns-in-Some-clause-any_moment
returns-in-Some-clause-any_moment g c = λ bodies history on. among_here g.F.Folder.model g.D.Disk.model c.args.store c.args.folder.now c.args.disk.now bodies history _ on

pub returns-in-None-clause-ends : goal.returns-in-None-clause-ends
returns-in-None-clause-ends g c = λ bodies history on.
    view_fails g.F.Folder.model g.D.Disk.model c.args.store c.args.folder.now c.args.disk.now bodies history on c.args.command.now c.in-Show.showing c.args.now c.args.zone.now c.in-Show.is
    (ap (λ (rows : List Interval). view_of c.in-Show.showing rows c.args.now c.args.zone.now) (sym c.intervals.ensures) ∙ none_view _ c.in-Ok.text _ c.in-None.is c.in-Ok.ensures)

pub returns-in-None-clause-any_moment : goal.returns-in-None-clause-any_moment
returns-in-None-clause-any_moment g c = λ bodies history on. among_here g.F.Folder.model g.D.Disk.model c.args.store c.args.folder.now c.args.disk.now bodies history _ on

pub returns-in-Err-clause-ends : goal.returns-in-Err-clause-ends
returns-in-Err-clause-ends g c = λ bodies history on. rests g.F.Folder.model g.D.Disk.model c.args.store c.args.folder.now c.args.disk.now bodies history on

pub returns-in-Err-clause-any_moment : goal.returns-in-Err-clause-any_moment
returns-in-Err-clause-any_moment g c = λ bodies history on. among_here g.F.Folder.model g.D.Disk.model c.args.store c.args.folder.now c.args.disk.now bodies history _ on

pub returns-in-Err-clause-faults : goal.returns-in-Err-clause-faults
returns-in-Err-clause-faults g c = (refl, untouched g.D.Disk.model g.met.D.Disk.only_now c.args.disk.now)

-- ---- growth

pub returns-in-Some-clause-growth : goal.returns-in-Some-clause-growth
returns-in-Some-clause-growth g c = λ bodies on. nothing_grown g.D.Disk.model g.met.D.Disk.only_now c.args.disk.now (2 ^ 30)

pub returns-in-None-clause-growth : goal.returns-in-None-clause-growth
returns-in-None-clause-growth g c = λ bodies on. nothing_grown g.D.Disk.model g.met.D.Disk.only_now c.args.disk.now (2 ^ 30)

pub returns-in-Err-clause-growth : goal.returns-in-Err-clause-growth
returns-in-Err-clause-growth g c = λ bodies on. nothing_grown g.D.Disk.model g.met.D.Disk.only_now c.args.disk.now (2 ^ 30)
