use Rattle.std.proofs.Common.{List, ℕ, length, refl, sym, subst}
use Rattle.tw_world.proofs.TurnRules.{turns_weaker}
use Rattle.tw_world.specs.Turns.{crash_of}
use Rattle.timew_store.specs.Held.{held_by}
use Rattle.timew_store.specs.Store.{intervals_of}
use Rattle.timew_store.specs.StoreUndo.{OpensToEitherOf}
use Rattle.timew_store.specs.Undo.{undone_held}
use Rattle.timew_cli.specs.Carried.{takes_back}
use Rattle.timew_cli.specs.Run.{went}
use Rattle.timew_cli.specs.Step.{Among, EndsWith}
use Rattle.timew_cli.proofs.Ending.{either_among, undo_ends, undo_fault, undo_done}
use Rattle.timew_cli.proofs.carry.take_back.Goals as goal

pub returns-in-Err-clause-ends : goal.returns-in-Err-clause-ends
returns-in-Err-clause-ends g c = λ bodies history on.
    undo_ends g.F.Folder.model g.D.Disk.model c.args.store c.undo.new.self c.args.folder.now c.undo.new.folder c.args.disk.now c.undo.new.disk c.in-Err.error c.in-Err.ensures.refused bodies history on

pub returns-in-Err-clause-faults : goal.returns-in-Err-clause-faults
returns-in-Err-clause-faults g c =
    undo_fault g.F.Folder.model g.D.Disk.model c.args.store c.undo.new.self c.args.folder.now c.undo.new.folder c.args.disk.now c.undo.new.disk c.requires.live c.in-Err.error c.in-Err.ensures.refused

pub returns-in-Err-clause-any_moment : goal.returns-in-Err-clause-any_moment
returns-in-Err-clause-any_moment g c = λ bodies history on.
    let held = held_by g.F.Folder.model c.args.folder.now history in
    turns_weaker g.F.Folder.model (crash_of g.D.Disk.model) (OpensToEitherOf held (undone_held held)) (Among held (takes_back held (undone_held held))) (λ x y opens. either_among g.F.Folder.model g.D.Disk.model held (undone_held held) x y opens)
    c.args.folder.now c.args.disk.now c.undo.new.folder c.undo.new.disk (c.undo.ensures.any_moment bodies history on)

pub returns-in-Ok-clause-ends : goal.returns-in-Ok-clause-ends
returns-in-Ok-clause-ends g c = λ bodies history on.
    let m = g.F.Folder.model in
    let n = g.D.Disk.model in
    let held = held_by m c.args.folder.now history in
    subst (λ (text : List ℕ). EndsWith m n (went c.args.folder.now c.undo.new.folder c.args.disk.now c.undo.new.disk) (takes_back held (undone_held held)) bodies text) (sym c.stored.ensures)
    (undo_done m n c.args.store c.undo.new.self c.args.folder.now c.undo.new.folder c.args.disk.now c.undo.new.disk bodies history (length (intervals_of c.undo.new.self)) refl (c.in-Ok.ensures.undone bodies history on))

pub returns-in-Ok-clause-any_moment : goal.returns-in-Ok-clause-any_moment
returns-in-Ok-clause-any_moment g c = λ bodies history on.
    let held = held_by g.F.Folder.model c.args.folder.now history in
    turns_weaker g.F.Folder.model (crash_of g.D.Disk.model) (OpensToEitherOf held (undone_held held)) (Among held (takes_back held (undone_held held))) (λ x y opens. either_among g.F.Folder.model g.D.Disk.model held (undone_held held) x y opens)
    c.args.folder.now c.args.disk.now c.undo.new.folder c.undo.new.disk (c.undo.ensures.any_moment bodies history on)

pub returns-in-Ok-clause-growth : goal.returns-in-Ok-clause-growth
returns-in-Ok-clause-growth g c = c.undo.ensures.growth.0

pub returns-in-Err-clause-growth : goal.returns-in-Err-clause-growth
returns-in-Err-clause-growth g c = c.undo.ensures.growth.0
