use Rattle.std.proofs.Common.{◌≡◌, ℕ, List, ◌+◌, ◌-◌, ◌≤◌, ◌++◌, rules, arith, length, take, drop, sym, ap, ◌∙◌, subst, length-take-le}
use Rattle.std.proofs.Math.Seq.{take-add}
use Rattle.std.proofs.lemmas.List.{take_rest, length-take}
use Rattle.tw_files.specs.OffsetFile.{Overwrites}
use Rattle.tw_files.proofs.Overwriting.{Overwrites-nil, Overwrites-more}
use Rattle.tw_files.proofs.file_disk.write_all_at.Goals as goal

pub loop-done-init : goal.loop-done-init
loop-done-init g c = (search rules, Overwrites-nil _ _, λ len le h. h, λ path h. h)

-- the part that is written ends where the whole does
part_ends : (at done len : ℕ) (bytes : List ℕ) → done ≤ length bytes → at + length bytes ≤ len → at + done + length (take (length bytes - done) (drop done bytes)) ≤ len
part_ends at done len bytes within le = omega (arith, length-take (length bytes - done) (drop done bytes))

pub returns-in-Ok-eq0-clause-len : goal.returns-in-Ok-eq0-clause-len
returns-in-Ok-eq0-clause-len g c = λ len le h. c.write_some.ensures.len len (part_ends c.args.at c.loop-done.done len c.args.bytes.now c.loop-done.invariant.0 le) (c.loop-done.invariant.2 len le h)

pub returns-in-Ok-eq0-2-clause-len : goal.returns-in-Ok-eq0-2-clause-len
returns-in-Ok-eq0-2-clause-len g c = λ len le h. c.write_some.ensures.len len (part_ends c.args.at c.loop-done.done len c.args.bytes.now c.loop-done.invariant.0 le) (c.loop-done.invariant.2 len le h)

pub returns-clause-len : goal.returns-clause-len
returns-clause-len g c = λ len le h. c.loop-done.invariant.2 len le h

pub loop-done-preserved : goal.loop-done-preserved
loop-done-preserved g c =
    let done = c.loop-done.done in
    let bytes = c.args.bytes.now in
    let next : c.args.at + done ≡ c.args.at + length (take done bytes) = ap (λ n. c.args.at + n) (sym (length-take-le done bytes c.loop-done.invariant.0)) in
    let joined = ap (λ rest. take done bytes ++ take c.in-Ok.count rest) (take_rest bytes done) ∙ sym (take-add done c.in-Ok.count bytes) in
    (search rules, subst (Overwrites _ _ _) joined (Overwrites-more (g.F.OffsetFile.contents c.args.file.now) (g.F.OffsetFile.contents c.loop-done.file) (g.F.OffsetFile.contents c.write_some.new.self) c.args.at (c.args.at + done) (take done bytes) (take c.in-Ok.count (take (length bytes - done) (drop done bytes))) next c.loop-done.invariant.1 c.in-Ok.ensures.bytes), λ len le h. c.write_some.ensures.len len (part_ends c.args.at done len bytes c.loop-done.invariant.0 le) (c.loop-done.invariant.2 len le h), λ path h. c.write_some.ensures.at path (c.loop-done.invariant.3 path h))

pub returns-in-Ok-eq0-clause-at : goal.returns-in-Ok-eq0-clause-at
returns-in-Ok-eq0-clause-at g c = λ path h. c.write_some.ensures.at path (c.loop-done.invariant.3 path h)

pub returns-in-Ok-eq0-2-clause-at : goal.returns-in-Ok-eq0-2-clause-at
returns-in-Ok-eq0-2-clause-at g c = λ path h. c.write_some.ensures.at path (c.loop-done.invariant.3 path h)

pub returns-clause-at : goal.returns-clause-at
returns-clause-at g c = λ path h. c.loop-done.invariant.3 path h
