use Rattle.std.proofs.Common.{inr, ◌<◌, ◌≡◌, ℕ, ◌+◌, ◌-◌, ◌≤◌, List, ◌++◌, rules, arith, length, take, slice_range, sym, ap, ◌∙◌, subst, le_refl, drop_at, length-take-le}
use Rattle.std.proofs.lemmas.Slice.{take-put_mid_below}
use Rattle.std.proofs.lemmas.List.{take-append-le}
use Rattle.std.proofs.Math.Seq.{take-add}
use borrow.Rule.Slice.PartMut.{put_mid, post_of}
use Rattle.tw_files.specs.OffsetFile.{Holds}
use Rattle.tw_files.proofs.Overwriting.{Holds-nil, Holds-more}
use Rattle.tw_files.proofs.FolderFiles.{room_left, ends_inside}
use Rattle.tw_files.proofs.file_disk.read_all_at.Goals as goal

-- the front that stays, and the part behind it, are a front
front_and_part : (a b : ℕ) (old new : List ℕ) → a ≤ b → take a new ≡ take a old → take a old ++ slice_range new a b ≡ take b new
front_and_part a b old new h front =
    let same : a + (b - a) ≡ b = omega arith in
    ap (λ l. l ++ slice_range new a b) (sym front) ∙ sym (take-add a (b - a) new) ∙ ap (λ n. take n new) same

-- what was read into a part stands there
part_read : (a k n : ℕ) (xs ys : List ℕ) → a ≤ length xs → n ≤ length ys → slice_range (put_mid a k xs ys) a (a + n) ≡ take n ys
part_read a k n xs ys within fits =
    let same : (a + n) - a ≡ n = omega arith in
    let after = post_of a k xs in
    ap (take ((a + n) - a)) (drop_at (take a xs) (ys ++ after) a (length-take-le a xs within)) ∙ ap (λ m. take m (ys ++ after)) same ∙ take-append-le n ys after fits

pub loop-done-init : goal.loop-done-init
loop-done-init g c = (search rules, search rules, Holds-nil _ _)

pub loop-done-preserved : goal.loop-done-preserved
loop-done-preserved g c =
    let from = c.loop-done.done in
    let out = c.loop-done.out in
    let count = c.in-Ok.count in
    let room = length out - from in
    let within = c.loop-done.invariant.1 in
    let next : c.args.at + from ≡ c.args.at + length (take from out) = ap (λ n. c.args.at + n) (sym (length-take-le from out within)) in
    let part = part_read from room count out c.read_some.new.buffer within c.in-Ok.ensures.bound.0 in
    let joined = front_and_part from (from + count) out (put_mid from room out c.read_some.new.buffer) (omega arith) (take-put_mid_below _ _ _ _ _ (le_refl _) within) in
    (search rules, search rules, subst (Holds _ _) (ap (λ l. take from out ++ l) (sym part) ∙ joined) (Holds-more (g.F.OffsetFile.contents c.args.file.now) c.args.at (c.args.at + from) (take from out) (take count c.read_some.new.buffer) next c.loop-done.invariant.2 c.in-Ok.ensures.bytes))

pub returns-in-Ok-eq0-clause-failed : goal.returns-in-Ok-eq0-clause-failed
returns-in-Ok-eq0-clause-failed g c = λ no.
    let lt : c.loop-done.done < length c.loop-done.out = omega arith in
    let before : c.args.at + c.loop-done.done < c.args.at + length c.args.out.now = omega (arith, lt, c.loop-done.invariant.0) in
    inr (ends_inside _ _ _ before (c.in-Ok-eq0.ensures.end (search rules) (room_left c.loop-done.done c.loop-done.out lt)))
