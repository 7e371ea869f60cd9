-- What a batch takes of groups, and what it leaves.
use Rattle.std.specs.Prelude.{◌≡◌, ℕ, cond, nat_eq, List, [], ◌∷◌, ◌++◌, take, drop}
use Rattle.std.specs.Global.{Vec}
use Rattle.tw_model.specs.declared.SyncOp.{SyncOp}
use Rattle.tw_groups.specs.Groups.{Groups, joined}
use Rattle.tw_groups.specs.Cut.{put_group, cut}
use Rattle.tw_groups.specs.Held.{groups_in}
use Rattle.tw_path.specs.Path.{is_batch}
use Rattle.tw_path.specs.declared.batch.Batch.{Batch}

abbrev pub head_group : Groups → List SyncOp
head_group [] = []
head_group (g ∷ gs) = g

abbrev pub tail_groups : Groups → Groups
tail_groups [] = []
tail_groups (g ∷ gs) = gs

-- groups without the first operations of the first one, which goes if they are all
abbrev pub cut_front : ℕ → Groups → Groups
cut_front part gs = cond (nat_eq part 0) gs (put_group (drop part (head_group gs)) (tail_groups gs))

-- the whole groups, and so many operations of the next
abbrev pub sent_by : Batch → List (Vec SyncOp) → List SyncOp
sent_by b vs = joined (groups_in (take b.whole vs)) ++ take b.part (head_group (groups_in (drop b.whole vs)))

-- the others
abbrev pub left_by : Batch → List (Vec SyncOp) → Groups
left_by b vs = cut_front b.part (groups_in (drop b.whole vs))

-- it takes what is sent first of groups, and leaves the rest
abbrev pub IsFirstBatch : Batch → List (Vec SyncOp) → Type 0
IsFirstBatch b vs = cut is_batch (groups_in vs) ≡ (sent_by b vs, left_by b vs)
