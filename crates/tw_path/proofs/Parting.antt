-- Groups as they are made of pending operations, from the last one on.
use Rattle.std.proofs.Common.{◌≡◌, List, [], ◌∷◌, ◌++◌, Some, None, refl, sym, ap, ◌∙◌}
use Rattle.std.specs.Prelude.{reverse}
use Rattle.std.proofs.lemmas.List.{append-nil, append_assoc, reverse-append}
use Rattle.std.specs.Global.{Vec}
use Rattle.tw_model.specs.LocalOps.{synced}
use Rattle.tw_model.specs.declared.Op.{Op}
use Rattle.tw_model.specs.declared.SyncOp.{SyncOp}
use Rattle.tw_groups.specs.Groups.{Groups, put_in_front, parts_of, groups_of}
use Rattle.tw_groups.specs.Held.{groups_in}
use Rattle.tw_path.specs.Grouped.{parts_held}
use Rattle.tw_path.proofs.Batching.{in-append}

-- groups in the other order
turned : (vs : List (Vec SyncOp)) → groups_in (reverse vs) ≡ reverse (groups_in vs)
turned [] = refl
turned (v ∷ vs) =
    ap groups_in (reverse-append (v ∷ []) vs) ∙ in-append (reverse vs) (v ∷ []) ∙ ap (λ gs. gs ++ v.items ∷ []) (turned vs) ∙ sym (reverse-append (v.items ∷ []) (groups_in vs))

-- ---- one operation more

pub operation_put : (group now : List SyncOp) (groups : List (Vec SyncOp)) (op : SyncOp) → now ≡ group ++ op ∷ [] → parts_held now groups ≡ put_in_front (Some op) (parts_held group groups)
operation_put group now groups op made =
    ap (λ ops. parts_held ops groups) made ∙ ap (λ (ops : List SyncOp). (ops, reverse (groups_in groups))) (reverse-append group (op ∷ []))

-- an undo point
pub group_ended : (group : List SyncOp) (groups now : List (Vec SyncOp)) (whole : Vec SyncOp) → whole.items ≡ reverse group → now ≡ groups ++ whole ∷ [] → parts_held [] now ≡ put_in_front None (parts_held group groups)
group_ended group groups now whole is made =
    ap (λ vs. parts_held [] vs) made
    ∙ ap (λ (gs : Groups). ([], reverse gs)) (in-append groups (whole ∷ []))
    ∙ ap (λ (gs : Groups). ([], gs)) (reverse-append (groups_in groups) (whole.items ∷ []))
    ∙ ap (λ (g : List SyncOp). ([], g ∷ reverse (groups_in groups))) is

-- ---- all of them

-- what the code has are the parts of those after the ones that are still pending
pub record IsParted (all pending : List Op) (group : List SyncOp) (groups : List (Vec SyncOp)) : Type 0 where
  pub done : List Op
  pub split : all ≡ pending ++ done
  pub parts : parts_held group groups ≡ parts_of done

pub none_parted : (all : List Op) (group : List SyncOp) (groups : List (Vec SyncOp)) → group ≡ [] → groups ≡ [] → IsParted all all group groups
none_parted all group groups e f = record { done = []; split = sym (append-nil all); parts = λ i. parts_held (e i) (f i) }

pub one_parted : (all pending left : List Op) (op : Op) (group more : List SyncOp) (groups others : List (Vec SyncOp)) → pending ≡ left ++ op ∷ []
    → parts_held more others ≡ put_in_front (synced op) (parts_held group groups) → IsParted all pending group groups → IsParted all left more others
one_parted all pending left op group more groups others e put s = record {
  done = op ∷ s.done;
  split = s.split ∙ ap (λ ops. ops ++ s.done) e ∙ append_assoc left (op ∷ []) s.done;
  parts = put ∙ ap (put_in_front (synced op)) s.parts;
}

pub all_parted : (all pending : List Op) (group : List SyncOp) (groups : List (Vec SyncOp)) → pending ≡ [] → IsParted all pending group groups → groups_in (reverse groups) ≡ groups_of all
all_parted all pending group groups none s =
    turned groups ∙ ap (λ (p : List SyncOp × Groups). p.1) s.parts ∙ ap groups_of (sym (s.split ∙ ap (λ ops. ops ++ s.done) none))
