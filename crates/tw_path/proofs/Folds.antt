-- Folds of a chain.
use Rattle.std.proofs.Common.{◌≡◌, ℕ, List, ◌++◌, sym, ap, subst, ◌∙◌}
use Rattle.std.proofs.lemmas.List.{append_assoc}
use Rattle.std.specs.FinMap.{empty}
use Rattle.tw_model.specs.Ops.{TasksValue, apply_all}
use Rattle.tw_model.specs.declared.SyncOp.{SyncOp}
use Rattle.tw_model.proofs.Ops.{apply_all-append}
use Rattle.tw_protocol.specs.Chain.{Version, IsChain, IsCut, IsBetween, Grows}
use Rattle.tw_protocol.proofs.Chains.{row_is_split_once}
use Rattle.tw_path.specs.Fold.{Reads, IsFold}
use Rattle.tw_path.proofs.Reading.{reads_one, reads-append}

pub fold_grows : (old new : List Version) (v : List ℕ) (tasks : TasksValue) → IsFold old v tasks → Grows old new → IsFold new v tasks
fold_grows old new v tasks f g = record {
  front = f.front;
  back = f.back ++ g.more;
  cut = record { split = g.joined ∙ ap (λ c. c ++ g.more) f.cut.split ∙ append_assoc f.front f.back g.more; at = f.cut.at };
  ops = f.ops;
  reads = f.reads;
  made = f.made;
}

pub fold_is_one : (chain : List Version) (v : List ℕ) (tasks others : TasksValue) → IsChain chain → IsFold chain v tasks → IsFold chain v others → tasks ≡ others
fold_is_one chain v t u whole f g =
    let same : f.front ≡ g.front = row_is_split_once chain v f.front f.back g.front g.back whole f.cut g.cut in
    let ops : f.ops ≡ g.ops = reads_one g.front f.ops g.ops (subst (λ vs. Reads vs f.ops) same f.reads) g.reads in
    f.made ∙ ap (λ os. apply_all empty os) ops ∙ sym g.made

-- the fold goes on over the versions that lie between
pub fold_on : (chain : List Version) (b h : List ℕ) (base : TasksValue) (versions : List Version) (ops : List SyncOp) → IsChain chain → IsFold chain b base → IsBetween chain b h versions → Reads versions ops → IsFold chain h (apply_all base ops)
fold_on chain b h base versions ops whole f between r =
    let here : IsCut chain b between.front (versions ++ between.back) = record { split = between.split ∙ append_assoc between.front versions between.back; at = between.from } in
    let same : f.front ≡ between.front = row_is_split_once chain b f.front f.back between.front (versions ++ between.back) whole f.cut here in
    record {
      front = between.front ++ versions;
      back = between.back;
      cut = record { split = between.split; at = between.to };
      ops = f.ops ++ ops;
      reads = reads-append between.front versions f.ops ops (subst (λ us. Reads us f.ops) same f.reads) r;
      made = ap (λ w. apply_all w ops) f.made ∙ sym (apply_all-append empty f.ops ops);
    }
