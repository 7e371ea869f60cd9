-- Positions of a local list in a chain.
use Rattle.std.proofs.Common.{◌≡◌, ℕ, List, [], ◌∷◌, ◌++◌, refl, sym, ap, subst, ◌∙◌}
use Rattle.std.proofs.lemmas.List.{append-nil}
use Rattle.std.specs.FinMap.{empty}
use Rattle.uuid.specs.Parts.{zero_bytes}
use Rattle.tw_model.specs.Ops.{TasksValue, apply_all, FitAll, fit_part}
use Rattle.tw_model.specs.declared.SyncOp.{SyncOp}
use Rattle.tw_model.proofs.Ops.{apply_all-append, fit_part_all}
use Rattle.tw_protocol.specs.Chain.{Version, latest, IsChain, IsBetween}
use Rattle.tw_protocol.proofs.Chains.{last_from-append, row_is_split_once}
use Rattle.tw_protocol.proofs.Between.{between_joins}
use Rattle.tw_segment.specs.Segment.{IsSegment}
use Rattle.tw_transform.specs.Grid.{grid}
use Rattle.tw_transform.specs.Positions.{IsPosition}
use Rattle.tw_transform.specs.Refusals.{Refusal, sent_from_base}
use Rattle.tw_transform.proofs.Positions.{fit_part-append, position_pulls, position_fits, position_pushes}
use Rattle.tw_transform.proofs.Cancel.{own_versions, own_versions_each_time}
use Rattle.tw_path.specs.Fold.{Reads, IsFold}
use Rattle.tw_sync.specs.Way.Positions.{IsPositionIn, ChainStarts, ChainPulls, ChainFits, ChainPushes, OwnVersionsCancelAt, OwnVersionCancelsIn, sent_each}
use Rattle.tw_sync.specs.Way.Positions.{fitted, FitEach, OwnVersionsCancelEachTime}
use Rattle.tw_path.proofs.Reading.{reads-append, reads_last}
use Rattle.tw_path.proofs.Folds.{fold_is_one, fold_on}

pub chain_starts : ChainStarts
chain_starts chain b mine base f = record {
  base = base;
  folded = f;
  versions = [];
  between = record { front = f.front; back = f.back; split = f.cut.split ∙ ap (λ xs. xs ++ f.back) (sym (append-nil f.front)); from = f.cut.at; to = ap latest (append-nil f.front) ∙ f.cut.at };
  ops = [];
  reads = refl;
  position = refl;
}

-- the tasks of the chain where a local list stands
there_is : (chain : List Version) (b h : List ℕ) (mine left : List SyncOp) (there : TasksValue) → IsChain chain → (p : IsPositionIn chain b mine h left) → IsFold chain h there → apply_all p.base p.ops ≡ there
there_is chain b h mine left there whole p at = fold_is_one chain h (apply_all p.base p.ops) there whole (fold_on chain b h p.base p.versions p.ops whole p.folded p.between p.reads) at

-- the position goes on to the version behind it, where this is what is left there
goes_on : (chain : List Version) (b h : List ℕ) (v : Version) (mine left more rest : List SyncOp) → IsChain chain → (p : IsPositionIn chain b mine h left)
    → IsBetween chain h v.id (v ∷ []) → IsSegment v.segment more → IsPosition p.base mine (p.ops ++ more) rest → IsPositionIn chain b mine v.id rest
goes_on chain b h v mine left more rest whole p next s position = record {
  base = p.base;
  folded = p.folded;
  versions = p.versions ++ v ∷ [];
  between = between_joins chain b h v.id p.versions (v ∷ []) whole p.between next;
  ops = p.ops ++ more;
  reads = reads-append p.versions (v ∷ []) p.ops more p.reads (reads_last v more s);
  position = position;
}

pub chain_pulls : ChainPulls
chain_pulls chain b h v mine left more there whole p next at s =
    let same : apply_all p.base p.ops ≡ there = there_is chain b h mine left there whole p at in
    goes_on chain b h v mine left more (grid (fit_part there more) left).1 whole p next s (subst (λ w. IsPosition p.base mine (p.ops ++ more) (grid (fit_part w more) left).1) same (position_pulls p.base mine p.ops left more p.position))

pub chain_fits : ChainFits
chain_fits chain b h mine left base there whole f fit p at =
    subst (λ w. FitAll w left) (there_is chain b h mine left there whole p at) (position_fits p.base mine p.ops left (subst (λ w. FitAll w mine) (fold_is_one chain b base p.base whole f p.folded) fit) p.position)

pub chain_pushes : ChainPushes
chain_pushes chain v there mine whole f s =
    let same : f.front ≡ chain = row_is_split_once chain (latest chain) f.front f.back chain [] whole f.cut (record { split = sym (append-nil chain); at = refl }) in
    record {
      front = chain ++ v ∷ [];
      back = [];
      cut = record { split = sym (append-nil (chain ++ v ∷ [])); at = last_from-append zero_bytes chain (v ∷ []) };
      ops = f.ops ++ mine;
      reads = reads-append chain (v ∷ []) f.ops mine (subst (λ us. Reads us f.ops) same f.reads) (reads_last v mine s);
      made = ap (λ w. apply_all w mine) f.made ∙ sym (apply_all-append empty f.ops mine);
    }

-- ---- what was sent comes back

-- what was left fits whole where it is sent
sent_fits : (base : TasksValue) (mine pulled sent : List SyncOp) → FitAll base mine → IsPosition base mine pulled sent → fit_part base (pulled ++ sent) ≡ fit_part base pulled ++ sent
sent_fits base mine pulled sent fit position =
    fit_part-append base pulled sent ∙ ap (λ zs. fit_part base pulled ++ zs) (fit_part_all (apply_all base pulled) sent (position_fits base mine pulled sent fit position))

pub own_versions_cancel_at : OwnVersionsCancelAt
own_versions_cancel_at base mine pulled sent later fit position =
    let ss : List SyncOp = fit_part base pulled in
    ap (λ zs. (grid zs (mine ++ later)).1) (sent_fits base mine pulled sent fit position ∙ ap (λ zs. ss ++ zs) (sym position))
    ∙ ap (λ (g : List SyncOp × List SyncOp). g.1) (own_versions ss mine later)

pub own_version_cancels_in : OwnVersionCancelsIn
own_version_cancels_in chain b h v mine sent base whole f fit p next s =
    goes_on chain b h v mine sent sent [] whole p next s (position_pushes p.base mine p.ops sent (subst (λ w. FitAll w mine) (fold_is_one chain b base p.base whole f p.folded) fit) p.position).1

-- each refused sync meets what it would meet where others added only what fits
each_from_base : (base : TasksValue) (pulled pending : List SyncOp) (rs : List Refusal) → FitEach base pending rs → sent_each base pulled pending rs ≡ sent_from_base (fit_part base pulled) pending (fitted base pulled pending rs)
each_from_base base pulled pending [] fit = refl
each_from_base base pulled pending (r ∷ rs) fit =
    let now : List SyncOp = pulled ++ r.others in
    let sent : List SyncOp = (grid (fit_part base now) pending).1 in
    let rest : List Refusal = fitted base (now ++ sent) (pending ++ r.later) rs in
    ap (λ zs. sent ∷ zs) (each_from_base base (now ++ sent) (pending ++ r.later) rs fit.1 ∙ ap (λ c. sent_from_base c (pending ++ r.later) rest) (sent_fits base pending now sent fit.0 refl))
    ∙ ap (λ c. (grid c pending).1 ∷ sent_from_base (c ++ (grid c pending).1) (pending ++ r.later) rest) (fit_part-append base pulled r.others)

pub own_versions_cancel_each_time : OwnVersionsCancelEachTime
own_versions_cancel_each_time base mine refusals fit =
    each_from_base base [] mine refusals fit ∙ own_versions_each_time [] mine [] mine (fitted base [] mine refusals) refl
