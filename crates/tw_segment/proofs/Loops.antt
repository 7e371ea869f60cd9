-- The step of reading a list of operations.
use Rattle.std.proofs.Common.{◌≡◌, ℕ, suc, ◌+◌, ◌++◌, ◌<◌, List, [], ◌∷◌, Option, Some, None, refl, sym, ap, ◌∙◌, arith, option_map, drop, length, get_or, append_assoc}
use Rattle.std.proofs.lemmas.List.{drop_more}
use Rattle.serde_json.specs.Data.{Data, Items, item}
use Rattle.serde_json.specs.View.{view, items_view}
use Rattle.serde_json.specs.declared.value.Value.{Value}
use Rattle.tw_model.specs.declared.SyncOp.{SyncOp}
use Rattle.tw_segment.specs.Segment.{op_of, ops_of, bad_index}

-- what is left begins with the item at hand
pub rest_is : (vs : List Value) (i : ℕ) (v : Value) → i < length vs → v ≡ get_or vs i v → items_view (drop i vs) ≡ item (view v) (items_view (drop (i + 1) vs))
rest_is vs i v within is = ap items_view (drop_more vs i v within ∙ ap (λ w. w ∷ drop (i + 1) vs) (sym is))

joined : (front : List SyncOp) (op : SyncOp) (o : Option (List SyncOp)) → option_map (λ more. front ++ more) (option_map (λ ops. op ∷ ops) o) ≡ option_map (λ more. (front ++ op ∷ []) ++ more) o
joined front op None = refl
joined front op (Some more) = ap Some (sym (append_assoc front (op ∷ []) more))

pub read_more : (d : Data) (rest : Items) (front next : List SyncOp) (op : SyncOp) → Some op ≡ op_of d → next ≡ front ++ op ∷ [] → option_map (λ more. front ++ more) (ops_of (item d rest)) ≡ option_map (λ more. next ++ more) (ops_of rest)
read_more d rest front next op is new = rw (← is, new) (joined front op (ops_of rest))

one_on : (n : ℕ) (o : Option ℕ) → option_map (λ p. n + p) (option_map suc o) ≡ option_map (λ p. n + 1 + p) o
one_on n None = refl
one_on n (Some p) = ap Some (omega arith)

pub place_more : (d : Data) (rest : Items) (n : ℕ) (op : SyncOp) → Some op ≡ op_of d → option_map (λ p. n + p) (bad_index (item d rest)) ≡ option_map (λ p. n + 1 + p) (bad_index rest)
place_more d rest n op is = rw (← is) (one_on n (bad_index rest))

pub place_here : (d : Data) (rest : Items) (n : ℕ) → None ≡ op_of d → option_map (λ p. n + p) (bad_index (item d rest)) ≡ Some n
place_here d rest n is = rw (← is) (ap Some (omega arith))
