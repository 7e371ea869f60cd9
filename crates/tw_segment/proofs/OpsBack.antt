-- What is written for operations is read as those operations.
use Rattle.std.proofs.Common.{◌≡◌, ℕ, ◌+◌, ◌<◌, ◌≤◌, List, [], ◌∷◌, ◌++◌, codes, Option, Some, None, option_and_then, refl, sym, ap, ◌∙◌, arith, map, take, drop, length, get_or, subst, append_assoc, append-nil}
use Rattle.std.specs.List.{All, AllByRecursion}
use Rattle.std.specs.Str.{IsUtf8}
use Rattle.std.proofs.lemmas.List.Elements.{recursion_from_All, All-more}
use Rattle.std.proofs.lemmas.List.{drop_more}
use Rattle.json.specs.Token.{Token}
use Rattle.json.specs.Json as json
use Rattle.json.specs.Lex.{tokens}
use Rattle.json.specs.Print.{print}
use Rattle.json.specs.Tree.{json_tokens, depth, items_depth}
use Rattle.json.proofs.Printed.Trees.{value-json_tokens}
use Rattle.serde_json.specs.Data.{Data, string, object, no_members, member}
use Rattle.serde_json.specs.Read.{of_json, of_items, max_depth, read}
use Rattle.serde_json.specs.View.{items_of}
use Rattle.serde_json.specs.Written.{outline, items_outline}
use Rattle.serde_json.proofs.Texts.{print-outline}
use Rattle.uuid.specs.Text.{parsed}
use Rattle.tw_world.specs.declared.Moment.{Moment}
use Rattle.tw_model.specs.declared.SyncOp.{SyncOp}
use Rattle.tw_model.specs.declared.SyncOp.TheVariants.{Create, Delete, Update}
use Rattle.tw_segment.specs.Timestamp.{timestamp_moment}
use Rattle.tw_segment.specs.Segment.{one, value_data, op_data, segment_data, segment_text, op_of, create_in, delete_in, update_in, ops_of, IsReadBack, IsSegmentOf, IsSegment}
use Rattle.tw_segment.specs.Tokens.{data_tokens, ops_tokens}

-- ---- an operation, by the texts of its members

pub create_of : (t u : List ℕ) → parsed t ≡ Some u → op_of (one (codes "Create") (one (codes "uuid") (string t))) ≡ Some (Create u)
unfolding op_of create_in
create_of t u e = rw e refl

pub delete_of : (t u : List ℕ) → parsed t ≡ Some u → op_of (one (codes "Delete") (one (codes "uuid") (string t))) ≡ Some (Delete u)
unfolding op_of delete_in
delete_of t u e = rw e refl

-- the members of an update, in byte order
abbrev pub update_members : List ℕ → List ℕ → List ℕ → Data → Data
update_members p s t v =
    object (member (codes "property") (string p) (member (codes "timestamp") (string s) (member (codes "uuid") (string t) (member (codes "value") v no_members))))

pub update_of : (p s t u : List ℕ) (v : Option (List ℕ)) (at : Moment) → parsed t ≡ Some u → timestamp_moment s ≡ Some at → op_of (one (codes "Update") (update_members p s t (value_data v))) ≡ Some (Update u p v at)
unfolding op_of update_in
update_of p s t u None at e f = rw (e, f) refl
update_of p s t u (Some v) at e f = rw (e, f) refl

-- ---- the tokens of a value are read as that value

pub tokens_read : (j : json.Json) (d : Data) (text : List ℕ) → tokens text ≡ json_tokens j → of_json j ≡ Some d → depth j ≤ max_depth → read text ≡ Some d
tokens_read j d text same is shallow =
    ap (λ o. option_and_then of_json (option_and_then (λ p. json.if_last p.0 p.1) o)) (ap (json.value max_depth) (same ∙ sym (append-nil (json_tokens j))) ∙ value-json_tokens j max_depth [] shallow) ∙ is

op_again : (op : SyncOp) → of_json (outline (op_data op)) ≡ Some (op_data op)
op_again (Create u) = refl
op_again (Delete u) = refl
op_again (Update u p None at) = refl
op_again (Update u p (Some v) at) = refl

ops_again : (ops : List SyncOp) → of_items (items_outline (items_of (map op_data ops))) ≡ Some (items_of (map op_data ops))
ops_again [] = refl
ops_again (op ∷ ops) = rw (op_again op, ops_again ops) refl

segment_again : (ops : List SyncOp) → of_json (outline (segment_data ops)) ≡ Some (segment_data ops)
segment_again ops = rw (ops_again ops) refl

op-depth : (op : SyncOp) → depth (outline (op_data op)) ≤ 2
op-depth (Create u) = omega arith
op-depth (Delete u) = omega arith
op-depth (Update u p None at) = omega arith
op-depth (Update u p (Some v) at) = omega arith

ops-depth : (ops : List SyncOp) → items_depth (items_outline (items_of (map op_data ops))) ≤ 2
ops-depth [] = omega arith
ops-depth (op ∷ ops) = omega (arith, op-depth op, ops-depth ops)

segment-depth : (ops : List SyncOp) → depth (outline (segment_data ops)) ≤ 127
segment-depth ops = omega (arith, ops-depth ops)

ops_back : (ops : List SyncOp) → AllByRecursion IsReadBack ops → ops_of (items_of (map op_data ops)) ≡ Some ops
ops_back [] h = refl
ops_back (op ∷ ops) h = rw (h.0, ops_back ops h.1) refl

segment_back : (ops : List SyncOp) → All IsReadBack ops → IsSegmentOf (segment_data ops) ops
segment_back ops h = ops_back ops (recursion_from_All IsReadBack ops h)

-- ---- what a writer holds in the end

module _ (ops : List SyncOp) (text before : List ℕ) (ts : List Token) (is : text ≡ before ++ print ts) (none : before ≡ []) (same : ts ≡ data_tokens (segment_data ops)) where
  printed : text ≡ print ts
  printed = is ∙ ap (λ b. b ++ print ts) none

  pub text_is : text ≡ segment_text ops
  text_is = printed ∙ ap print same ∙ print-outline (segment_data ops)

  pub text_back : IsUtf8 (print ts) → tokens (print ts) ≡ ts → All IsReadBack ops → IsSegment text ops
  text_back utf8 lexed back = (
    segment_data ops,
    (subst IsUtf8 (sym printed) utf8, tokens_read (outline (segment_data ops)) (segment_data ops) text (ap tokens printed ∙ lexed ∙ same) (segment_again ops) (segment-depth ops)),
    segment_back ops back,
  )

-- ---- one after another

pub then : (old xs ys ts us : List Token) → ts ≡ old ++ xs → us ≡ ts ++ ys → us ≡ old ++ (xs ++ ys)
then old xs ys ts us e f = f ∙ ap (λ zs. zs ++ ys) e ∙ append_assoc old xs ys

pub all_more : (ops : List SyncOp) (i : ℕ) (op : SyncOp) → i < length ops → op ≡ get_or ops i op → All IsReadBack (take i ops) → IsReadBack op → All IsReadBack (take (i + 1) ops)
all_more ops i op within is h one = All-more IsReadBack ops i op within h (subst IsReadBack is one)

pub one_on : (ops : List SyncOp) (i : ℕ) (op : SyncOp) (old now : List Token) → i < length ops → op ≡ get_or ops i op → now ≡ old ++ data_tokens (op_data op)
    → now ++ ops_tokens (drop (i + 1) ops) ≡ old ++ ops_tokens (drop i ops)
one_on ops i op old now within is new =
    let rest = ops_tokens (drop (i + 1) ops) in
    let here : drop i ops ≡ op ∷ drop (i + 1) ops = drop_more ops i op within ∙ ap (λ o. o ∷ drop (i + 1) ops) (sym is) in
    ap (λ ts. ts ++ rest) new ∙ append_assoc old (data_tokens (op_data op)) rest ∙ ap (λ os. old ++ ops_tokens os) (sym here)
