-- The answers of the reader exclude each other.
use Rattle.std.proofs.Common.{◌≡◌, ℕ, ◌≤◌, List, ◌∷◌, length, Option, Some, None, Result, Ok, Err, arith, refl, sym, ap, ◌∙◌, suc, option_map}
use Rattle.std.specs.Result.{IfOk, IfErr}
use Rattle.serde_json.specs.Data.{Data, Items, item, no_items}
use Rattle.tw_model.specs.declared.SyncOp.{SyncOp}
use Rattle.tw_time.specs.Basic.{◌>>=◌}
use Rattle.tw_segment.specs.declared.error.SegmentError.{SegmentError}
use Rattle.tw_segment.specs.declared.error.SegmentError.TheVariants.{NotJson, Shape, TooLong, Memory}
use Rattle.tw_segment.specs.Segment.{max_len, op_of, ops_of, index_with, bad_index, list_of, odd_index, IsJsonOf, IsSegmentOf, IsSegment}
use Rattle.tw_segment.specs.Refusals.{IsUnread, IsUnshaped}

some_both : (o : Option SyncOp) (rest : Option (List SyncOp)) (ops : List SyncOp) (bad : Option ℕ) → (o >>= λ op. option_map (λ more. op ∷ more) rest) ≡ Some ops → ((more : List SyncOp) → rest ≡ Some more → bad ≡ None) → index_with o bad ≡ None
some_both None rest ops bad e h = absurd (cc)
some_both (Some op) None ops bad e h = absurd (cc)
some_both (Some op) (Some more) ops bad e h = ap (option_map suc) (h more refl)

-- if each item is an operation, none is bad
no_bad_place : (ds : Items) (ops : List SyncOp) → ops_of ds ≡ Some ops → bad_index ds ≡ None
no_bad_place no_items ops e = refl
no_bad_place (item d ds) ops e = some_both (op_of d) (ops_of ds) ops (bad_index ds) e (λ more f. no_bad_place ds more f)

no_odd_place : (o : Option Items) (ops : List SyncOp) (index : ℕ) → (o >>= ops_of) ≡ Some ops → odd_index o ≡ Some index → ⊥
no_odd_place None ops index e f = cc
no_odd_place (Some ds) ops index e f = let none = no_bad_place ds ops e in cc

one_value : (bytes : List ℕ) (d e : Data) → IsJsonOf bytes d → IsJsonOf bytes e → d ≡ e
one_value bytes d e a b = let same = sym a.1 ∙ b.1 in cc

-- bytes are a segment of one list of operations alone
pub one_list : (bytes : List ℕ) (ops more : List SyncOp) → IsSegment bytes ops → IsSegment bytes more → ops ≡ more
one_list bytes ops more a b =
    let value = one_value bytes a.0 b.0 a.1 b.1 in
    let same = sym a.2 ∙ ap (λ d. list_of d >>= ops_of) value ∙ b.2 in
    cc

only_memory : (bytes : List ℕ) (e : SegmentError) (ops : List SyncOp) → IsUnread bytes e → length bytes ≤ max_len → IsSegment bytes ops → e ≡ Memory
only_memory bytes (TooLong len) ops u within s = absurd (omega (arith, u.0, u.1, within))
only_memory bytes NotJson ops u within s = absurd (u.1 s.0 s.1)
only_memory bytes (Shape index) ops u within s =
    let value = one_value bytes s.0 u.1.0 s.1 u.1.1 in
    absurd (no_odd_place (list_of s.0) ops index s.2 (ap (λ d. odd_index (list_of d)) value ∙ u.1.2))
only_memory bytes Memory ops u within s = refl

-- what is read of a value, or why it is not, is the only answer but for want of memory
pub the_only : {V : Type 0} (items : V → List SyncOp) (bytes : List ℕ) (d : Data) (r : Result V SegmentError) → length bytes ≤ max_len → IsJsonOf bytes d
    → IfOk r (λ v. IsSegmentOf d (items v)) → IfErr r (IsUnshaped (odd_index (list_of d))) → (ops : List SyncOp) → IsSegment bytes ops
    → IfOk r (λ v. items v ≡ ops) × IfErr r (λ e. e ≡ Memory)
the_only items bytes d (Ok v) within json ok err ops s = (one_list bytes (items v) ops (d, json, ok) s, tt)
the_only items bytes d (Err (TooLong len)) within json ok err ops s = absurd err
the_only items bytes d (Err NotJson) within json ok err ops s = absurd err
the_only items bytes d (Err (Shape index)) within json ok err ops s = (tt, only_memory bytes (Shape index) ops (within, (d, json, err)) within s)
the_only items bytes d (Err Memory) within json ok err ops s = (tt, refl)
