-- How long segments are.
use Rattle.std.proofs.Common.{◌≡◌, ℕ, ◌+◌, ◌≤◌, Bool, true, false, List, [], ◌∷◌, ◌++◌, length, map, codes, refl, sym, ap, ◌∙◌, arith, length-append}
use Rattle.std.specs.Prelude.{nat_le}
use Rattle.std.proofs.lemmas.Bool.{leb-true, le-leb, true≢false}
use Rattle.serde_json.specs.Data.{Items}
use Rattle.serde_json.specs.View.{items_of}
use Rattle.serde_json.specs.Written.{compact_text, items_text, comma_if}
use Rattle.json.specs.Print.{quoted, escape_byte}
use Rattle.tw_model.specs.declared.SyncOp.{SyncOp}
use Rattle.tw_segment.specs.Segment.{op_data, segment_text}
use Rattle.tw_path.specs.Path.{max_batch}
use Rattle.tw_path.specs.Lengths.{ops_len, max_sum, SegmentLength, BatchIsSum, SegmentGrows, BatchIsLimit}

abbrev values : List SyncOp → Items
values ops = items_of (map op_data ops)

some_text : (later : Bool) (ops : List SyncOp) → 1 ≤ length (items_text later (values ops))
some_text later [] = omega arith
some_text later (op ∷ ops) =
    let a = length-append (comma_if later) (compact_text (op_data op) ++ items_text true (values ops)) in
    let b = length-append (compact_text (op_data op)) (items_text true (values ops)) in
    let c = some_text true ops in
    omega (arith, a, b, c)

items_grow : (later : Bool) (ops more : List SyncOp) → length (items_text later (values ops)) ≤ length (items_text later (values (ops ++ more)))
items_grow later [] more = some_text later more
items_grow later (op ∷ ops) more =
    let a = length-append (comma_if later) (compact_text (op_data op) ++ items_text true (values ops)) in
    let b = length-append (compact_text (op_data op)) (items_text true (values ops)) in
    let c = length-append (comma_if later) (compact_text (op_data op) ++ items_text true (values (ops ++ more))) in
    let d = length-append (compact_text (op_data op)) (items_text true (values (ops ++ more))) in
    let e = items_grow true ops more in
    omega (arith, a, b, c, d, e)

-- what is around the items
around : (ops : List SyncOp) → length (segment_text ops) ≡ 4 + (length (quoted (codes "operations")) + length (items_text false (values ops)))
around ops =
    let k = quoted (codes "operations") in
    let a = length-append k (58 ∷ ((91 ∷ items_text false (values ops)) ++ 125 ∷ [])) in
    let b = length-append (items_text false (values ops)) (125 ∷ []) in
    omega (arith, a, b)

pub segment_grows : SegmentGrows
segment_grows ops more =
    let a = around ops in
    let b = around (ops ++ more) in
    let c = items_grow false ops more in
    omega (arith, a, b, c)

later_len : (ops : List SyncOp) → length (items_text true (values ops)) ≡ 1 + ops_len ops
later_len [] = refl
later_len (op ∷ ops) =
    let b = length-append (compact_text (op_data op)) (items_text true (values ops)) in
    let e = later_len ops in
    omega (arith, b, e)

pub segment_length : SegmentLength
segment_length op ops =
    let a = around (op ∷ ops) in
    let n = around [] in
    let b = length-append (compact_text (op_data op)) (items_text true (values ops)) in
    let e = later_len ops in
    omega (arith, a, n, b, e)

within : (a b : ℕ) → a ≤ b → nat_le b max_batch ≡ true → nat_le a max_batch ≡ true
within a b le short = let l = leb-true b max_batch short in le-leb a max_batch (omega (arith, le, l))

empty_len : length (segment_text []) ≡ 17
unfolding escape_byte
empty_len = refl

pub batch_is_limit : BatchIsLimit
batch_is_limit = record { none = ap (λ n. nat_le n max_batch) empty_len; fewer = λ xs ys e. within (length (segment_text xs)) (length (segment_text (xs ++ ys))) (segment_grows xs ys) e }

-- two tests that are the same
same_test : (a b c d : ℕ) → (a ≤ b → c ≤ d) → (c ≤ d → a ≤ b) → nat_le a b ≡ nat_le c d
same_test a b c d there back = by (nat_le a b) (nat_le c d) refl refl
  where
    by : (t u : Bool) → nat_le a b ≡ t → nat_le c d ≡ u → nat_le a b ≡ nat_le c d
    by true true e f = e ∙ sym f
    by false false e f = e ∙ sym f
    by true false e f = absurd (true≢false (sym (le-leb c d (there (leb-true a b e))) ∙ f))
    by false true e f = absurd (true≢false (sym (le-leb a b (back (leb-true c d f))) ∙ e))

pub batch_is_sum : BatchIsSum
batch_is_sum [] = ap (λ n. nat_le n max_batch) empty_len
batch_is_sum (op ∷ ops) =
    let e = segment_length op ops in
    let n = empty_len in
    same_test (length (segment_text (op ∷ ops))) max_batch (ops_len (op ∷ ops)) max_sum (λ le. omega (arith, e, n, le)) (λ le. omega (arith, e, n, le))
