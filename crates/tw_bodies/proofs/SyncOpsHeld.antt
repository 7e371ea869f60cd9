-- Operations of versions that are held as their bytes.
use Rattle.std.proofs.Common.{◌≡◌, ℕ, ◌+◌, ◌^◌, ◌<◌, ◌≤◌, List, [], ◌∷◌, ◌++◌, length, Some, refl, sym, ap, subst, ◌∙◌, arith}
use Rattle.std.specs.List.{flat_map, AllByRecursion}
use Rattle.std.proofs.lemmas.List.{append-nil, length-append, flat_map_more}
use Rattle.tw_model.specs.declared.SyncOp.{SyncOp}
use Rattle.tw_bodies.specs.Body.{sync_op_bytes, IsSyncOp}
use Rattle.tw_bodies.specs.Reading.{sync_op_at}
use Rattle.tw_bodies.specs.SyncOps.{ops_or_none, ops_in, AreSpelled}
use Rattle.tw_fields.specs.Reading.{many_at}
use Rattle.tw_fields.proofs.ReadLoop.{with_front}
use Rattle.tw_fields.proofs.FieldsAgain.{many_again, few}
use Rattle.tw_bodies.proofs.ReadSome.{so_many, after_front}
use Rattle.tw_bodies.proofs.OpsAgain.{sync_op_again, sync_op_has_bytes}

each_more : (ops : List SyncOp) (op : SyncOp) → AllByRecursion IsSyncOp ops → IsSyncOp op → AllByRecursion IsSyncOp (ops ++ op ∷ [])
each_more [] op each is = (is, tt)
each_more (x ∷ ops) op each is = (each.0, each_more ops op each.1 is)

read_again : (ops : List SyncOp) → AllByRecursion IsSyncOp ops → length (flat_map sync_op_bytes ops) < 2 ^ 32 → many_at sync_op_at (length ops) (flat_map sync_op_bytes ops) ≡ Some (ops, [])
read_again ops each lt = ap (many_at sync_op_at (length ops)) (sym (append-nil (flat_map sync_op_bytes ops))) ∙ many_again sync_op_at sync_op_bytes IsSyncOp sync_op_again ops [] each lt

-- the bytes of operations hold these
held_as : (count : ℕ) (bytes : List ℕ) (ops : List SyncOp) → count ≡ length ops → bytes ≡ flat_map sync_op_bytes ops → AllByRecursion IsSyncOp ops → length bytes < 2 ^ 32 → AreSpelled count bytes × (ops_in count bytes ≡ ops)
held_as count bytes ops number spelled each lt =
    let read = read_again ops each (subst (λ (l : List ℕ). length l < 2 ^ 32) spelled lt) in
    let same : ops_in count bytes ≡ ops = ap (λ n. ops_in n bytes) number ∙ ap (ops_in (length ops)) spelled ∙ ap ops_or_none read in (
      record {
        spelled = spelled ∙ ap (flat_map sync_op_bytes) (sym same);
        count = number ∙ ap length (sym same);
        each = subst (AllByRecursion IsSyncOp) (sym same) each;
        short = lt;
      },
      same,
    )

pub none_held : AreSpelled 0 [] × (ops_in 0 [] ≡ [])
none_held = held_as 0 [] [] refl refl tt (omega arith)

-- one more, whose bytes are put after the others
pub more_held : (count : ℕ) (bytes more : List ℕ) (op : SyncOp) → AreSpelled count bytes → IsSyncOp op → more ≡ bytes ++ sync_op_bytes op → length more < 2 ^ 32 → AreSpelled (count + 1) more × (ops_in (count + 1) more ≡ ops_in count bytes ++ op ∷ [])
more_held count bytes more op are is longer lt =
    let ops = ops_in count bytes in
    let size : length (ops ++ op ∷ []) ≡ length ops + 1 = length-append ops (op ∷ []) in
    let number = are.count in
    held_as (count + 1) more (ops ++ op ∷ []) (omega arith) (longer ∙ ap (λ (l : List ℕ). l ++ sync_op_bytes op) are.spelled ∙ flat_map_more sync_op_bytes [] ops op) (each_more ops op are.each is) lt

pub held_read : (count : ℕ) (bytes : List ℕ) → AreSpelled count bytes → many_at sync_op_at count bytes ≡ Some (ops_in count bytes, [])
held_read count bytes are =
    let ops = ops_in count bytes in
    ap (λ n. many_at sync_op_at n bytes) are.count ∙ ap (many_at sync_op_at (length ops)) are.spelled ∙ read_again ops are.each (subst (λ (l : List ℕ). length l < 2 ^ 32) are.spelled are.short)

-- each has at least one byte, so they are fewer than four bytes can say
pub few_held : (count : ℕ) (bytes : List ℕ) → AreSpelled count bytes → count < 2 ^ 32
few_held count bytes are =
    let ops = ops_in count bytes in
    let few_ops : length ops ≤ length (flat_map sync_op_bytes ops) = few sync_op_at sync_op_bytes IsSyncOp sync_op_again ops sync_op_has_bytes in
    let size : length bytes ≡ length (flat_map sync_op_bytes ops) = ap length are.spelled in
    let number = are.count in
    let short = are.short in
    omega arith

-- ---- reading them back

-- some were read, and the others are left
pub left_on : (left fewer : ℕ) (bytes rest : List ℕ) (ops : List SyncOp) → many_at sync_op_at left bytes ≡ Some (ops_in left bytes, []) → with_front ops (many_at sync_op_at fewer rest) ≡ many_at sync_op_at left bytes
    → (many_at sync_op_at fewer rest ≡ Some (ops_in fewer rest, [])) × (ops_in left bytes ≡ ops ++ ops_in fewer rest)
left_on left fewer bytes rest ops all read =
    let o = after_front ops (ops_in left bytes) [] (many_at sync_op_at fewer rest) (read ∙ all) in
    let same : o.0 ≡ ops_in fewer rest = sym (ap ops_or_none o.1) in
    (o.1 ∙ ap (λ (l : List SyncOp). Some (l, [])) same, o.2 ∙ ap (λ (l : List SyncOp). ops ++ l) same)

pub left_length : (left : ℕ) (bytes : List ℕ) → many_at sync_op_at left bytes ≡ Some (ops_in left bytes, []) → left ≡ length (ops_in left bytes)
left_length left bytes all = sym (so_many sync_op_at left bytes (ops_in left bytes, []) all)
