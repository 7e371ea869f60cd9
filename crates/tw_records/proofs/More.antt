-- One record more, at the end of records that stand for a log.
use Rattle.std.proofs.Common.{◌≡◌, ℕ, ◌+◌, ◌-◌, Bool, true, false, cond, ◌&&◌, ◌==◌, nat_le, nat_eq, List, [], ◌∷◌, ◌++◌, length, drop, map, reverse, Some, None, option_and_then, refl, sym, ap, subst, ◌∙◌, arith}
use lib.Pointwise.{pointwise}
use Rattle.std.proofs.lemmas.Bool.{true≢false, and_parts, eqb-true}
use Rattle.std.proofs.lemmas.Bool.Decides.{nat_tests}
use Rattle.std.proofs.lemmas.Cmp.{nat_list_eq_equiv}
use Rattle.std.proofs.lemmas.List.{length-map, drop-map}
use Rattle.tw_protocol.specs.Chain.{same_id}
use Rattle.tw_protocol.proofs.Chains.{same_id_exact}
use Rattle.tw_records.specs.Log.{Accepted}
use Rattle.tw_records.specs.Bodies.{block_size, block_of, last_of, is_kind, kind_in, is_body, is_next_entry, follows, entry_of, accepted_in}
use Rattle.tw_records.specs.Bodies.{snapshot_in, image_of, is_next_image, is_stored}
use Rattle.tw_records.specs.Reading.{Reading, nothing_read, with_version, with_block, with_snapshot, read_body, read_from, StandFor, is_block}
use Rattle.tw_records.specs.Table.{Row, version_in}
use Rattle.tw_records.specs.Opening.{fresh_by, fresh_after, fresh_in, entries_in}
use Rattle.tw_records.specs.Laws.{bare_version, tabled, OpenedStands, VersionStands, SnapshotStands}
use Rattle.tw_records.proofs.Back.{read_push, some_from, same_reading, by_kind, snapshot_tests, both, third_kind}
use Rattle.tw_records.proofs.Standing.{stood}

-- ---- one record more

more : (bodies : List (List ℕ)) (r q : Reading) (body : List ℕ) → read_from nothing_read bodies ≡ Some r → read_body r body ≡ Some q → read_from nothing_read (bodies ++ body ∷ []) ≡ Some q
more bodies r q body e f = read_push nothing_read bodies body ∙ ap (option_and_then (λ p. read_body p body)) e ∙ f

pub version_stands_after : VersionStands
version_stands_after bodies log body stands f =
    let r : Reading = record { log = log; fresh = stands.0 } in
    (stands.0 + 1, more bodies r (with_version r body) body stands.1 (ap (λ t. cond t (Some (with_version r body)) (cond (is_block r body) (Some (with_block r)) (cond (is_stored log body) (Some (with_snapshot r body)) None))) f))

no_version : (r : Reading) (body : List ℕ) → is_kind 1 body ≡ false → follows r.log.versions body ≡ false
no_version r body k = ap (λ t. (t && nat_le 49 (length body)) && is_next_entry r.log.versions (entry_of (accepted_in body))) k

no_block : (r : Reading) (body : List ℕ) → is_kind 2 body ≡ false → is_block r body ≡ false
no_block r [] k = none (nat_le block_size r.fresh)
  where
    none : (b : Bool) → b && false ≡ false
    none true = refl
    none false = refl
no_block r (kind ∷ fields) k = none (nat_le block_size r.fresh) (nat_eq kind 2) (pointwise nat_eq fields (drop 1 (block_of (map entry_of (last_of block_size r.log.versions))))) (turned kind k)
  where
    turned : (kind : ℕ) → (kind == 2) ≡ false → nat_eq kind 2 ≡ false
    turned kind k = grind (arith, nat_tests)

    none : (b t u : Bool) → t ≡ false → b && (t && u) ≡ false
    none true true u e = absurd (true≢false e)
    none true false u e = refl
    none false t u e = refl

pub snapshot_stands_after : SnapshotStands
snapshot_stands_after bodies log body stands f =
    let r : Reading = record { log = log; fresh = stands.0 } in
    let checks = snapshot_tests body (is_next_image log (image_of (snapshot_in body))) f in
    let others = third_kind body checks.0 in (
      stands.0,
      more bodies r (with_snapshot r body) body stands.1
          (λ i. cond (no_version r body others.0 i) (Some (with_version r body)) (cond (no_block r body others.1 i) (Some (with_block r)) (cond (f i) (Some (with_snapshot r body)) None))),
    )

-- ---- how many versions come after the last block

is_kind_in : (kind : ℕ) (body : List ℕ) → is_kind kind body ≡ true → kind_in body ≡ kind
is_kind_in kind [] e = absurd (true≢false (sym e))
is_kind_in kind (first ∷ fields) e = eqb-true first kind e

fresh_step : (q r : Reading) (body : List ℕ) → read_body q body ≡ Some r → fresh_by q.fresh (kind_in body) ≡ r.fresh
fresh_step q r body e = by_kind (λ (p : Reading). fresh_by q.fresh (kind_in body) ≡ p.fresh) q r body e first second third
  where
    first : follows q.log.versions body ≡ true → fresh_by q.fresh (kind_in body) ≡ q.fresh + 1
    first f =
        let whole = (and_parts (is_body body) (is_next_entry q.log.versions (entry_of (accepted_in body))) f).0 in
        ap (fresh_by q.fresh) (is_kind_in 1 body (and_parts (is_kind 1 body) (nat_le 49 (length body)) whole).0)

    second : is_block q body ≡ true → fresh_by q.fresh (kind_in body) ≡ 0
    second f =
        let block = block_of (map entry_of (last_of block_size q.log.versions)) in
        ap (λ b. fresh_by q.fresh (kind_in b)) (same_id_exact body block (and_parts (nat_le block_size q.fresh) (same_id body block) f).1)

    third : is_stored q.log body ≡ true → fresh_by q.fresh (kind_in body) ≡ q.fresh
    third f = ap (fresh_by q.fresh) (is_kind_in 3 body (snapshot_tests body (is_next_image q.log (image_of (snapshot_in body))) f).0)

fresh_is : (q r : Reading) (bodies : List (List ℕ)) → read_from q bodies ≡ Some r → fresh_after q.fresh (map kind_in bodies) ≡ r.fresh
fresh_is q r [] e = ap (λ (p : Reading). p.fresh) (same_reading q r e)
fresh_is q r (body ∷ bodies) e =
    let got = some_from (λ p. read_from p bodies) (read_body q body) r e in
    ap (λ k. fresh_after k (map kind_in bodies)) (fresh_step q got.0 body got.1) ∙ fresh_is got.0 r bodies got.2

-- ---- the block that an opening adds

pub row_entries : (rows : List Row) → map (λ (row : Row). row.entry) rows ≡ map entry_of (map version_in rows)
row_entries [] = refl
row_entries (row ∷ rows) = λ i. row.entry ∷ row_entries rows i

pub bare_entries : (versions : List Accepted) → map entry_of (map bare_version versions) ≡ map entry_of versions
bare_entries [] = refl
bare_entries (a ∷ versions) = λ i. entry_of a ∷ bare_entries versions i

pub block_last : (versions : List Accepted) → block_of (last_of block_size (map entry_of versions)) ≡ block_of (map entry_of (last_of block_size versions))
block_last versions =
    ap block_of (ap (λ k. drop (k - block_size) (map entry_of versions)) (length-map versions entry_of) ∙ drop-map entry_of (length versions - block_size) versions)

pub opened_stands : OpenedStands
opened_stands bodies log stands =
    let fresh : fresh_in bodies ≡ stands.0 = fresh_is nothing_read r bodies stands.1 in
    let entries : entries_in (tabled (reverse bodies)) ≡ map entry_of log.versions =
    row_entries (tabled (reverse bodies)).rows ∙ ap (map entry_of) (stood bodies r stands.1).versions ∙ bare_entries log.versions in
    let block : block_of (last_of block_size (entries_in (tabled (reverse bodies)))) ≡ block_of (map entry_of (last_of block_size log.versions)) =
    ap (λ es. block_of (last_of block_size es)) entries ∙ block_last log.versions in
    subst (λ bs. StandFor bs log) (λ i. cond (nat_le block_size (sym fresh i)) (bodies ++ sym block i ∷ []) bodies) (by (nat_le block_size stands.0) refl)
  where
    r : Reading
    r = record { log = log; fresh = stands.0 }

    by : (t : Bool) → nat_le block_size stands.0 ≡ t → StandFor (cond t (bodies ++ block_of (map entry_of (last_of block_size log.versions)) ∷ []) bodies) log
    by false few = stands
    by true many =
        let block = block_of (map entry_of (last_of block_size log.versions)) in (
          0,
          more bodies r (with_block r) block stands.1
              (ap (λ t. cond t (Some (with_block r)) (cond (is_stored log block) (Some (with_snapshot r block)) None)) (both (nat_le block_size stands.0) (same_id block block) many (nat_list_eq_equiv.refl block))),
        )
