-- What an opening makes of a disk.
use Rattle.std.proofs.Common.{◌≡◌, ◌∙◌, ◌⊎◌, inl, inr, ℕ, ◌+◌, ◌<◌, ◌≤◌, Bool, true, false, not, ◌&&◌, nat_le, cond, if◌then◌else◌, Some, None, Result, Ok, Err, List, [], ◌∷◌, ◌++◌, length, take, map, reverse, refl, sym, ap, subst, arith}
use Rattle.std.specs.Prelude.{All}
use Rattle.std.proofs.lemmas.Bool.Decides.{nat_tests}
use Rattle.std.proofs.lemmas.List.{length-append, length-drop, map-append, take_more}
use Rattle.uuid.specs.Parts.{zero_bytes}
use Rattle.tw_world.specs.Disk.{DiskModel, Tells, LeavesOnly, Untouched}
use Rattle.tw_world.proofs.Moments.{CountsNow, OnlyNow, started, joined, weaker}
use Rattle.tw_journal.specs.Open.{Records, OpenRefused, IsFault, IsImageThen}
use Rattle.tw_journal.specs.Record.{rows, first_in, IsLongerBy}
use Rattle.tw_journal.specs.Form.{offset_in, IsSameOrEnded}
use Rattle.tw_journal.specs.declared.error.OpenError.{OpenError}
use Rattle.tw_journal.specs.declared.error.OpenError.TheVariants as opening
use Rattle.tw_journal.specs.Journal.{IsOpenOn, IsOpened, OnRecords}
use Rattle.tw_journal.specs.declared.journal.Journal.{Journal}
use Rattle.tw_journal.proofs.Offsets.{still_open, same_offset, left_records}
use Rattle.tw_protocol.specs.Chain.{same_id, latest, has_id}
use Rattle.tw_records.specs.declared.entry.Entry.{Entry}
use Rattle.tw_records.specs.declared.image.Image.{Image}
use Rattle.tw_records.specs.Log.{Accepted, Log, chain_of}
use Rattle.tw_records.specs.Bodies.{block_size, block_of, last_of, kind_in, entry_of, accepted_in, entry_in, is_body, is_next_entry, follows}
use Rattle.tw_records.specs.Bodies.{image_in, image_of, snapshot_in, is_snapshot_body, is_next_image, is_stored}
use Rattle.tw_records.specs.Reading.{StandFor}
use Rattle.tw_records.specs.Table.{Table, body_at, table_in}
use Rattle.tw_records.specs.Laws.{tabled}
use Rattle.tw_records.specs.Opening.{entries_in, fresh_in, opened_records, with_block_of}
use Rattle.tw_records.proofs.Standing.{standing_is_read}
use Rattle.tw_records.proofs.More.{opened_stands}
use Rattle.tw_server.specs.declared.error.ServerOpenError.{ServerOpenError}
use Rattle.tw_server.specs.declared.error.ServerOpenError.TheVariants as errors
use Rattle.tw_server.specs.declared.server.Server.{Server}
use Rattle.tw_server.specs.Faults.{open_in_opening}
use Rattle.tw_server.specs.Opening.{IfDamaged, IsDamageBy, IsLongerIf, IsOpenedOn, IsOpening, IsTabled, ServerOpenRefused, TakeRefused}
use Rattle.tw_server.specs.Server.{magic}
use Rattle.tw_server.specs.declared.images.Images.{Images}
use Rattle.tw_server.specs.declared.images.Placed.{Placed}
use Rattle.tw_server.specs.declared.versions.Versions.{Versions}
use Rattle.tw_server.specs.Versions.{image_at}
use Rattle.tw_server.proofs.Knowing.{AreKept, kept_before, kept_there}
use Rattle.tw_server.proofs.Tables.{same_table, standing_places}
use Rattle.tw_server.proofs.Taken.{damage_by}

-- a journal that is not opened refuses the opening
pub not_opened : {D : Type 0} (m : DiskModel D) (before after : D) (e : OpenError) → OpenRefused m before after magic e → ServerOpenRefused m before after (open_in_opening e)
not_opened m before after opening.Disk refused = refused
not_opened m before after (opening.Damaged offset) refused = λ tells. inl (refused tells)
not_opened m before after opening.Memory refused = tt

pub none_false : {X : Type 0} (t : Bool) (x : X) → None ≡ (if t then Some x else None) → t ≡ false
none_false true x e = let no : ⊥ = cc in absurd no
none_false false x e = refl

pub some_true : {X : Type 0} (t : Bool) (x y : X) → Some y ≡ (if t then Some x else None) → (t ≡ true) × (y ≡ x)
some_true true x y e = (refl, cc)
some_true false x y e = let no : ⊥ = cc in absurd no

-- what a test gives is given by two tests too, if the first one fails
pub none_either : {X : Type 0} (t u : Bool) (x : X) → (if t then Some x else None) ≡ None → None ≡ (if t && u then Some x else None)
none_either true u x e = let no : ⊥ = cc in absurd no
none_either false u x e = refl

some_either : {X : Type 0} (t : Bool) (u : X → Bool) (x y : X) → Some y ≡ (if t then Some x else None) → (if u y then Some y else None) ≡ (if t && u x then Some x else None)
some_either true u x y e = let same : y ≡ x = cc in ap (λ z. if u z then Some z else None) same
some_either false u x y e = let no : ⊥ = cc in absurd no

pub next_is : (versions : List Accepted) (body : List ℕ) (e : Entry) → entry_in body ≡ Some e → (if is_next_entry versions e then Some e else None) ≡ (if follows versions body then Some (entry_of (accepted_in body)) else None)
next_is versions body e some = some_either (is_body body) (is_next_entry versions) (entry_of (accepted_in body)) e (sym some)

pub image_is : (log : Log) (body : List ℕ) (i : Image) (v : Bool) → image_in body ≡ Some i → v ≡ is_next_image log i → (if v then Some i else None) ≡ (if is_stored log body then Some (image_of (snapshot_in body)) else None)
image_is log body i v some next = ap (λ b. if b then Some i else None) next ∙ some_either (is_snapshot_body body) (is_next_image log) (image_of (snapshot_in body)) i (sym some)

-- the three tests of a version
pub next_by : (versions : List Accepted) (e : Entry) (t u v : Bool) → same_id e.id zero_bytes ≡ t → has_id e.id (chain_of e.client versions) ≡ u → same_id (latest (chain_of e.client versions)) e.parent ≡ v → (not t && not u && v) ≡ is_next_entry versions e
next_by versions e t u v a b d =
    let nil = same_id e.id zero_bytes in
    let known = has_id e.id (chain_of e.client versions) in
    ap (λ x. not x && not u && v) (sym a) ∙ ap (λ x. not nil && not x && v) (sym b) ∙ ap (λ x. not nil && not known && x) (sym d)

-- what a crash may leave stays so over reads
pub after_reads : {D : Type 0} (m : DiskModel D) (old mid new : D) (P : List ℕ → Type 0) → CountsNow m → LeavesOnly m old mid P → Tells m mid → Untouched m mid new → LeavesOnly m old new P
after_reads m old mid new P counts_now first tells second =
    joined m old mid new P first (weaker m mid new (m.leaves mid) P (second.run tells) (λ c left. first.each c (counts_now mid (m.moment old) c first.later left)))

-- the journal that is still open after reads
pub open_now : {D : Type 0} (m : DiskModel D) (opened still : Journal) (mid now : D) (bodies : List (List ℕ)) → still ≡ opened → Untouched m mid now → IsOpenOn m magic opened mid bodies → IsOpenOn m magic still now bodies
open_now m opened still mid now bodies same reads on = subst (λ j. IsOpenOn m magic j now bodies) (sym same) (still_open m magic opened mid now bodies reads on)

-- ---- damage

-- damage is at the record that a reading names, on the disk before some reads
pub damage_after : {D : Type 0} (m : DiskModel D) (journal : Journal) (before after : D) (bodies : List (List ℕ)) (n : ℕ) (e : ServerOpenError) (read : Result Table ℕ) → IsOpenOn m magic journal before bodies → Untouched m before after → n < journal.count
    → OnRecords m journal after (λ form bodies. IfDamaged e (λ offset. offset ≡ offset_in form (m.seen after) bodies n)) → read ≡ Err n → IfDamaged e (IsDamageBy (m.seen before) bodies read)
damage_after m journal before after bodies n e read on same inside at bad =
    damage_by (m.seen before) bodies read n e bad (let k = on.count in omega (arith, inside, k))
    (subst (λ file. IfDamaged e (λ offset. offset ≡ offset_in magic file bodies n)) (same.seen on.rest.tells) (at magic bodies (still_open m magic journal before after bodies same on)))

-- it was there before the journal was opened
pub damage_before : {D : Type 0} (m : DiskModel D) (old mid : D) (journal : Journal) (o : IsOpened m magic old mid journal) (e : ServerOpenError) (read : Result Table ℕ) → IfDamaged e (IsDamageBy (m.seen mid) o.bodies read) → IfDamaged e (IsDamageBy (m.seen old) o.bodies read)
damage_before m old mid journal o errors.Disk read bad = tt
damage_before m old mid journal o (errors.Damaged offset) read bad = record {
  number = bad.number;
  damaged = bad.damaged;
  inside = bad.inside;
  at = bad.at ∙ same_offset m magic old mid journal o bad.number bad.inside;
}
damage_before m old mid journal o errors.Memory read bad = tt

-- a record that is not taken refuses the opening
pub open_refused : {D : Type 0} (m : DiskModel D) (old mid new : D) (e : ServerOpenError) → m.faults old ≤ m.faults mid → TakeRefused m mid new e
    → (Tells m old → (bodies : List (List ℕ)) × Records magic (m.seen old) bodies × IfDamaged e (IsDamageBy (m.seen old) bodies (table_in block_size bodies))) → ServerOpenRefused m old new e
open_refused m old mid new errors.Disk first refused bad = omega (arith, first, refused)
open_refused m old mid new (errors.Damaged offset) first refused bad = λ tells. let b = bad tells in inr (record { bodies = b.0; records = b.1; bad = b.2 })
open_refused m old mid new errors.Memory first refused bad = tt

-- ---- what is read of the kinds

first_kind : (body : List ℕ) → first_in body ≡ kind_in body
first_kind [] = refl
first_kind (kind ∷ fields) = refl

pub kinds_more : (bodies : List (List ℕ)) (n first : ℕ) (kinds more : List ℕ) → n < length bodies → kinds ≡ map kind_in (take n bodies) → first ≡ first_in (body_at bodies n) → more ≡ kinds ++ first ∷ [] → more ≡ map kind_in (take (n + 1) bodies)
kinds_more bodies n first kinds more inside so_far is next =
    next ∙ (λ i. so_far i ++ (is ∙ first_kind (body_at bodies n)) i ∷ []) ∙ sym (map-append kind_in (take n bodies) (body_at bodies n ∷ [])) ∙ ap (map kind_in) (sym (take_more bodies n [] inside))

-- ---- the block

-- two runs, one after the other
pub goes_on_by : {D : Type 0} (m : DiskModel D) (old mid new : D) (P Q R : List ℕ → Type 0) → LeavesOnly m old mid P → LeavesOnly m mid new Q → ((c : List ℕ) → P c → R c) → ((c : List ℕ) → Q c → R c) → LeavesOnly m old new R
goes_on_by m old mid new P Q R first second p q = joined m old mid new R (weaker m old mid P R first p) (weaker m mid new Q R second q)

-- a crash after the records were read leaves them, or these and the block
pub opening_leaves : {D : Type 0} (m : DiskModel D) (old : D) (bodies : List (List ℕ)) (table : Table) → Records magic (m.seen old) bodies → table_in block_size bodies ≡ Ok table → (c : List ℕ)
    → Records magic c bodies ⊎ Records magic c (opened_records bodies table) → IsOpening m old c
opening_leaves m old bodies table records read c (inl same) = inl (inr (bodies, records, same))
opening_leaves m old bodies table records read c (inr more) = inr (record { bodies = bodies; records = records; table = table; read = read; more = more })

-- the block that an opening adds is that of its table
pub block_same : (entries : List Entry) (fresh : ℕ) (bodies : List (List ℕ)) (table : Table) → entries ≡ entries_in table → fresh ≡ fresh_in bodies → with_block_of entries fresh bodies ≡ opened_records bodies table
block_same entries fresh bodies table same count = λ i. with_block_of (same i) (count i) bodies

pub opening_moments : {D : Type 0} (m : DiskModel D) (old mid new : D) (entries : List Entry) (fresh : ℕ) (bodies : List (List ℕ)) (table : Table) → Records magic (m.seen old) bodies → table_in block_size bodies ≡ Ok table → entries ≡ entries_in table → fresh ≡ fresh_in bodies
    → LeavesOnly m old mid (IsImageThen m old magic) → LeavesOnly m mid new (λ c. Records magic c bodies ⊎ Records magic c (with_block_of entries fresh bodies)) → LeavesOnly m old new (IsOpening m old)
opening_moments m old mid new entries fresh bodies table records read same count first second =
    goes_on_by m old mid new (IsImageThen m old magic) (λ c. Records magic c bodies ⊎ Records magic c (opened_records bodies table)) (IsOpening m old) first
    (subst (λ bs. LeavesOnly m mid new (λ c. Records magic c bodies ⊎ Records magic c bs)) (block_same entries fresh bodies table same count) second)
    (λ c left. inl left) (opening_leaves m old bodies table records read)

-- ---- how long the file is

longer : {D : Type 0} (m : DiskModel D) (old : D) (c : List ℕ) → IsLongerBy m old 29 c → IsLongerBy m old 12294 c
longer m old c (inl left) = inl left
longer m old c (inr short) = inr (omega (arith, short))

block_longer : {D : Type 0} (m : DiskModel D) (old mid : D) (many : Type 0) (c : List ℕ) → (m.leaves mid c → IsLongerBy m old 12294 c) → (many → length (m.seen mid) ≤ length (m.seen old)) → IsLongerIf m mid many c → IsLongerBy m old 12294 c
block_longer m old mid many c before short (inl left) = before left
block_longer m old mid many c before short (inr long) = inr (let few = short long.0 in let more = long.1 in omega (arith, few, more))

pub opening_growth : {D : Type 0} (m : DiskModel D) (old mid new : D) (many : Type 0) → CountsNow m → LeavesOnly m old mid (IsLongerBy m old 29) → LeavesOnly m mid new (IsLongerIf m mid many) → (many → length (m.seen mid) ≤ length (m.seen old))
    → LeavesOnly m old new (IsLongerBy m old 12294)
opening_growth m old mid new many counts_now first second short =
    goes_on_by m old mid new (IsLongerBy m old 29) (IsLongerIf m mid many) (IsLongerBy m old 12294) first second (longer m old)
    (λ c. block_longer m old mid many c (λ left. longer m old c (first.each c (counts_now mid (m.moment old) c first.later left))) short)

some_same : (x y : ℕ) → Some x ≡ Some y → x ≡ y
some_same x y e = cc

-- a file with records is no longer once it was opened
pub opened_length : {D : Type 0} (m : DiskModel D) (old mid : D) (journal : Journal) (o : IsOpened m magic old mid journal) → 0 < length (rows o.bodies) → length (m.seen mid) ≤ length (m.seen old)
opened_length m old mid journal o some = by_form o.form o.records
  where
    none : o.bodies ≡ [] → ⊥
    none e = let l = ap (λ (bs : List (List ℕ)). length (rows bs)) e in omega (arith, some, l)

    by_form : (o.bodies ≡ []) ⊎ IsSameOrEnded magic (m.seen old) (m.seen mid) → Records magic (m.seen old) o.bodies → length (m.seen mid) ≤ length (m.seen old)
    by_form (inl e) records = absurd (none e)
    by_form (inr same) (inr tail) = absurd (none tail.0)
    by_form (inr same) (inl has) =
        let start : has.start ≡ journal.start = some_same has.start journal.start (sym has.form ∙ sym same.start ∙ o.now.rest.form) in
        let now = ap length o.now.rest.file in
        let now_long = length-drop journal.start (m.seen mid) in
        let was = ap length has.image.split in
        let was_long = length-drop has.start (m.seen old) in
        let both = length-append (rows o.bodies) has.image.tail in
        omega (arith, some, start, now, now_long, was, was_long, both)

-- if versions come after the last block, there are records
pub fresh_rows : (fresh : ℕ) (bodies : List (List ℕ)) → fresh ≡ fresh_in bodies → 256 ≤ fresh → 0 < length (rows bodies)
fresh_rows fresh [] e many = absurd (omega (arith, e, many))
fresh_rows fresh (body ∷ bodies) e many = omega arith

-- ---- a server that was opened

-- what it knows is at the same places, with a block more
same_kept : (server : Server) (bodies : List (List ℕ)) (block : List ℕ) (t : Bool) → All (λ n. n < length bodies) server.versions.numbers.items → ((client : List ℕ) (p : Placed) → image_at server.images client ≡ Some p → p.number < length bodies)
    → AreKept server bodies (cond t (bodies ++ block ∷ []) bodies)
same_kept server bodies block true numbers images = kept_before server bodies block numbers images
same_kept server bodies block false numbers images = kept_there server bodies

pub opened_server : {D : Type 0} (m : DiskModel D) (old mid new : D) (before server : Server) (bodies : List (List ℕ)) (table : Table) (fresh : ℕ) → Records magic (m.seen old) bodies → table_in block_size bodies ≡ Ok table → IsTabled before table → fresh ≡ fresh_in bodies
    → server.versions ≡ before.versions → server.images ≡ before.images → IsOpenOn m magic before.journal mid bodies → IsOpenOn m magic server.journal new (with_block_of before.versions.entries.items fresh bodies) → IsOpenedOn m old new server
opened_server m old mid new before server bodies table fresh records read known count versions images on on_new =
    let now = block_same before.versions.entries.items fresh bodies table known.entries count in
    let open_on = subst (λ bs. IsOpenOn m magic server.journal new bs) now on_new in
    let knows : IsTabled server table = record {
      entries = ap (λ (v : Versions). v.entries.items) versions ∙ known.entries;
      numbers = ap (λ (v : Versions). v.numbers.items) versions ∙ known.numbers;
      images = λ client. ap (λ (i : Images). image_at i client) images ∙ known.images client;
      sound = known.sound;
      accounts = known.accounts;
    } in
    let numbers = subst (λ (v : Versions). All (λ n. n < length bodies) v.numbers.items) (sym versions) (subst (λ k. All (λ n. n < k) before.versions.numbers.items) on.count (before.counted on.open_now)) in
    let placed : (client : List ℕ) (p : Placed) → image_at server.images client ≡ Some p → p.number < length bodies =
    λ client p stored. subst (λ k. p.number < k) on.count (before.placed on.open_now client p (sym (ap (λ (i : Images). image_at i client) images) ∙ stored)) in
    let kept = same_kept server bodies (block_of (last_of block_size (entries_in table))) (nat_le block_size (fresh_in bodies)) numbers placed in
    record {
      bodies = bodies;
      records = records;
      table = table;
      read = read;
      knows = knows;
      journal = open_on;
      now = λ log stands.
          let places = standing_places server bodies table log read knows stands in
          record {
            bodies = opened_records bodies table;
            journal = open_on;
            stands = subst (λ t. StandFor (opened_records bodies t) log) (sym (same_table table (tabled (reverse bodies)) (table_in block_size bodies) read (standing_is_read bodies log stands).0)) (opened_stands bodies log stands);
            places = record {
              knows = places.knows;
              numbers = kept.numbers ∙ places.numbers;
              images = λ client. kept.images client ∙ places.images client;
              sound = places.sound;
              accounts = places.accounts;
            };
          };
    }

-- ---- the ends of an opening

pub reading_moments : {D : Type 0} (m : DiskModel D) (old new : D) → LeavesOnly m old new (IsImageThen m old magic) → LeavesOnly m old new (IsOpening m old)
reading_moments m old new run = weaker m old new (IsImageThen m old magic) (IsOpening m old) run (λ c left. inl left)

pub reading_growth : {D : Type 0} (m : DiskModel D) (old new : D) → LeavesOnly m old new (IsLongerBy m old 29) → LeavesOnly m old new (IsLongerBy m old 12294)
reading_growth m old new run = weaker m old new (IsLongerBy m old 29) (IsLongerBy m old 12294) run (longer m old)

pub opened_short : {D : Type 0} (m : DiskModel D) (old mid now : D) (journal : Journal) (o : IsOpened m magic old mid journal) (fresh : ℕ) → fresh ≡ fresh_in o.bodies → Untouched m mid now → 256 ≤ fresh → length (m.seen now) ≤ length (m.seen old)
opened_short m old mid now journal o fresh count same many =
    subst (λ (file : List ℕ). length file ≤ length (m.seen old)) (sym (same.seen o.now.rest.tells)) (opened_length m old mid journal o (fresh_rows fresh o.bodies count many))

-- a block that is not added refuses the opening, and never as damage
pub block_refused : {D : Type 0} (m : DiskModel D) (old mid new : D) (e : ServerOpenError) → m.faults old ≤ m.faults mid → TakeRefused m mid new e → IfDamaged e (λ offset. ⊥) → ServerOpenRefused m old new e
block_refused m old mid new errors.Disk first refused no_damage = omega (arith, first, refused)
block_refused m old mid new (errors.Damaged offset) first refused no_damage = absurd no_damage
block_refused m old mid new errors.Memory first refused no_damage = tt

-- ---- after some reads

pub take_refused_after : {D : Type 0} (m : DiskModel D) (old mid new : D) (e : ServerOpenError) → Untouched m old mid → TakeRefused m mid new e → TakeRefused m old new e
take_refused_after m old mid new errors.Disk same refused = let first = same.kept.faults in omega (arith, first, refused)
take_refused_after m old mid new (errors.Damaged offset) same refused = tt
take_refused_after m old mid new errors.Memory same refused = tt

pub damage_seen : {D : Type 0} (m : DiskModel D) (old mid : D) (bodies : List (List ℕ)) (e : ServerOpenError) (read : Result Table ℕ) → m.seen mid ≡ m.seen old → IfDamaged e (IsDamageBy (m.seen mid) bodies read) → IfDamaged e (IsDamageBy (m.seen old) bodies read)
damage_seen m old mid bodies e read same bad = subst (λ file. IfDamaged e (IsDamageBy file bodies read)) same bad

-- ---- the append of the block

-- before it, a crash leaves the records that there are
pub records_stay : {D : Type 0} (m : DiskModel D) (journal : Journal) (disk : D) (form : List ℕ) (bodies more : List (List ℕ)) → OnlyNow m → IsOpenOn m form journal disk bodies → LeavesOnly m disk disk (λ c. Records form c bodies ⊎ Records form c more)
records_stay m journal disk form bodies more only_now on = started m only_now disk (λ c. Records form c bodies ⊎ Records form c more) (λ c left. inl (left_records m form journal disk bodies on c left))

pub with_block : (entries : List Entry) (fresh : ℕ) (bodies : List (List ℕ)) (block : List ℕ) → 256 ≤ fresh → block ≡ block_of (last_of block_size entries) → bodies ++ block ∷ [] ≡ with_block_of entries fresh bodies
with_block entries fresh bodies block many is =
    let yes : nat_le block_size fresh ≡ true = grind (arith, nat_tests) in
    ap (λ b. bodies ++ b ∷ []) is ∙ sym (ap (λ t. cond t (bodies ++ block_of (last_of block_size entries) ∷ []) bodies) yes)

-- damage is at the record that a reading names
pub damage_on : {D : Type 0} (m : DiskModel D) (journal : Journal) (disk : D) (bodies : List (List ℕ)) (n : ℕ) (e : ServerOpenError) (read : Result Table ℕ) → IsOpenOn m magic journal disk bodies → n < journal.count
    → OnRecords m journal disk (λ form bodies. IfDamaged e (λ offset. offset ≡ offset_in form (m.seen disk) bodies n)) → read ≡ Err n → IfDamaged e (IsDamageBy (m.seen disk) bodies read)
damage_on m journal disk bodies n e read on inside at bad = damage_by (m.seen disk) bodies read n e bad (let k = on.count in omega (arith, inside, k)) (at magic bodies on)

-- ---- no damage is reported if the records stand for a log

pub journal_honest : (e : OpenError) → IsFault e → IfDamaged (open_in_opening e) (λ offset. ⊥)
journal_honest opening.Disk fault = tt
journal_honest (opening.Damaged offset) fault = absurd fault
journal_honest opening.Memory fault = tt

pub standing_honest : (file : List ℕ) (bodies : List (List ℕ)) (log : Log) (e : ServerOpenError) → StandFor bodies log → IfDamaged e (IsDamageBy file bodies (table_in block_size bodies)) → IfDamaged e (λ offset. ⊥)
standing_honest file bodies log errors.Disk stands bad = tt
standing_honest file bodies log (errors.Damaged offset) stands bad =
    let odd : Ok (tabled (reverse bodies)) ≡ Err bad.number = sym (standing_is_read bodies log stands).0 ∙ bad.damaged in
    absurd (let no : ⊥ = cc in no)
standing_honest file bodies log errors.Memory stands bad = tt
