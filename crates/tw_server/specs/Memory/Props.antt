-- That the facts of a log have at most one proof.
use Rattle.std.specs.Prelude.{◌≡◌, ℕ, List, [], ◌∷◌, Option, Some, None}
use Rattle.std.specs.Coded.{×_prop, Unit-prop, Coded-set, coded_list, coded_ℕ, coded_bool}
use Rattle.std.proofs.Props.{props}
use Rattle.std.proofs.Common.{◌∙◌, sym, ap, subst}
use Rattle.tw_world.specs.Disk.{DiskModel}
use Rattle.tw_journal.specs.Journal.{IsOpenOn}
use Rattle.tw_journal.proofs.Unique.{one_records}
use Rattle.tw_journal.proofs.Offsets.{open_records}
use Rattle.tw_protocol.specs.Chain.{Version, IsRow, Differ}
use Rattle.tw_records.specs.Log.{Log}
use Rattle.tw_records.specs.Reading.{Reading, nothing_read, read_from, StandFor}
use Rattle.tw_server.specs.Server.{magic, HasPlaces, IsServerOn}
use Rattle.tw_server.specs.declared.server.Server.{Server}

pub Row-prop : (h : List ℕ) (vs : List Version) → IsProp (IsRow h vs)
Row-prop h [] = Unit-prop
Row-prop h (v ∷ vs) = ×_prop (Coded-set (coded_list coded_ℕ) _ _) (Row-prop v.id vs)

pub Differ-prop : (h : List ℕ) (vs : List Version) → IsProp (Differ h vs)
Differ-prop h [] = Unit-prop
Differ-prop h (v ∷ vs) = ×_prop (Coded-set coded_bool _ _) (Differ-prop v.id vs)

-- ---- records stand for a log with one count of versions after the last block

abbrev fresh_in : Option Reading → ℕ
fresh_in None = 0
fresh_in (Some r) = r.fresh

read_prop : (bodies : List (List ℕ)) (r : Reading) → IsProp (read_from nothing_read bodies ≡ Some r)
read_prop bodies r = hlevel props

pub StandFor-prop : (bodies : List (List ℕ)) (log : Log) → IsProp (StandFor bodies log)
StandFor-prop bodies log x y = by y.0 (ap fresh_in (sym x.1 ∙ y.1)) y.1
  where
    by : (k : ℕ) → x.0 ≡ k → (q : read_from nothing_read bodies ≡ Some (record { log = log; fresh = k })) → x ≡ (k, q)
    by k e = subst (λ n. (q : read_from nothing_read bodies ≡ Some (record { log = log; fresh = n })) → x ≡ (n, q)) e
        (λ q. ap (λ (r : read_from nothing_read bodies ≡ Some (record { log = log; fresh = x.0 })). (x.0, r))
        (read_prop bodies (record { log = log; fresh = x.0 }) x.1 q))

-- ---- a disk has one list of records

record IsServerAt {D : Type 0} (m : DiskModel D) (server : Server) (disk : D) (log : Log) (bodies : List (List ℕ)) : Type 0 where
  journal : IsOpenOn m magic server.journal disk bodies
  stands : StandFor bodies log
  places : HasPlaces server bodies log

at_prop : {D : Type 0} (m : DiskModel D) (server : Server) (disk : D) (log : Log) (bodies : List (List ℕ)) → IsProp (IsServerAt m server disk log bodies)
at_prop m server disk log bodies = hlevel (props, Row-prop, Differ-prop, StandFor-prop)

abbrev made : {D : Type 0} (m : DiskModel D) (server : Server) (disk : D) (log : Log) (bodies : List (List ℕ))
    → IsServerAt m server disk log bodies → IsServerOn m server disk log
made m server disk log bodies at = record { bodies = bodies; journal = at.journal; stands = at.stands; places = at.places }

pub IsServerOn-prop : {D : Type 0} (m : DiskModel D) (server : Server) (disk : D) (log : Log) → IsProp (IsServerOn m server disk log)
IsServerOn-prop m server disk log x y =
    by y.bodies
    (one_records magic (m.seen disk) x.bodies y.bodies
    (open_records m magic server.journal disk x.bodies x.journal)
    (open_records m magic server.journal disk y.bodies y.journal))
    (record { journal = y.journal; stands = y.stands; places = y.places })
  where
    by : (bs : List (List ℕ)) → x.bodies ≡ bs → (b : IsServerAt m server disk log bs) → x ≡ made m server disk log bs b
    by bs e = subst (λ k. (b : IsServerAt m server disk log k) → x ≡ made m server disk log k b) e
        (λ b. ap (made m server disk log x.bodies)
        (at_prop m server disk log x.bodies (record { journal = x.journal; stands = x.stands; places = x.places }) b))
