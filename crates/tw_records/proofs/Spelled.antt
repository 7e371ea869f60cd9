-- What the fields of a body spell has the body again.
use Rattle.std.proofs.Common.{◌≡◌, ℕ, ◌+◌, ◌<◌, ◌≤◌, true, ◌==◌, nat_le, List, [], ◌∷◌, ◌++◌, length, take, drop, sym, ap, ◌∙◌, append_assoc, arith}
use Rattle.std.proofs.lemmas.Bool.{true≢false, and_parts, eqb-true}
use Rattle.std.proofs.lemmas.Bool.Decides.{nat_tests}
use Rattle.std.proofs.lemmas.List.{append-nil, drop-drop, take-append-drop, length-take, length-drop}
use Rattle.std.proofs.lemmas.List.Elements.{All-take, All-drop}
use Rattle.tw_world.specs.Bytes.{IsBytes}
use Rattle.tw_protocol.specs.Chain.{IsUuid}
use Rattle.tw_protocol.specs.Answer.{version}
use Rattle.tw_records.specs.declared.entry.Entry.{Entry}
use Rattle.tw_records.specs.declared.image.Image.{Image}
use Rattle.tw_records.specs.Log.{Accepted, ClientSnapshot, HasUuids, accepted_for}
use Rattle.tw_records.specs.Bodies.{is_kind, is_body, body_of, entry_of, accepted_in, version_front, snapshot_body, snapshot_in, snapshot_for, image_of, snapshot_front}

pub body_back : (body : List ℕ) → is_body body ≡ true → body_of (accepted_in body) ≡ body
body_back [] e = absurd (true≢false (sym e))
body_back (kind ∷ fields) e =
    let k : kind ≡ 1 = eqb-true kind 1 (and_parts (kind == 1) (nat_le 49 (length (kind ∷ fields))) e).0 in
    let whole = kind ∷ fields in
    let one : take 16 (drop 33 whole) ++ drop 49 whole ≡ drop 33 whole = ap (λ l. take 16 (drop 33 whole) ++ l) (sym (drop-drop 16 33 whole)) ∙ take-append-drop 16 (drop 33 whole) in
    let two : take 16 (drop 17 whole) ++ drop 33 whole ≡ drop 17 whole = ap (λ l. take 16 (drop 17 whole) ++ l) (sym (drop-drop 16 17 whole)) ∙ take-append-drop 16 (drop 17 whole) in
    let three : take 16 (drop 1 whole) ++ drop 17 whole ≡ drop 1 whole = ap (λ l. take 16 (drop 1 whole) ++ l) (sym (drop-drop 16 1 whole)) ∙ take-append-drop 16 (drop 1 whole) in
    ap (λ l. 1 ∷ (take 16 (drop 1 whole) ++ (take 16 (drop 17 whole) ++ l))) one
    ∙ ap (λ l. 1 ∷ (take 16 (drop 1 whole) ++ l)) two
    ∙ ap (λ l. 1 ∷ l) three
    ∙ ap (λ x. x ∷ fields) (sym k)

pub snapshot_back : (body : List ℕ) → is_kind 3 body ≡ true → 33 ≤ length body → snapshot_body (snapshot_in body) ≡ body
snapshot_back [] e le = absurd (true≢false (sym e))
snapshot_back (kind ∷ fields) e le =
    let k : kind ≡ 3 = eqb-true kind 3 e in
    let whole = kind ∷ fields in
    let two : take 16 (drop 17 whole) ++ drop 33 whole ≡ drop 17 whole = ap (λ l. take 16 (drop 17 whole) ++ l) (sym (drop-drop 16 17 whole)) ∙ take-append-drop 16 (drop 17 whole) in
    let three : take 16 (drop 1 whole) ++ drop 17 whole ≡ drop 1 whole = ap (λ l. take 16 (drop 1 whole) ++ l) (sym (drop-drop 16 1 whole)) ∙ take-append-drop 16 (drop 1 whole) in
    ap (λ l. 3 ∷ (take 16 (drop 1 whole) ++ l)) two ∙ ap (λ l. 3 ∷ l) three ∙ ap (λ x. x ∷ fields) (sym k)

-- ---- the front of a body, and what comes after it

pub version_split : (a : Accepted) → body_of a ≡ version_front (entry_of a) ++ a.version.segment
version_split a =
    ap (λ l. 1 ∷ l) (sym (append_assoc a.client (a.version.id ++ a.version.parent) a.version.segment ∙ ap (λ l. a.client ++ l) (append_assoc a.version.id a.version.parent a.version.segment)))

pub snapshot_split : (t : ClientSnapshot) → snapshot_body t ≡ snapshot_front (image_of t) ++ t.snapshot.bytes
snapshot_split t = ap (λ l. 3 ∷ l) (sym (append_assoc t.client t.snapshot.version t.snapshot.bytes))

-- a record without its segment or its bytes is its front
pub bare_front : (e : Entry) → body_of (accepted_for e.client (version e.id e.parent [])) ≡ version_front e
bare_front e = ap (λ l. 1 ∷ (e.client ++ (e.id ++ l))) (append-nil e.parent)

pub bare_image_front : (image : Image) → snapshot_body (snapshot_for image []) ≡ snapshot_front image
bare_image_front image = ap (λ l. 3 ∷ (image.client ++ l)) (append-nil image.version)

-- ---- a body of a version

pub long_body : (body : List ℕ) → is_body body ≡ true → 49 ≤ length body
long_body body e = let t = (and_parts (is_kind 1 body) (nat_le 49 (length body)) e).1 in grind (arith, nat_tests)

field_uuid : (n : ℕ) (xs : List ℕ) → n + 16 ≤ length xs → IsBytes xs → IsUuid (take 16 (drop n xs))
field_uuid n xs long small = record {
  long = let a = length-take 16 (drop n xs) in let b = length-drop n xs in omega (arith, a, b, long);
  bytes = All-take (λ b. b < 256) 16 (drop n xs) (All-drop (λ b. b < 256) n xs small);
}

pub body_uuids : (body : List ℕ) → 49 ≤ length body → IsBytes body → HasUuids (accepted_in body)
body_uuids body long small = record {
  client = (field_uuid 1 body (omega (arith, long)) small).long;
  id = field_uuid 17 body (omega (arith, long)) small;
  parent = field_uuid 33 body (omega (arith, long)) small;
}
