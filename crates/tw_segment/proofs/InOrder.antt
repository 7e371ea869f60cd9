-- Tokens that come in order are those of a segment.
use Rattle.std.proofs.Common.{◌≡◌, ℕ, ◌<◌, List, [], ◌∷◌, ◌++◌, codes, Option, Some, None, Result, Ok, Err, refl, sym, ap, ◌∙◌, arith, subst, length, length-append, append_assoc, append-nil}
use Rattle.std.specs.Str.{IsUtf8}
use Rattle.std.specs.Result.{IfOk}
use Rattle.std.specs.Option.{IfSome}
use Rattle.json.specs.Token.{Token, begin_object, end_object, begin_array, end_array, key, string}
use Rattle.json.specs.Lex.{tokens}
use Rattle.json.specs.Json as json
use Rattle.json.specs.Json.{after_end_array}
use Rattle.json.specs.Tree.{json_tokens, items_tokens, members_tokens}
use Rattle.serde_json.specs.Data as value
use Rattle.tw_world.specs.declared.Moment.{Moment}
use Rattle.tw_model.specs.declared.SyncOp.{SyncOp}
use Rattle.tw_model.specs.declared.SyncOp.TheVariants.{Create, Delete, Update}
use Rattle.tw_segment.specs.Segment.{one, value_data, IsSegment}
use Rattle.tw_segment.specs.Tokens.{data_tokens, UuidAt, MomentAt, NamedAt, OpAt, OpsAt}
use Rattle.tw_segment.proofs.OpsBack.{create_of, delete_of, update_members, update_of, tokens_read}

-- ---- an operation

module _ (all rest : List Token) (u : List ℕ) (at : UuidAt all u (end_object ∷ rest)) where
  pub create_at : NamedAt (codes "Create") all (Create u) rest
  create_at = (json.member (codes "uuid") (json.string at.0) json.no_members, one (codes "uuid") (value.string at.0), at.1, refl, create_of at.0 u at.2, omega arith)

  pub delete_at : NamedAt (codes "Delete") all (Delete u) rest
  delete_at = (json.member (codes "uuid") (json.string at.0) json.no_members, one (codes "uuid") (value.string at.0), at.1, refl, delete_of at.0 u at.2, omega arith)

abbrev property_is : List ℕ → List Token → List Token
property_is p ts = key (codes "property") ∷ string p ∷ ts

abbrev timestamp_is : List ℕ → List Token → List Token
timestamp_is s ts = key (codes "timestamp") ∷ string s ∷ ts

abbrev uuid_is : List ℕ → List Token → List Token
uuid_is t ts = key (codes "uuid") ∷ string t ∷ ts

abbrev value_is : Token → List Token → List Token
value_is v ts = key (codes "value") ∷ v ∷ ts

-- the members of an update in byte order, and as they are declared
abbrev in_byte_order : List ℕ → List ℕ → List ℕ → json.Json → json.Members
in_byte_order p s t v =
    json.member (codes "property") (json.string p) (json.member (codes "timestamp") (json.string s) (json.member (codes "uuid") (json.string t) (json.member (codes "value") v json.no_members)))

abbrev as_declared : List ℕ → List ℕ → List ℕ → json.Json → json.Members
as_declared p s t v =
    json.member (codes "uuid") (json.string t) (json.member (codes "property") (json.string p) (json.member (codes "value") v (json.member (codes "timestamp") (json.string s) json.no_members)))

module _ (all mid next more rest : List Token) (p : List ℕ) (at : Moment) (u : List ℕ) where
  pub update_at : all ≡ property_is p mid → MomentAt mid at next → UuidAt next u more → (v : Option (List ℕ)) → more ≡ key (codes "value") ∷ data_tokens (value_data v) ++ end_object ∷ rest → NamedAt (codes "Update") all (Update u p v at) rest
  update_at begun stamped named None e = (
    in_byte_order p stamped.0 named.0 json.null,
    update_members p stamped.0 named.0 value.null,
    begun ∙ ap (property_is p) (stamped.1 ∙ ap (timestamp_is stamped.0) (named.1 ∙ ap (uuid_is named.0) e)),
    refl,
    update_of p stamped.0 named.0 u None at named.2 stamped.2,
    omega arith,
  )
  update_at begun stamped named (Some v) e = (
    in_byte_order p stamped.0 named.0 (json.string v),
    update_members p stamped.0 named.0 (value.string v),
    begun ∙ ap (property_is p) (stamped.1 ∙ ap (timestamp_is stamped.0) (named.1 ∙ ap (uuid_is named.0) e)),
    refl,
    update_of p stamped.0 named.0 u (Some v) at named.2 stamped.2,
    omega arith,
  )

  pub declared_at : UuidAt all u mid → mid ≡ property_is p next → (v : Option (List ℕ)) → next ≡ key (codes "value") ∷ data_tokens (value_data v) ++ more → MomentAt more at (end_object ∷ rest) → NamedAt (codes "Update") all (Update u p v at) rest
  declared_at named begun None e stamped = (
    as_declared p stamped.0 named.0 json.null,
    update_members p stamped.0 named.0 value.null,
    named.1 ∙ ap (uuid_is named.0) (begun ∙ ap (property_is p) (e ∙ ap (value_is Token.null) stamped.1)),
    refl,
    update_of p stamped.0 named.0 u None at named.2 stamped.2,
    omega arith,
  )
  declared_at named begun (Some v) e stamped = (
    as_declared p stamped.0 named.0 (json.string v),
    update_members p stamped.0 named.0 (value.string v),
    named.1 ∙ ap (uuid_is named.0) (begun ∙ ap (property_is p) (e ∙ ap (value_is (string v)) stamped.1)),
    refl,
    update_of p stamped.0 named.0 u (Some v) at named.2 stamped.2,
    omega arith,
  )

pub op_at : (all mid back rest : List Token) (name : List ℕ) (op : SyncOp) → all ≡ begin_object ∷ key name ∷ begin_object ∷ mid → NamedAt name mid op back → back ≡ end_object ∷ rest → OpAt all op rest
op_at all mid back rest name op begun n ended = (
  json.object (json.member name (json.object n.0) json.no_members),
  one name n.1,
  begun ∙ ap (λ ts. begin_object ∷ key name ∷ begin_object ∷ ts) (n.2 ∙ ap (λ ts. members_tokens n.0 ++ ts) ended ∙ sym (append_assoc (members_tokens n.0) (end_object ∷ []) rest)),
  rw n.3 refl,
  n.4,
  omega (arith, n.5),
)

-- ---- the operations

abbrev after_bracket : Option (List Token) → List Token
after_bracket None = []
after_bracket (Some r) = end_array ∷ r

bracket_is : (ts r : List Token) → after_end_array ts ≡ Some r → ts ≡ end_array ∷ r
bracket_is [] r e = absurd (cc)
bracket_is (Token.begin_object ∷ ts) r e = absurd (cc)
bracket_is (Token.end_object ∷ ts) r e = absurd (cc)
bracket_is (Token.begin_array ∷ ts) r e = absurd (cc)
bracket_is (Token.end_array ∷ ts) r e = ap after_bracket e
bracket_is (Token.key s ∷ ts) r e = absurd (cc)
bracket_is (Token.string s ∷ ts) r e = absurd (cc)
bracket_is (Token.number s ∷ ts) r e = absurd (cc)
bracket_is (Token.boolean b ∷ ts) r e = absurd (cc)
bracket_is (Token.null ∷ ts) r e = absurd (cc)
bracket_is (Token.bad ∷ ts) r e = absurd (cc)

some_tokens : (j : json.Json) → 0 < length (json_tokens j)
some_tokens json.null = omega arith
some_tokens (json.boolean b) = omega arith
some_tokens (json.number s) = omega arith
some_tokens (json.string s) = omega arith
some_tokens (json.array js) = omega arith
some_tokens (json.object ms) = omega arith

-- an operation takes a token
pub fewer : (all rest : List Token) (op : SyncOp) → OpAt all op rest → length rest < length all
fewer all rest op at = omega (arith, ap length at.2, length-append (json_tokens at.0) rest, some_tokens at.0)

-- whatever operations come now, they come after those that are read
abbrev pub Continues : List Token → List SyncOp → List Token → Type 0
Continues first done now = (more : List SyncOp) (rest : List Token) → OpsAt now more rest → OpsAt first (done ++ more) rest

one_before : (all mid rest : List Token) (op : SyncOp) (ops : List SyncOp) → OpAt all op mid → OpsAt mid ops rest → OpsAt all (op ∷ ops) rest
one_before all mid rest op ops a b = (
  json.item a.0 b.0,
  value.item a.1 b.1,
  a.2 ∙ ap (λ ts. json_tokens a.0 ++ ts) b.2 ∙ sym (append_assoc (json_tokens a.0) (items_tokens b.0) rest),
  rw (a.3, b.3) refl,
  rw (a.4, b.4) refl,
  omega (arith, a.5, b.5),
)

pub one_more : (first now next : List Token) (done longer : List SyncOp) (op : SyncOp) → Continues first done now → OpAt now op next → longer ≡ done ++ op ∷ [] → Continues first longer next
one_more first now next done longer op h at new more rest ops =
    subst (λ xs. OpsAt first xs rest) (sym (ap (λ xs. xs ++ more) new ∙ append_assoc done (op ∷ []) more)) (h (op ∷ more) rest (one_before now next rest op more at ops))

pub all_read : (first now rest : List Token) (done : List SyncOp) → Continues first done now → after_end_array now ≡ Some rest → OpsAt first done rest
all_read first now rest done h e =
    subst (λ xs. OpsAt first xs rest) (append-nil done) (h [] rest (json.no_items, value.no_items, bracket_is now rest e, refl, refl, omega arith))

-- ---- the whole

pub segment_at : (text : List ℕ) (all mid : List Token) (ops : List SyncOp) → tokens text ≡ begin_object ∷ key (codes "operations") ∷ begin_array ∷ all → OpsAt all ops mid → mid ≡ end_object ∷ [] → IsUtf8 text → IsSegment text ops
segment_at text all mid ops begun o ended utf8 =
    let j = json.object (json.member (codes "operations") (json.array o.0) json.no_members) in
    let d = one (codes "operations") (value.array o.1) in
    let same : tokens text ≡ json_tokens j = begun ∙ ap (λ ts. begin_object ∷ key (codes "operations") ∷ begin_array ∷ ts) (o.2 ∙ ap (λ ts. items_tokens o.0 ++ ts) ended) in
    (d, (utf8, tokens_read j d text same (rw o.3 refl) (omega (arith, o.5))), o.4)

-- the bytes of a text that is UTF-8
pub with_utf8 : {V E : Type 0} (items : V → List SyncOp) (r : Result (Option V) E) (text bytes : List ℕ) → text ≡ bytes → IsUtf8 bytes
    → IfOk r (λ o. IfSome o (λ v. IsUtf8 text → IsSegment text (items v))) → IfOk r (λ o. IfSome o (λ v. IsSegment bytes (items v)))
with_utf8 items (Ok None) text bytes e utf8 h = h
with_utf8 items (Ok (Some v)) text bytes e utf8 h = subst (λ t. IsSegment t (items v)) e (h (subst IsUtf8 (sym e) utf8))
with_utf8 items (Err x) text bytes e utf8 h = h
