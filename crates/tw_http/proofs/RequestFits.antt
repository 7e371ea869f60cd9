-- A request that is read has a segment that fits a body.
use Rattle.std.proofs.Common.{◌≡◌, inl, inr, ℕ, ◌≤◌, Bool, true, false, Option, Some, None, Result, Ok, Err, List, length, take, drop, codes, refl, sym, ap, subst, arith, nat_lt, if◌then◌else◌}
use Rattle.std.proofs.lemmas.Bool.Decides.{nat_tests}
use Rattle.std.proofs.lemmas.List.{length-take}
use Rattle.tw_http.specs.declared.message.Request.{Request}
use Rattle.tw_http.specs.declared.request_reader.Target.{Target}
use Rattle.tw_http.specs.declared.request_reader.Target.TheVariants as asks
use Rattle.tw_http.specs.declared.message.HttpError.{HttpError}
use Rattle.tw_http.specs.declared.message.HttpError.TheVariants.{NotYet, Path, TooLong}
use Rattle.tw_http.specs.Messages.{max_head, max_body, request_body}
use Rattle.tw_http.specs.Heads.{◌>>=◌, head_len, or_err}
use Rattle.tw_http.specs.Fields.{Fields, uuid_field}
use Rattle.tw_http.specs.Bodies.{body_len, body_of}
use Rattle.tw_http.specs.Requests.{asked_of, content_type, has_body, typed_as, request_made, request_after, IsRequestAnswerAt, IsRequestAnswer}

bind_back : {A B : Type 0} (x : Result A HttpError) (f : A → Result B HttpError) (b : B) → Ok b ≡ (x >>= f) → (a : A) × (x ≡ Ok a) × (Ok b ≡ f a)
bind_back (Ok a) f b e = (a, refl, e)
bind_back (Err h) f b e = absurd (let no : ⊥ = cc in no)

body_by : (t u : Bool) (n : ℕ) (rest body : List ℕ) → nat_lt max_body n ≡ t → Ok body ≡ (if t then Err TooLong else if u then Err NotYet else Ok (take n rest)) → length body ≤ max_body
body_by true u n rest body e is = absurd (let no : ⊥ = cc in no)
body_by false true n rest body e is = absurd (let no : ⊥ = cc in no)
body_by false false n rest body e is =
    let same : body ≡ take n rest = cc in
    let few : n ≤ max_body = grind (arith, nat_tests) in
    let long = length-take n rest in
    let equal = ap length same in
    omega (arith, few, long, equal)

body_back : (n : ℕ) (rest body : List ℕ) → Ok body ≡ body_of n rest → length body ≤ max_body
body_back n rest body is = body_by (nat_lt max_body n) (nat_lt (length rest) n) n rest body refl is

made_fits : (what : Target) (client body : List ℕ) (asked : Request) → asked ≡ request_made what client body → length body ≤ max_body → length (request_body asked) ≤ max_body
made_fits (asks.Add parent) client body asked is fit = subst (λ (r : Request). length (request_body r) ≤ max_body) (sym is) fit
made_fits (asks.Child parent) client body asked is fit = subst (λ (r : Request). length (request_body r) ≤ max_body) (sym is) (omega arith)
made_fits (asks.Store version) client body asked is fit = subst (λ (r : Request). length (request_body r) ≤ max_body) (sym is) fit
made_fits asks.Fetch client body asked is fit = subst (λ (r : Request). length (request_body r) ≤ max_body) (sym is) (omega arith)

ok_same : {A E : Type 0} {x y : A} → ◌≡◌ {A = Result A E} (Ok x) (Ok y) → x ≡ y
ok_same e = cc

after_fits : (method target : List ℕ) (fs : Fields) (rest : List ℕ) (asked : Request) → Ok asked ≡ request_after method target fs rest → length (request_body asked) ≤ max_body
unfolding request_after
after_fits method target fs rest asked is =
    let what = bind_back (or_err Path (asked_of method target)) _ asked is in
    let client = bind_back (uuid_field (codes "X-Client-Id") fs) _ asked what.2 in
    let typed = bind_back (typed_as (content_type what.0) fs) _ asked client.2 in
    let n = bind_back (body_len (has_body what.0) fs) _ asked typed.2 in
    let body = bind_back (body_of n.0 rest) _ asked n.2 in
    made_fits what.0 client.0 body.0 asked (ok_same body.2) (body_back n.0 rest body.0 (sym body.1))

at_fits : (o : Option ℕ) (bytes : List ℕ) (asked : Request) → IsRequestAnswerAt o bytes (Ok asked) → length (request_body asked) ≤ max_body
at_fits None bytes asked is = absurd (let no : ⊥ = cc in no)
at_fits (Some n) bytes asked (inl (h, reads, few, is)) = after_fits h.method h.target _ (drop n bytes) asked is
at_fits (Some n) bytes asked (inr (many, is)) = absurd (let no : ⊥ = cc in no)

pub asked_fits : (bytes : List ℕ) (asked : Request) → IsRequestAnswer bytes (Ok asked) → length (request_body asked) ≤ max_body
asked_fits bytes asked is = at_fits (head_len (take max_head bytes)) bytes asked is
