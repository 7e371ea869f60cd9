-- What is the same whatever bytes follow.
use Rattle.std.proofs.Common.{◌≡◌, ◌≢◌, ◌∙◌, ℕ, suc, ◌+◌, ◌-◌, ◌<◌, ◌≤◌, inl, inr, List, [], ◌∷◌, ◌++◌, true, false, Option, Some, None, Result, Ok, Err, refl, sym, ap, subst, arith, option_map, unwrap_or, take, drop, length, ◌==◌, ◌&&◌, nat_lt, codes}
use Rattle.std.proofs.lemmas.Bool.{false≢true, and_parts, cases_Bool, cases_lt, ltb-false, le-ltb, lt-ltb}
use Rattle.std.proofs.lemmas.List.{append-nil, take_all, take-append-le, drop-append-le, length-take, length-append}
use Rattle.std.proofs.Math.Seq.{take-append-add}
use Rattle.tw_http.specs.declared.message.HttpError.{HttpError}
use Rattle.tw_http.specs.declared.message.HttpError.TheVariants.{Memory, NotYet, Head, Path, Header, Length, Status, TooLong}
use Rattle.tw_http.specs.declared.message.Request.{Request}
use Rattle.tw_http.specs.declared.message.Asked.{Asked}
use Rattle.tw_http.specs.declared.message.Response.{Response}
use Rattle.tw_http.specs.Messages.{max_head, max_body}
use Rattle.tw_http.specs.Heads.{◌>>=◌, begins_with, ends_here, head_len, no_head, or_err}
use Rattle.tw_http.specs.Fields.{Fields, uuid_field}
use Rattle.tw_http.specs.Bodies.{body_of, body_len}
use Rattle.tw_http.specs.Requests.{asked_of, content_type, has_body, typed_as, request_made, request_after, IsRequestHeadAnswer, IsRequestAnswerAt, IsRequestAnswer}
use Rattle.tw_http.specs.Responses.{kind_in, response_made, response_after, IsResponseHeadAnswer, IsResponseAnswerAt, IsResponseAnswer}
use Rattle.tw_http.specs.Faults.{Unless, Decided}
use Rattle.tw_http.proofs.HeadSteps.{found_here, not_here}

-- ---- the end of the head

pub begins-append : (mark xs ys : List ℕ) → length mark ≤ length xs → begins_with mark (xs ++ ys) ≡ begins_with mark xs
begins-append [] xs ys h = refl
begins-append (c ∷ mark) [] ys h = absurd (omega (arith, h))
begins-append (c ∷ mark) (b ∷ xs) ys h = ap (λ t. b == c && t) (begins-append mark xs ys (omega (arith, h)))

pub begins-long : (mark xs : List ℕ) → begins_with mark xs ≡ true → length mark ≤ length xs
begins-long [] xs e = omega arith
begins-long (c ∷ mark) [] e = absurd (false≢true e)
begins-long (c ∷ mark) (b ∷ xs) e = let rest = begins-long mark xs (and_parts (b == c) (begins_with mark xs) e).1 in omega (arith, rest)

abbrev pub EndsAt : List ℕ → List ℕ → ℕ → Type 0
EndsAt xs ys n = (head_len (xs ++ ys) ≡ Some n) × (4 ≤ n) × (n ≤ length xs)

ends_now : (b : ℕ) (xs ys : List ℕ) (n : ℕ) → ends_here (b ∷ xs) ≡ true → head_len (b ∷ xs) ≡ Some n → EndsAt (b ∷ xs) ys n
ends_now b xs ys n t e =
    let long : 4 ≤ length (b ∷ xs) = begins-long (13 ∷ 10 ∷ 13 ∷ 10 ∷ []) (b ∷ xs) t in
    let four : Some 4 ≡ Some n = sym (found_here (b ∷ xs) (omega arith) t) ∙ e in
    let is : 4 ≡ n = ap (λ o. unwrap_or o 0) four in
    let more : ends_here (b ∷ (xs ++ ys)) ≡ true = begins-append (13 ∷ 10 ∷ 13 ∷ 10 ∷ []) (b ∷ xs) ys long ∙ t in
    (found_here (b ∷ (xs ++ ys)) (omega arith) more ∙ four, omega (arith, is), omega (arith, is, long))

ends_later : (b : ℕ) (xs ys : List ℕ) (n : ℕ) (o : Option ℕ) → ends_here (b ∷ xs) ≡ false → head_len xs ≡ o → ((k : ℕ) → head_len xs ≡ Some k → EndsAt xs ys k) → head_len (b ∷ xs) ≡ Some n → EndsAt (b ∷ xs) ys n
ends_later b xs ys n None f h rest e =
    let none : None ≡ Some n = sym (not_here b xs f ∙ ap (option_map suc) h) ∙ e in cc
ends_later b xs ys n (Some k) f h rest e =
    let at = rest k h in
    let four : 4 ≤ k = at.1 in
    let within : k ≤ length xs = at.2 in
    let same : Some (suc k) ≡ Some n = sym (not_here b xs f ∙ ap (option_map suc) h) ∙ e in
    let is : suc k ≡ n = ap (λ o. unwrap_or o 0) same in
    let more : ends_here (b ∷ (xs ++ ys)) ≡ false = begins-append (13 ∷ 10 ∷ 13 ∷ 10 ∷ []) (b ∷ xs) ys (omega (arith, four, within)) ∙ f in
    (not_here b (xs ++ ys) more ∙ ap (option_map suc) at.0 ∙ same, omega (arith, is, four), omega (arith, is, within))

pub head-append : (xs ys : List ℕ) (n : ℕ) → head_len xs ≡ Some n → EndsAt xs ys n
unfolding head_len
head-append [] ys n e = cc
head-append (b ∷ xs) ys n e =
    elim (cases_Bool (ends_here (b ∷ xs))) [
      | inl t ↦ ends_now b xs ys n t e
      | inr f ↦ ends_later b xs ys n (head_len xs) f refl (head-append xs ys) e
    ]

pub take-append : (m : ℕ) (xs ys : List ℕ) → take m (xs ++ ys) ≡ take m xs ++ take (m - length xs) ys
take-append m xs ys =
    elim (cases_lt m (length xs)) [
      | inl less ↦
          let none : m - length xs ≡ 0 = omega (arith, less) in
          take-append-le m xs ys (omega (arith, less)) ∙ sym (append-nil (take m xs)) ∙ ap (λ k. take m xs ++ take k ys) (sym none)
      | inr all ↦
          let sum : m ≡ length xs + (m - length xs) = omega (arith, all) in
          ap (λ k. take k (xs ++ ys)) sum ∙ take-append-add xs ys (m - length xs) ∙ ap (λ zs. zs ++ take (m - length xs) ys) (sym (take_all m xs all))
    ]

pub head_stays : (bytes more : List ℕ) (n : ℕ) → head_len (take max_head bytes) ≡ Some n → (head_len (take max_head (bytes ++ more)) ≡ Some n) × (n ≤ length bytes)
head_stays bytes more n e =
    let at = head-append (take max_head bytes) (take (max_head - length bytes) more) n e in
    let within : n ≤ length (take max_head bytes) = at.2 in
    (ap head_len (take-append max_head bytes more) ∙ at.0, omega (arith, within, length-take max_head bytes))

-- ---- the answer

bind-same : {A B : Type 0} (x : Result A HttpError) (f g : A → Result B HttpError) (r : Result B HttpError) → ((a : A) → r ≡ f a → r ≡ g a) → r ≡ (x >>= f) → r ≡ (x >>= g)
bind-same (Ok a) f g r h e = h a e
bind-same (Err fault) f g r h e = e

pub too_long : (n : ℕ) (rest : List ℕ) → nat_lt max_body n ≡ true → body_of n rest ≡ Err TooLong
too_long n rest t = rw t refl

pub not_yet : (n : ℕ) (rest : List ℕ) → nat_lt max_body n ≡ false → nat_lt (length rest) n ≡ true → body_of n rest ≡ Err NotYet
not_yet n rest f t = rw (f, t) refl

pub there : (n : ℕ) (rest : List ℕ) → nat_lt max_body n ≡ false → nat_lt (length rest) n ≡ false → body_of n rest ≡ Ok (take n rest)
there n rest f g = rw (f, g) refl

there-append : (n : ℕ) (rest more : List ℕ) → nat_lt max_body n ≡ false → nat_lt (length rest) n ≡ false → body_of n (rest ++ more) ≡ Ok (take n rest)
there-append n rest more f g =
    let within : n ≤ length rest = ltb-false (length rest) n g in
    there n (rest ++ more) f (le-ltb (length (rest ++ more)) n (omega (arith, within, length-append rest more))) ∙ ap Ok (take-append-le n rest more within)

body-same : {B : Type 0} (n : ℕ) (rest more : List ℕ) (k : List ℕ → Result B HttpError) (r : Result B HttpError) → r ≢ Err NotYet → r ≡ (body_of n rest >>= k) → r ≡ (body_of n (rest ++ more) >>= k)
body-same n rest more k r ready e =
    elim (cases_Bool (nat_lt max_body n)) [
      | inl t ↦ e ∙ ap (λ b. b >>= k) (too_long n rest t ∙ sym (too_long n (rest ++ more) t))
      | inr f ↦ elim (cases_Bool (nat_lt (length rest) n)) [
        | inl u ↦ absurd (ready (e ∙ ap (λ b. b >>= k) (not_yet n rest f u)))
        | inr g ↦ e ∙ ap (λ b. b >>= k) (there n rest f g ∙ sym (there-append n rest more f g))
      ]
    ]

request-same : (method target : List ℕ) (fs : Fields) (rest more : List ℕ) (r : Result Request HttpError) → r ≢ Err NotYet → r ≡ request_after method target fs rest → r ≡ request_after method target fs (rest ++ more)
unfolding request_after
request-same method target fs rest more r ready e =
    bind-same (or_err Path (asked_of method target)) _ _ r (λ asked.
    bind-same (uuid_field (codes "X-Client-Id") fs) _ _ r (λ client.
    bind-same (typed_as (content_type asked) fs) _ _ r (λ typed.
    bind-same (body_len (has_body asked) fs) _ _ r (λ n.
    body-same n rest more (λ body. Ok (request_made asked client body)) r ready)))) e

response-same : (what : Asked) (status : ℕ) (fs : Fields) (rest more : List ℕ) (r : Result Response HttpError) → r ≢ Err NotYet → r ≡ response_after what status fs rest → r ≡ response_after what status fs (rest ++ more)
unfolding response_after
response-same what status fs rest more r ready e =
    bind-same (kind_in what status fs) _ _ r (λ kind.
    bind-same (body_len true fs) _ _ r (λ n.
    body-same n rest more (λ body. Ok (response_made kind body)) r ready)) e

-- ---- decided

decide : {A : Type 0} (P Q : Result A HttpError → Type 0) (r : Result A HttpError) → Unless P r → (r ≢ Err NotYet → P r → Q r) → Decided Q r
decide P Q (Ok x) u h = h (λ e. cc) u
decide P Q (Err Memory) u h = tt
decide P Q (Err NotYet) u h = tt
decide P Q (Err Head) u h = h (λ e. cc) u
decide P Q (Err Path) u h = h (λ e. cc) u
decide P Q (Err Header) u h = h (λ e. cc) u
decide P Q (Err Length) u h = h (λ e. cc) u
decide P Q (Err (Status code)) u h = h (λ e. cc) u
decide P Q (Err TooLong) u h = h (λ e. cc) u

request_head-same : (front rest more : List ℕ) (r : Result Request HttpError) → r ≢ Err NotYet → IsRequestHeadAnswer front rest r → IsRequestHeadAnswer front (rest ++ more) r
request_head-same front rest more r ready (inl (h, reads, few, is)) = inl (h, reads, few, request-same _ _ _ rest more r ready is)
request_head-same front rest more r ready (inr x) = inr x

response_head-same : (what : Asked) (front rest more : List ℕ) (r : Result Response HttpError) → r ≢ Err NotYet → IsResponseHeadAnswer what front rest r → IsResponseHeadAnswer what front (rest ++ more) r
response_head-same what front rest more r ready (inl (h, reads, few, is)) = inl (h, reads, few, response-same what _ _ rest more r ready is)
response_head-same what front rest more r ready (inr x) = inr x

pub request_decided : (bytes more : List ℕ) (n : ℕ) (r : Result Request HttpError) → head_len (take max_head bytes) ≡ Some n → Unless (IsRequestHeadAnswer (take n bytes) (drop n bytes)) r → Decided (IsRequestAnswer (bytes ++ more)) r
request_decided bytes more n r e u =
    let stays = head_stays bytes more n e in
    let front = take-append-le n bytes more stays.1 in
    let rest = drop-append-le n bytes more stays.1 in
    decide (IsRequestHeadAnswer (take n bytes) (drop n bytes)) (IsRequestAnswer (bytes ++ more)) r u (λ ready x.
    subst (λ o. IsRequestAnswerAt o (bytes ++ more) r) (sym stays.0)
    (subst (λ f. IsRequestHeadAnswer f (drop n (bytes ++ more)) r) (sym front)
    (subst (λ q. IsRequestHeadAnswer (take n bytes) q r) (sym rest)
    (request_head-same (take n bytes) (drop n bytes) more r ready x))))

pub response_decided : (what : Asked) (bytes more : List ℕ) (n : ℕ) (r : Result Response HttpError) → head_len (take max_head bytes) ≡ Some n → Unless (IsResponseHeadAnswer what (take n bytes) (drop n bytes)) r → Decided (IsResponseAnswer what (bytes ++ more)) r
response_decided what bytes more n r e u =
    let stays = head_stays bytes more n e in
    let front = take-append-le n bytes more stays.1 in
    let rest = drop-append-le n bytes more stays.1 in
    decide (IsResponseHeadAnswer what (take n bytes) (drop n bytes)) (IsResponseAnswer what (bytes ++ more)) r u (λ ready x.
    subst (λ o. IsResponseAnswerAt what o (bytes ++ more) r) (sym stays.0)
    (subst (λ f. IsResponseHeadAnswer what f (drop n (bytes ++ more)) r) (sym front)
    (subst (λ q. IsResponseHeadAnswer what (take n bytes) q r) (sym rest)
    (response_head-same what (take n bytes) (drop n bytes) more r ready x))))

-- no head
early : (bytes : List ℕ) → length bytes < max_head → no_head bytes ≡ NotYet
early bytes less = rw (lt-ltb (length bytes) max_head less) refl

late : (bytes : List ℕ) → max_head ≤ length bytes → no_head bytes ≡ TooLong
late bytes past = rw (le-ltb (length bytes) max_head past) refl

late_stays : (bytes more : List ℕ) → max_head ≤ length bytes → head_len (take max_head bytes) ≡ None → head_len (take max_head (bytes ++ more)) ≡ None
late_stays bytes more past e = ap head_len (take-append-le max_head bytes more past) ∙ e

pub no_request_decided : (bytes more : List ℕ) → head_len (take max_head bytes) ≡ None → Decided (IsRequestAnswer (bytes ++ more)) (Err (no_head bytes))
no_request_decided bytes more e =
    elim (cases_lt (length bytes) max_head) [
      | inl less ↦ subst (λ h. Decided (IsRequestAnswer (bytes ++ more)) (Err h)) (sym (early bytes less)) tt
      | inr past ↦ subst (λ h. Decided (IsRequestAnswer (bytes ++ more)) (Err h)) (sym (late bytes past))
          (subst (λ o. IsRequestAnswerAt o (bytes ++ more) (Err TooLong)) (sym (late_stays bytes more past e)) (ap Err (sym (late (bytes ++ more) (omega (arith, past, length-append bytes more))))))
    ]

pub no_response_decided : (what : Asked) (bytes more : List ℕ) → head_len (take max_head bytes) ≡ None → Decided (IsResponseAnswer what (bytes ++ more)) (Err (no_head bytes))
no_response_decided what bytes more e =
    elim (cases_lt (length bytes) max_head) [
      | inl less ↦ subst (λ h. Decided (IsResponseAnswer what (bytes ++ more)) (Err h)) (sym (early bytes less)) tt
      | inr past ↦ subst (λ h. Decided (IsResponseAnswer what (bytes ++ more)) (Err h)) (sym (late bytes past))
          (subst (λ o. IsResponseAnswerAt what o (bytes ++ more) (Err TooLong)) (sym (late_stays bytes more past e)) (ap Err (sym (late (bytes ++ more) (omega (arith, past, length-append bytes more))))))
    ]
