-- Where a response ends.
use Rattle.std.proofs.Common.{◌≡◌, ◌≢◌, ◌↔◌, ◌∙◌, ℕ, zero, suc, ◌+◌, ◌-◌, ◌<◌, ◌≤◌, inl, inr, List, [], ◌∷◌, ◌++◌, true, false, Option, Some, None, IfSome, Result, Ok, Err, refl, sym, ap, subst, arith, option_map, unwrap_or, take, drop, map, length, nat_lt}
use Rattle.std.proofs.lemmas.Bool.{cases_Bool, cases_lt, le-ltb, lt-ltb}
use Rattle.std.proofs.lemmas.List.{take_all, length-take-le, take-append-drop, take-take, drop-take, take-append-le, length-take, length-drop, length-append}
use Rattle.httparse.specs.Grammar.{ResponseHead, ReadsResponse, status_code}
use Rattle.httparse.specs.Spans.{name_and_value}
use Rattle.httparse.proofs.GrammarLemmas.{response_unique}
use Rattle.tw_http.specs.declared.message.HttpError.{HttpError}
use Rattle.tw_http.specs.declared.message.HttpError.TheVariants.{NotYet}
use Rattle.tw_http.specs.declared.message.Asked.{Asked}
use Rattle.tw_http.specs.declared.message.Response.{Response}
use Rattle.tw_http.specs.declared.response_reader.Kind.{Kind}
use Rattle.tw_http.specs.Messages.{max_head, max_body}
use Rattle.tw_http.specs.Heads.{◌>>=◌, begins_with, ends_here, head_len}
use Rattle.tw_http.specs.Fields.{Fields}
use Rattle.tw_http.specs.Bodies.{body_of, body_len}
use Rattle.tw_http.specs.Responses.{kind_in, response_made, response_after, IsResponseHeadAnswer, IsResponseAnswerAt, IsResponseAnswer}
use Rattle.tw_http.specs.Lengths.{read_of_body, with_body, IsLenByHead, IsResponseLenAt, IsResponseLen, ResponseEndsAt}
use Rattle.tw_http.specs.Laws.{ResponseHasOneLength}
use Rattle.tw_http.proofs.HeadSteps.{found_here, not_here}
use Rattle.tw_http.proofs.Deciding.{begins-append, begins-long, head-append, head_stays, too_long, not_yet, there}

-- ---- the end of the head

begins-take : (mark xs : List ℕ) (j : ℕ) → length mark ≤ j → length mark ≤ length xs → begins_with mark (take j xs) ≡ begins_with mark xs
begins-take mark xs j few within =
    let long : length mark ≤ length (take j xs) = omega (arith, few, within, length-take j xs) in
    sym (begins-append mark (take j xs) (drop j xs) long) ∙ ap (begins_with mark) (take-append-drop j xs)

head_later : (b : ℕ) (xs : List ℕ) (n j : ℕ) (o : Option ℕ) → ends_here (b ∷ xs) ≡ false → head_len xs ≡ o
    → ((k : ℕ) → head_len xs ≡ Some k → k ≤ j → head_len (take j xs) ≡ Some k) → head_len (b ∷ xs) ≡ Some n → n ≤ suc j → head_len (b ∷ take j xs) ≡ Some n
head_later b xs n j None f h rest e within = let none : None ≡ Some n = sym (not_here b xs f ∙ ap (option_map suc) h) ∙ e in cc
head_later b xs n j (Some k) f h rest e within =
    let at = head-append xs [] k h in
    let four : 4 ≤ k = at.1 in
    let long : k ≤ length xs = at.2 in
    let same : Some (suc k) ≡ Some n = sym (not_here b xs f ∙ ap (option_map suc) h) ∙ e in
    let is : suc k ≡ n = ap (λ o. unwrap_or o 0) same in
    let more : ends_here (b ∷ take j xs) ≡ false = begins-take (13 ∷ 10 ∷ 13 ∷ 10 ∷ []) (b ∷ xs) (suc j) (omega (arith, four, is, within)) (omega (arith, four, long)) ∙ f in
    not_here b (take j xs) more ∙ ap (option_map suc) (rest k h (omega (arith, is, within))) ∙ same

head_now : (b : ℕ) (xs : List ℕ) (n j : ℕ) → ends_here (b ∷ xs) ≡ true → head_len (b ∷ xs) ≡ Some n → n ≤ suc j → head_len (b ∷ take j xs) ≡ Some n
head_now b xs n j t e within =
    let long : 4 ≤ length (b ∷ xs) = begins-long (13 ∷ 10 ∷ 13 ∷ 10 ∷ []) (b ∷ xs) t in
    let four : Some 4 ≡ Some n = sym (found_here (b ∷ xs) (omega arith) t) ∙ e in
    let is : 4 ≡ n = ap (λ o. unwrap_or o 0) four in
    let still : ends_here (b ∷ take j xs) ≡ true = begins-take (13 ∷ 10 ∷ 13 ∷ 10 ∷ []) (b ∷ xs) (suc j) (omega (arith, is, within)) long ∙ t in
    found_here (b ∷ take j xs) (omega arith) still ∙ four

-- the head ends at the same place if what follows it is cut off
head-take : (xs : List ℕ) (n j : ℕ) → head_len xs ≡ Some n → n ≤ j → head_len (take j xs) ≡ Some n
unfolding head_len
head-take [] n j e within = cc
head-take (b ∷ xs) n zero e within = let four = head-append (b ∷ xs) [] n e in let some = four.1 in absurd (omega (arith, some, within))
head-take (b ∷ xs) n (suc j) e within =
    elim (cases_Bool (ends_here (b ∷ xs))) [
      | inl t ↦ head_now b xs n j t e within
      | inr f ↦ head_later b xs n j (head_len xs) f refl (λ k. head-take xs k j) e within
    ]

-- ---- the body

body-front : (n : ℕ) (rest : List ℕ) → read_of_body n ≤ length rest → body_of n (take (read_of_body n) rest) ≡ body_of n rest
body-front n rest within =
    elim (cases_Bool (nat_lt max_body n)) [
      | inl t ↦ too_long n (take (read_of_body n) rest) t ∙ sym (too_long n rest t)
      | inr f ↦
          let same : read_of_body n ≡ n = rw f refl in
          let long : n ≤ length rest = omega (arith, same, within) in
          let front : n ≤ length (take n rest) = omega (arith, long, length-take n rest) in
          ap (λ k. body_of n (take k rest)) same
          ∙ there n (take n rest) f (le-ltb (length (take n rest)) n front)
          ∙ ap Ok (take-take n n rest (omega arith))
          ∙ sym (there n rest f (le-ltb (length rest) n long))
    ]

body-cut : (n : ℕ) (rest : List ℕ) → length rest < read_of_body n → body_of n rest ≡ Err NotYet
body-cut n rest less =
    elim (cases_Bool (nat_lt max_body n)) [
      | inl t ↦ let none : read_of_body n ≡ 0 = rw t refl in absurd (omega (arith, none, less))
      | inr f ↦
          let same : read_of_body n ≡ n = rw f refl in
          not_yet n rest f (lt-ltb (length rest) n (omega (arith, same, less)))
    ]

-- ---- the answer

after-front : (what : Asked) (status : ℕ) (fs : Fields) (rest : List ℕ) (n : ℕ) → body_len true fs ≡ Ok n → read_of_body n ≤ length rest
    → response_after what status fs (take (read_of_body n) rest) ≡ response_after what status fs rest
unfolding response_after
after-front what status fs rest n given within = rw given (ap (λ b. kind_in what status fs >>= λ kind. b >>= λ body. Ok (response_made kind body)) (body-front n rest within))

no_kind : (k : Result Kind HttpError) (b : Result (List ℕ) HttpError) (response : Response) → b ≡ Err NotYet → Ok response ≢ (k >>= λ kind. b >>= λ body. Ok (response_made kind body))
no_kind (Err e) b response cut is = cc
no_kind (Ok kind) b response cut is = let none : Ok response ≡ Err NotYet = is ∙ ap (λ x. x >>= λ body. Ok (response_made kind body)) cut in cc

after-cut : (what : Asked) (status : ℕ) (fs : Fields) (rest : List ℕ) (n : ℕ) (response : Response) → body_len true fs ≡ Ok n → length rest < read_of_body n
    → Ok response ≢ response_after what status fs rest
unfolding response_after
after-cut what status fs rest n response given less is =
    no_kind (kind_in what status fs) (body_of n rest) response (body-cut n rest less)
    (is ∙ ap (λ x. kind_in what status fs >>= λ kind. x >>= λ n. body_of n rest >>= λ body. Ok (response_made kind body)) given)

-- what the head that was read says of the length
abbrev GivesLen : List ℕ → ℕ → Type 0
GivesLen front n = (h : ResponseHead) → ReadsResponse front h [] → body_len true (map name_and_value h.fields) ≡ Ok n

front-on : (what : Asked) (front rest : List ℕ) (n : ℕ) (r : Result Response HttpError) → GivesLen front n → read_of_body n ≤ length rest
    → IsResponseHeadAnswer what front rest r → IsResponseHeadAnswer what front (take (read_of_body n) rest) r
front-on what front rest n r gives within (inl (h, reads, few, is)) =
    inl (h, reads, few, is ∙ sym (after-front what (status_code h) (map name_and_value h.fields) rest n (gives h reads) within))
front-on what front rest n r gives within (inr none) = inr none

front-back : (what : Asked) (front rest : List ℕ) (n : ℕ) (r : Result Response HttpError) → GivesLen front n → read_of_body n ≤ length rest
    → IsResponseHeadAnswer what front (take (read_of_body n) rest) r → IsResponseHeadAnswer what front rest r
front-back what front rest n r gives within (inl (h, reads, few, is)) =
    inl (h, reads, few, is ∙ after-front what (status_code h) (map name_and_value h.fields) rest n (gives h reads) within)
front-back what front rest n r gives within (inr none) = inr none

head-cut : (what : Asked) (front rest : List ℕ) (n : ℕ) (response : Response) → GivesLen front n → length rest < read_of_body n
    → ¬ IsResponseHeadAnswer what front rest (Ok response)
head-cut what front rest n response gives less (inl (h, reads, few, is)) = after-cut what (status_code h) (map name_and_value h.fields) rest n response (gives h reads) less is
head-cut what front rest n response gives less (inr (many, is)) = cc

-- ---- the end

at-head : (what : Asked) (xs : List ℕ) (k : ℕ) (r : Result Response HttpError) → head_len (take max_head xs) ≡ Some k → IsResponseAnswer what xs r ↔ IsResponseHeadAnswer what (take k xs) (drop k xs) r
at-head what xs k r e = (λ x. subst (λ o. IsResponseAnswerAt what o xs r) e x, λ x. subst (λ o. IsResponseAnswerAt what o xs r) (sym e) x)

moved : (what : Asked) (front front2 rest rest2 : List ℕ) (r : Result Response HttpError) → front ≡ front2 → rest ≡ rest2 → IsResponseHeadAnswer what front rest r → IsResponseHeadAnswer what front2 rest2 r
moved what front front2 rest rest2 r f g x = subst (λ q. IsResponseHeadAnswer what front2 q r) g (subst (λ p. IsResponseHeadAnswer what p rest r) f x)

take_swap : (m n : ℕ) (xs : List ℕ) → take m (take n xs) ≡ take n (take m xs)
take_swap m n xs =
    elim (cases_lt m n) [
      | inl less ↦
          let short : length (take m xs) ≤ n = omega (arith, less, length-take m xs) in
          take-take m n xs (omega (arith, less)) ∙ sym (take_all n (take m xs) short)
      | inr past ↦
          let short : length (take n xs) ≤ m = omega (arith, past, length-take n xs) in
          take_all m (take n xs) short ∙ sym (take-take n m xs past)
    ]

abbrev HasHead : List ℕ → ℕ → Type 0
HasHead xs k = head_len (take max_head xs) ≡ Some k

ends_at : (xs : List ℕ) (k m : ℕ) → IsResponseLen xs (Some (k + read_of_body m)) → HasHead xs k → k ≤ length xs → GivesLen (take k xs) m → ResponseEndsAt xs (k + read_of_body m)
ends_at xs k m len e within gives =
    let b = read_of_body m in
    let n = k + b in
    let rest : length (drop k xs) ≡ length xs - k = length-drop k xs in
    record {
      len = len;
      whole = λ long what r.
          let all = at-head what xs k r e in
          let few = at-head what (take n xs) k r (ap head_len (take_swap max_head n xs) ∙ head-take (take max_head xs) k n e (omega arith)) in
          let on = front-on what (take k xs) (drop k xs) m r gives (omega (arith, long, rest)) in
          let back = front-back what (take k xs) (drop k xs) m r gives (omega (arith, long, rest)) in
          let front : take k (take n xs) ≡ take k xs = take-take k n xs (omega arith) in
          let body : drop k (take n xs) ≡ take b (drop k xs) = drop-take k b xs in (
            λ x. few.1 (moved what (take k xs) (take k (take n xs)) (take b (drop k xs)) (drop k (take n xs)) r (sym front) (sym body) (on (all.0 x))),
            λ x. all.1 (back (moved what (take k (take n xs)) (take k xs) (drop k (take n xs)) (take b (drop k xs)) r front body (few.0 x))),
          );
      cut = λ less what response x. head-cut what (take k xs) (drop k xs) m response gives (omega (arith, less, within, rest)) ((at-head what xs k (Ok response) e).0 x);
    }

len_given : (head : ℕ) (o : Result ℕ HttpError) (n : ℕ) → Some n ≡ with_body head o → (m : ℕ) × (o ≡ Ok m) × (n ≡ head + read_of_body m)
len_given head (Ok m) n is = (m, refl, ap (λ o. unwrap_or o 0) is)
len_given head (Err e) n is = cc

ends_by_head : (bytes more : List ℕ) (k n : ℕ) → HasHead bytes k → IsLenByHead (take k bytes) (Some n) → ResponseEndsAt (bytes ++ more) n
ends_by_head bytes more k n e (inr (many, is)) = cc
ends_by_head bytes more k n e (inl (h, reads, few, is)) =
    let stays = head_stays bytes more k e in
    let within : k ≤ length bytes = stays.1 in
    let front : take k (bytes ++ more) ≡ take k bytes = take-append-le k bytes more within in
    let size : length (take k bytes) ≡ k = length-take-le k bytes within in
    let given = len_given (length (take k bytes)) (body_len true (map name_and_value h.fields)) n is in
    let m = given.0 in
    let gives : GivesLen (take k (bytes ++ more)) m = λ h2 reads2.
    ap (λ x. body_len true (map name_and_value x.fields)) (response_unique (take k bytes) h2 h [] [] (subst (λ f. ReadsResponse f h2 []) front reads2) reads).0 ∙ given.1 in
    let same : n ≡ k + read_of_body m = given.2 ∙ ap (λ a. a + read_of_body m) size in
    let len : IsResponseLen (bytes ++ more) (Some n) =
    subst (λ o. IsResponseLenAt o (bytes ++ more) (Some n)) (sym stays.0) (subst (λ f. IsLenByHead f (Some n)) (sym front) (inl (h, reads, few, is))) in
    let len2 : IsResponseLen (bytes ++ more) (Some (k + read_of_body m)) = subst (λ a. IsResponseLen (bytes ++ more) (Some a)) same len in
    subst (ResponseEndsAt (bytes ++ more)) (sym same) (ends_at (bytes ++ more) k m len2 stays.0 (omega (arith, within, length-append bytes more)) gives)

pub response_ends : (bytes : List ℕ) (k : ℕ) (r : Option ℕ) → head_len (take max_head bytes) ≡ Some k → IsLenByHead (take k bytes) r → IfSome r (λ n. (more : List ℕ) → ResponseEndsAt (bytes ++ more) n)
response_ends bytes k None e by = tt
response_ends bytes k (Some n) e by = λ more. ends_by_head bytes more k n e by

-- ---- one length

one_by_head : (front : List ℕ) (n m : Option ℕ) → IsLenByHead front n → IsLenByHead front m → n ≡ m
one_by_head front n m (inl (h, reads, few, is)) (inl (k, reads2, few2, is2)) =
    is ∙ ap (λ x. with_body (length front) (body_len true (map name_and_value x.fields))) (response_unique front h k [] [] reads reads2).0 ∙ sym is2
one_by_head front n m (inl (h, reads, few, is)) (inr (many, is2)) = let more = many h reads in absurd (omega (arith, few, more))
one_by_head front n m (inr (many, is)) (inl (h, reads, few, is2)) = let more = many h reads in absurd (omega (arith, few, more))
one_by_head front n m (inr (many, is)) (inr (many2, is2)) = is ∙ sym is2

one_at : (o : Option ℕ) (bytes : List ℕ) (n m : Option ℕ) → IsResponseLenAt o bytes n → IsResponseLenAt o bytes m → n ≡ m
one_at None bytes n m x y = x ∙ sym y
one_at (Some k) bytes n m x y = one_by_head (take k bytes) n m x y

pub one_length : ResponseHasOneLength
one_length bytes n m x y = one_at (head_len (take max_head bytes)) bytes n m x y
