-- What a reply may be read as: a response to what was asked, and never a bad path.
use Rattle.std.proofs.Common.{ℕ, inl, inr, Bool, true, false, List, Option, Some, None, Result, Ok, Err, IsTrue, refl, sym, subst, take, drop}
use Rattle.std.specs.Prelude.{if◌then◌else◌, codes, length, nat_lt, ◌==◌}
use Rattle.tw_http.specs.declared.message.Asked.{Asked}
use Rattle.tw_http.specs.declared.message.Asked.TheVariants as asked
use Rattle.tw_http.specs.declared.message.Response.{Response}
use Rattle.tw_http.specs.declared.message.HttpError.{HttpError}
use Rattle.tw_http.specs.declared.message.HttpError.TheVariants.{NotYet, Head, Path, Header, Length, Status, TooLong, Memory}
use Rattle.tw_http.specs.Messages.{max_head, max_body}
use Rattle.tw_http.specs.Heads.{◌>>=◌, or_err, head_len}
use Rattle.tw_http.specs.Fields.{Fields, values_of, is_empty, only, uuid_field, parsed_only}
use Rattle.tw_http.specs.Bodies.{length_given, body_len, body_of}
use Rattle.tw_http.specs.Responses.{refused, added_in, conflict_in, child_in, snapshot_in, kind_in, response_made, response_after, answers, IsResponseHeadAnswer, IsResponseAnswerAt, IsResponseAnswer}

-- what is read has P, and a refusal is no bad path
abbrev pub Reads : {A : Type 0} → (A → Type 0) → Result A HttpError → Type 0
Reads P (Ok x) = P x
Reads P (Err Path) = ⊥
Reads P (Err Memory) = Unit {0}
Reads P (Err NotYet) = Unit {0}
Reads P (Err Head) = Unit {0}
Reads P (Err Header) = Unit {0}
Reads P (Err Length) = Unit {0}
Reads P (Err (Status code)) = Unit {0}
Reads P (Err TooLong) = Unit {0}

abbrev Any : {A : Type 0} → A → Type 0
Any x = Unit {0}

reads_on : {A B : Type 0} (P : A → Type 0) (Q : B → Type 0) (x : Result A HttpError) (f : A → Result B HttpError) → Reads P x → ((a : A) → P a → Reads Q (f a)) → Reads Q (x >>= f)
reads_on P Q (Ok a) f r h = h a r
reads_on P Q (Err Path) f r h = r
reads_on P Q (Err Memory) f r h = tt
reads_on P Q (Err NotYet) f r h = tt
reads_on P Q (Err Head) f r h = tt
reads_on P Q (Err Header) f r h = tt
reads_on P Q (Err Length) f r h = tt
reads_on P Q (Err (Status code)) f r h = tt
reads_on P Q (Err TooLong) f r h = tt

reads_if : {A : Type 0} (P : A → Type 0) (b : Bool) (x y : Result A HttpError) → Reads P x → Reads P y → Reads P (if b then x else y)
reads_if P true x y r s = r
reads_if P false x y r s = s

field_reads : (o : Option (List ℕ)) → Reads Any (or_err Header o)
field_reads None = tt
field_reads (Some x) = tt

length_reads : (o : Option ℕ) → Reads Any (or_err Length o)
length_reads None = tt
length_reads (Some x) = tt

-- what is made of it, with any body, answers what was asked
abbrev Makes : {K : Type 0} → (K → List ℕ → Response) → Asked → K → Type 0
Makes made what kind = (body : List ℕ) → IsTrue (answers what (made kind body))

refused_reads : (what : Asked) (status : ℕ) → Reads (Makes response_made what) (refused status)
refused_reads asked.Add status =
    reads_if (Makes response_made asked.Add) (status == 400) _ _ (λ b. refl) (reads_if (Makes response_made asked.Add) (status == 413) _ _ (λ b. refl) (reads_if (Makes response_made asked.Add) (status == 500) _ _ (λ b. refl) tt))
refused_reads asked.Child status =
    reads_if (Makes response_made asked.Child) (status == 400) _ _ (λ b. refl) (reads_if (Makes response_made asked.Child) (status == 413) _ _ (λ b. refl) (reads_if (Makes response_made asked.Child) (status == 500) _ _ (λ b. refl) tt))
refused_reads asked.AddSnapshot status =
    reads_if (Makes response_made asked.AddSnapshot) (status == 400) _ _ (λ b. refl) (reads_if (Makes response_made asked.AddSnapshot) (status == 413) _ _ (λ b. refl) (reads_if (Makes response_made asked.AddSnapshot) (status == 500) _ _ (λ b. refl) tt))
refused_reads asked.Snapshot status =
    reads_if (Makes response_made asked.Snapshot) (status == 400) _ _ (λ b. refl) (reads_if (Makes response_made asked.Snapshot) (status == 413) _ _ (λ b. refl) (reads_if (Makes response_made asked.Snapshot) (status == 500) _ _ (λ b. refl) tt))

added_reads : (fs : Fields) → Reads (Makes response_made asked.Add) (added_in fs)
added_reads fs = reads_on Any (Makes response_made asked.Add) (uuid_field (codes "X-Version-Id") fs) _ (field_reads (parsed_only (only (values_of (codes "X-Version-Id") fs)))) (λ id u body. refl)

conflict_reads : (fs : Fields) → Reads (Makes response_made asked.Add) (conflict_in fs)
conflict_reads fs = reads_on Any (Makes response_made asked.Add) (uuid_field (codes "X-Parent-Version-Id") fs) _ (field_reads (parsed_only (only (values_of (codes "X-Parent-Version-Id") fs)))) (λ id u body. refl)

child_reads : (fs : Fields) → Reads (Makes response_made asked.Child) (child_in fs)
child_reads fs =
    reads_on Any (Makes response_made asked.Child) (uuid_field (codes "X-Version-Id") fs) _ (field_reads (parsed_only (only (values_of (codes "X-Version-Id") fs)))) (λ id u.
    reads_on Any (Makes response_made asked.Child) (uuid_field (codes "X-Parent-Version-Id") fs) _ (field_reads (parsed_only (only (values_of (codes "X-Parent-Version-Id") fs)))) (λ parent v body. refl))

snapshot_reads : (fs : Fields) → Reads (Makes response_made asked.Snapshot) (snapshot_in fs)
snapshot_reads fs = reads_on Any (Makes response_made asked.Snapshot) (uuid_field (codes "X-Version-Id") fs) _ (field_reads (parsed_only (only (values_of (codes "X-Version-Id") fs)))) (λ id u body. refl)

kind_reads : (what : Asked) (status : ℕ) (fs : Fields) → Reads (Makes response_made what) (kind_in what status fs)
kind_reads asked.Add status fs =
    reads_if (Makes response_made asked.Add) (status == 200) _ _ (added_reads fs) (reads_if (Makes response_made asked.Add) (status == 409) _ _ (conflict_reads fs) (refused_reads asked.Add status))
kind_reads asked.Child status fs =
    reads_if (Makes response_made asked.Child) (status == 200) _ _ (child_reads fs) (reads_if (Makes response_made asked.Child) (status == 404) _ _ (λ b. refl) (reads_if (Makes response_made asked.Child) (status == 410) _ _ (λ b. refl) (refused_reads asked.Child status)))
kind_reads asked.AddSnapshot status fs = reads_if (Makes response_made asked.AddSnapshot) (status == 200) _ _ (λ b. refl) (refused_reads asked.AddSnapshot status)
kind_reads asked.Snapshot status fs =
    reads_if (Makes response_made asked.Snapshot) (status == 200) _ _ (snapshot_reads fs) (reads_if (Makes response_made asked.Snapshot) (status == 404) _ _ (λ b. refl) (refused_reads asked.Snapshot status))

len_reads : (fs : Fields) → Reads Any (body_len true fs)
len_reads fs = reads_if Any (is_empty (values_of (codes "Transfer-Encoding") fs)) _ _ (length_reads (length_given true (values_of (codes "Content-Length") fs))) tt

body_reads : (n : ℕ) (rest : List ℕ) → Reads Any (body_of n rest)
body_reads n rest = reads_if Any (nat_lt max_body n) _ _ tt (reads_if Any (nat_lt (length rest) n) _ _ tt tt)

abbrev Fitting : Asked → Response → Type 0
Fitting what response = IsTrue (answers what response)

abbrev pub Answers : Asked → Result Response HttpError → Type 0
Answers what r = Reads (Fitting what) r

after_reads : (what : Asked) (status : ℕ) (fs : Fields) (rest : List ℕ) → Answers what (response_after what status fs rest)
unfolding response_after
after_reads what status fs rest =
    reads_on (Makes response_made what) (Fitting what) (kind_in what status fs) _ (kind_reads what status fs) (λ kind is.
    reads_on Any (Fitting what) (body_len true fs) _ (len_reads fs) (λ n u.
    reads_on Any (Fitting what) (body_of n rest) _ (body_reads n rest) (λ body v. is body)))

early_or_late : (b : Bool) (what : Asked) → Answers what (Err (if b then NotYet else TooLong))
early_or_late true what = tt
early_or_late false what = tt

head_reads : (what : Asked) (front rest : List ℕ) (r : Result Response HttpError) → IsResponseHeadAnswer what front rest r → Answers what r
head_reads what front rest r (inl (h, reads, few, is)) = subst (Answers what) (sym is) (after_reads what _ _ rest)
head_reads what front rest r (inr (many, is)) = subst (Answers what) (sym is) tt

at_reads : (what : Asked) (o : Option ℕ) (bytes : List ℕ) (r : Result Response HttpError) → IsResponseAnswerAt what o bytes r → Answers what r
at_reads what None bytes r is = subst (Answers what) (sym is) (early_or_late (nat_lt (length bytes) max_head) what)
at_reads what (Some n) bytes r is = head_reads what (take n bytes) (drop n bytes) r is

-- what is read of a reply answers what was asked
pub reply_answers : (what : Asked) (bytes : List ℕ) (r : Result Response HttpError) → IsResponseAnswer what bytes r → Answers what r
reply_answers what bytes r is = at_reads what (head_len (take max_head bytes)) bytes r is
