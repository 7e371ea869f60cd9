-- What bytes do at a server in memory, and the replies to them.
use Rattle.std.proofs.Common.{◌≡◌, ◌∙◌, ℕ, true, false, Result, Ok, Err, OnOk, OnErr, List, refl, ap, subst}
use Rattle.std.proofs.lemmas.Bool.{true≢false}
use Rattle.tw_http.specs.declared.message.Request.{Request}
use Rattle.tw_http.specs.declared.message.Response.{Response}
use Rattle.tw_http.specs.declared.message.HttpError.{HttpError}
use Rattle.tw_http.specs.declared.message.HttpError.TheVariants.{Memory, NotYet, Head, Path, Header, Length, Status, TooLong}
use Rattle.tw_http.specs.Messages.{response_text}
use Rattle.tw_http.specs.Faults.{Unless}
use Rattle.tw_http.specs.Requests.{IsRequestAnswer}
use Rattle.tw_http.specs.Serving.{refusal_of}
use Rattle.tw_http.proofs.OneAnswer.{one_request}
use Rattle.tw_server.specs.Message.{is_no_memory}
use Rattle.tw_server.specs.Log.{response_at}
use Rattle.tw_server.specs.Server.{drawn_id}
use Rattle.tw_server.specs.Memory.Holding.{Holding, log_in, after_request, Acts, IsReply}

-- the answer that is there, if memory did not run out
pub answer_there : (P : Result Request HttpError → Type 0) (r s : Result Request HttpError) → r ≡ s → is_no_memory r ≡ false → Unless P r → P s
answer_there P r s e f u = subst P e (by r f u)
  where
    by : (r : Result Request HttpError) → is_no_memory r ≡ false → Unless P r → P r
    by (Ok x) f u = u
    by (Err Memory) f u = absurd (true≢false f)
    by (Err NotYet) f u = u
    by (Err Head) f u = u
    by (Err Path) f u = u
    by (Err Header) f u = u
    by (Err Length) f u = u
    by (Err (Status code)) f u = u
    by (Err TooLong) f u = u

ok_is : {x y : Request} → ◌≡◌ {A = Result Request HttpError} (Ok x) (Ok y) → x ≡ y
ok_is e = cc

err_is : {x y : HttpError} → ◌≡◌ {A = Result Request HttpError} (Err x) (Err y) → x ≡ y
err_is e = cc

ok_not_err : {x : Request} {e : HttpError} → Ok x ≡ Err e → ⊥
ok_not_err e = cc

pub request_acts : (old new : Holding) (request : List ℕ) (asked : Request) → IsRequestAnswer request (Ok asked) → new ≡ after_request old asked true → Acts old new request
request_acts old new request asked is acted = record {
  asked = λ other also. acted ∙ ap (λ r. after_request old r true) (ok_is (one_request request (Ok asked) (Ok other) is also));
  none = λ error also. absurd (ok_not_err (one_request request (Ok asked) (Err error) is also));
  read = (Ok asked, is);
}

pub request_response : (old : Holding) (request reply : List ℕ) (asked : Request) (response : Response) → IsRequestAnswer request (Ok asked) → response ≡ response_at (log_in old) asked (drawn_id old.start) → reply ≡ response_text response → IsReply old request reply
request_response old request reply asked response is says text = record {
  asked = λ other also. text ∙ ap response_text says ∙ ap (λ r. response_text (response_at (log_in old) r (drawn_id old.start))) (ok_is (one_request request (Ok asked) (Ok other) is also));
  none = λ error also. absurd (ok_not_err (one_request request (Ok asked) (Err error) is also));
}

pub none_acts : (old : Holding) (request : List ℕ) (error : HttpError) → IsRequestAnswer request (Err error) → Acts old old request
none_acts old request error is = record {
  asked = λ other also. absurd (ok_not_err (one_request request (Ok other) (Err error) also is));
  none = λ also_error also. refl;
  read = (Err error, is);
}

pub none_response : (old : Holding) (request reply : List ℕ) (error : HttpError) (response : Response) → IsRequestAnswer request (Err error) → response ≡ refusal_of error → reply ≡ response_text response → IsReply old request reply
none_response old request reply error response is says text = record {
  asked = λ other also. absurd (ok_not_err (one_request request (Ok other) (Err error) also is));
  none = λ other also. text ∙ ap response_text says ∙ ap (λ e. response_text (refusal_of e)) (err_is (one_request request (Err error) (Err other) is also));
}

-- what holds whatever the result
pub on_ok : {A E : Type 0} (r : Result A E) (P : Type 0) → P → OnOk r P
on_ok (Ok x) P p = p
on_ok (Err e) P p = tt

pub on_err : {A E : Type 0} (r : Result A E) (P : Type 0) → P → OnErr r P
on_err (Ok x) P p = tt
on_err (Err e) P p = p
