-- Replies that a sync goes on from, one after another.
use Rattle.std.proofs.Common.{◌≡◌, ℕ, ◌+◌, ◌≤◌, inl, inr, Bool, length, List, [], ◌∷◌, ◌++◌, Result, Ok, refl, sym, ap, subst, ◌∙◌, arith}
use Rattle.std.specs.List.{AllByRecursion}
use Rattle.std.proofs.lemmas.List.{append-nil}
use Rattle.tw_http.specs.Link.{LinkModel}
use Rattle.tw_http.specs.declared.message.Response.{Response}
use Rattle.tw_http.specs.declared.message.Response.TheVariants as replies
use Rattle.tw_http.specs.declared.message.HttpError.{HttpError}
use Rattle.tw_state.specs.State.{State}
use Rattle.tw_path.specs.Path.{Leg}
use Rattle.tw_sync.specs.Replies.Heard.{Heard, versions_of, conflicts_of, brought_bytes, pulled_bytes, conflicts}
use Rattle.tw_sync.specs.Ends.Refused.{max_pull, EndedBy, LeadsOn, EachBringsNext, IsConflict, IsLastReply, GoesOnFrom, GoesOnFromAllButLast, HeardRefused}
use Rattle.tw_sync.specs.Replies.Answers.{HeardRefusedAsk, AskRefused}
use Rattle.tw_sync.specs.Way.Progress.{HeardSoFar, ends_late, Asks, IsAsking}
use Rattle.tw_sync.specs.declared.cursor.Cursor.{Cursor}
use Rattle.tw_sync.specs.Ends.Causes.{of_ask}
use Rattle.tw_sync.specs.declared.error.AskError.{AskError}
use Rattle.tw_sync.specs.declared.error.AskError.TheVariants as asking
use Rattle.tw_sync.specs.declared.error.SyncError.{SyncError}
use Rattle.tw_sync.specs.declared.error.SyncError.TheVariants as errors
use Rattle.tw_sync.proofs.Hearing.{all-append, pulled_bytes-append, conflicts-append}
use Rattle.tw_sync.proofs.Results.{ended_by}

-- ---- no 410

pub child_leads : (r : Result Response HttpError) (id parent segment : List ℕ) → r ≡ Ok (replies.Child id parent segment) → ¬ (r ≡ Ok replies.Gone)
child_leads r id parent segment is = λ gone. cc

pub up_to_date_leads : (r : Result Response HttpError) → r ≡ Ok replies.UpToDate → ¬ (r ≡ Ok replies.Gone)
up_to_date_leads r is = λ gone. cc

pub added_leads : (r : Result Response HttpError) (id : List ℕ) (wanted : Bool) → r ≡ Ok (replies.Added id wanted) → ¬ (r ≡ Ok replies.Gone)
added_leads r id wanted is = λ gone. cc

pub conflict_leads : (r : Result Response HttpError) (last : List ℕ) → r ≡ Ok (replies.Conflict last) → ¬ (r ≡ Ok replies.Gone)
conflict_leads r last is = λ gone. cc

-- ---- what follows a 409

pub followed-append : (hs : List Heard) (h : Heard) → EachBringsNext hs → (ends_late hs ≡ 1 → versions_of h.reply ≡ 1) → EachBringsNext (hs ++ h ∷ [])
followed-append [] h f next = (tt, tt)
followed-append (x ∷ []) h f next = (next, (tt, tt))
followed-append (x ∷ y ∷ ys) h f next = (f.0, followed-append (y ∷ ys) h f.1 next)

followed_before : (xs ys : List Heard) → EachBringsNext (xs ++ ys) → EachBringsNext xs
followed_before [] ys f = tt
followed_before (x ∷ []) ys f = (tt, tt)
followed_before (x ∷ y ∷ xs) ys f = (f.0, followed_before (y ∷ xs) ys f.1)

pub ends_late-append : (hs : List Heard) (h : Heard) → ends_late (hs ++ h ∷ []) ≡ conflicts_of h.reply
ends_late-append [] h = refl
ends_late-append (x ∷ []) h = refl
ends_late-append (x ∷ y ∷ ys) h = ends_late-append (y ∷ ys) h

-- neither a 404 nor a 200 is a 409
pub not_late : (client base : List ℕ) (hs : List Heard) → EndedBy hs (IsLastReply client base) → ends_late hs ≡ 0
not_late client base hs (h, ends, inl is) = ap ends_late ends.split ∙ ends_late-append ends.earlier h ∙ ap conflicts_of is.1
not_late client base hs (h, ends, inr is) = ap ends_late ends.split ∙ ends_late-append ends.earlier h ∙ ap conflicts_of is.1

-- ---- one reply more

pub goes_on_none : GoesOnFrom []
goes_on_none = record { each = tt; followed = tt; within = omega arith; few = omega arith }

pub goes_on : (hs : List Heard) (h : Heard) → GoesOnFrom hs → LeadsOn h → (ends_late hs ≡ 1 → versions_of h.reply ≡ 1) → pulled_bytes hs + length (brought_bytes h.reply) ≤ max_pull → conflicts hs + conflicts_of h.reply ≤ 15 → GoesOnFrom (hs ++ h ∷ [])
goes_on hs h g leads next within few = record {
  each = all-append LeadsOn hs (h ∷ []) g.each (leads, tt);
  followed = followed-append hs h g.followed next;
  within = (let e = pulled_bytes-append hs (h ∷ []) in omega (arith, e, within));
  few = (let e = conflicts-append hs (h ∷ []) in omega (arith, e, few));
}

-- a reply that brings no version and is no conflict
pub goes_on_past : (hs : List Heard) (h : Heard) → GoesOnFrom hs → LeadsOn h → ends_late hs ≡ 0 → length (brought_bytes h.reply) ≡ 0 → conflicts_of h.reply ≡ 0 → GoesOnFrom (hs ++ h ∷ [])
goes_on_past hs h g leads calm bytes kind =
    goes_on hs h g leads (λ late. absurd (omega (arith, calm, late))) (let w = g.within in omega (arith, w, bytes)) (let f = g.few in omega (arith, f, kind))

pub goes_to_last : (hs : List Heard) (h : Heard) → GoesOnFrom hs → GoesOnFromAllButLast (hs ++ h ∷ [])
goes_to_last hs h g = (h, record { earlier = hs; split = refl }, g)

-- ---- what was heard so far

module _ {L : Type 0} (m : LinkModel L) (client host : List ℕ) (first now : L) (legs : List Leg) (p : Cursor) (Q : List Heard → Type 0) where
  pub goes_on_so_far : (t : HeardSoFar m client host first now legs p Q) → p.conflicts ≤ 15 → GoesOnFrom t.hs
  goes_on_so_far t tries = record {
    each = t.each;
    followed = t.followed;
    within = (let b = t.bytes_are in let w = p.within in omega (arith, b, w));
    few = (let c = t.conflicts_are in omega (arith, c, tries));
  }

  pub heard_any : HeardSoFar m client host first now legs p Q → HeardSoFar m client host first now legs p (λ hs. Unit {0})
  heard_any t = record {
    hs = t.hs;
    hears = t.hears;
    told = t.told;
    ops = t.ops;
    reads = t.reads;
    brought_is = t.brought_is;
    bytes_are = t.bytes_are;
    conflicts_are = t.conflicts_are;
    wanted_is = t.wanted_is;
    each = t.each;
    followed = t.followed;
    so = tt;
  }

pub asks : {L : Type 0} (m : LinkModel L) (client host : List ℕ) (state : State) (first now : L) (p : Cursor) (Q : List Heard → Type 0) → Asks m client host state first now p Q → IsAsking m client host state first now p
asks m client host state first now p Q s = record {
  legs = s.legs;
  on_path = s.on_path;
  tries = s.tries;
  asked = record { kept = s.asked.kept; count = s.asked.count; heard = λ tells. heard_any m client host first now s.legs p Q (s.asked.heard tells) };
  come = s.come;
}

all_before : {A : Type 0} (P : A → Type 0) (xs ys : List A) → AllByRecursion P (xs ++ ys) → AllByRecursion P xs
all_before P [] ys all = tt
all_before P (x ∷ xs) ys all = (all.0, all_before P xs ys all.1)

-- the sixteenth conflict is the first reply that it does not go on from
pub goes_on_to_conflict : (hs : List Heard) (last : List ℕ) → AllByRecursion LeadsOn hs → EachBringsNext hs → pulled_bytes hs ≤ max_pull → conflicts hs ≡ 16 → EndedBy hs (IsConflict last) → GoesOnFromAllButLast hs
goes_on_to_conflict hs last each followed within sixteen (h, ends, is) = (
  h,
  ends,
  record {
    each = all_before LeadsOn ends.earlier (h ∷ []) (subst (AllByRecursion LeadsOn) ends.split each);
    followed = followed_before ends.earlier (h ∷ []) (subst EachBringsNext ends.split followed);
    within = (let e = ap pulled_bytes ends.split in let f = pulled_bytes-append ends.earlier (h ∷ []) in omega (arith, e, f, within));
    few = (let e = ap conflicts ends.split in let f = conflicts-append ends.earlier (h ∷ []) in let one = ap conflicts_of is in omega (arith, e, f, one, sixteen));
  },
)

-- a question that is refused ends the call, whatever was heard before
pub refused_on : {L : Type 0} (m : LinkModel L) (client : List ℕ) (b c : L) (hs ks : List Heard) (e : AskError) → AskRefused m b c e → HeardRefusedAsk ks e → GoesOnFrom hs → HeardRefused client (hs ++ ks) (of_ask e)
refused_on m client b c hs ks e asked un g = by e asked un
  where
    same : (x : SyncError) → HeardRefused client hs x → ks ≡ [] → HeardRefused client (hs ++ ks) x
    same x r none = subst (λ xs. HeardRefused client xs x) (sym (ap (λ k. hs ++ k) none ∙ append-nil hs)) r

    by : (x : AskError) → AskRefused m b c x → HeardRefusedAsk ks x → HeardRefused client (hs ++ ks) (of_ask x)
    by (asking.Reply kind) a (h, is, bad) = subst (λ k. HeardRefused client (hs ++ k) (errors.Reply kind)) (sym is) (record { cause = ended_by hs h _ bad; until = goes_to_last hs h g })
    by asking.Link a none = same errors.Link (record { cause = tt; until = g }) none
    by asking.Memory a none = same errors.Memory (record { cause = tt; until = inl g }) none
