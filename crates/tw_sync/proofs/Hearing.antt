-- What is heard by one call after another.
use Rattle.std.proofs.Common.{◌≡◌, ℕ, ◌+◌, inl, inr, List, [], ◌∷◌, ◌++◌, refl, sym, ap, subst, ◌∙◌, append_assoc, arith}
use Rattle.std.specs.List.{AllByRecursion}
use Rattle.std.proofs.lemmas.List.{append-nil}
use Rattle.tw_protocol.specs.Chain.{Version}
use Rattle.tw_http.specs.Link.{LinkModel, Exchange}
use Rattle.tw_sync.specs.Replies.Heard.{Heard, AreHeard, Hears, HearsUnread, HearsUntil, pulled_bytes, brought, brought_by, told_as, versions_in, told_in}
use Rattle.tw_sync.specs.Replies.Heard.{conflicts}
use Rattle.tw_sync.specs.Replies.Answers.{IsLinkKept, GrowsOn}
use Rattle.tw_sync.specs.declared.error.SyncError.{SyncError}
use Rattle.tw_sync.specs.declared.error.SyncError.TheVariants as errors
use Rattle.tw_sync.proofs.Served.{grows_on}

-- ---- counts

pub brought-append : (hs ks : List Heard) → brought (hs ++ ks) ≡ brought hs + brought ks
brought-append [] ks = omega arith
brought-append (h ∷ hs) ks = let rest = brought-append hs ks in omega (arith, rest)

pub conflicts-append : (hs ks : List Heard) → conflicts (hs ++ ks) ≡ conflicts hs + conflicts ks
conflicts-append [] ks = omega arith
conflicts-append (h ∷ hs) ks = let rest = conflicts-append hs ks in omega (arith, rest)

pub pulled_bytes-append : (hs ks : List Heard) → pulled_bytes (hs ++ ks) ≡ pulled_bytes hs + pulled_bytes ks
pulled_bytes-append [] ks = omega arith
pulled_bytes-append (h ∷ hs) ks = let rest = pulled_bytes-append hs ks in omega (arith, rest)

pub versions_in-append : (hs ks : List Heard) → versions_in (hs ++ ks) ≡ versions_in hs ++ versions_in ks
versions_in-append [] ks = refl
versions_in-append (h ∷ hs) ks = ap (λ vs. brought_by h.reply ++ vs) (versions_in-append hs ks) ∙ sym (append_assoc (brought_by h.reply) (versions_in hs) (versions_in ks))

pub told_in-append : (hs ks : List Heard) → told_in (hs ++ ks) ≡ told_in hs ++ told_in ks
told_in-append [] ks = refl
told_in-append (h ∷ hs) ks = ap (λ vs. told_as h.asked h.reply ++ vs) (told_in-append hs ks) ∙ sym (append_assoc (told_as h.asked h.reply) (told_in hs) (told_in ks))

-- a reply that tells of no version
pub told_in-past : (hs : List Heard) (h : Heard) → told_as h.asked h.reply ≡ [] → told_in (hs ++ h ∷ []) ≡ told_in hs
told_in-past hs h none = told_in-append hs (h ∷ []) ∙ ap (λ (vs : List Version). told_in hs ++ (vs ++ [])) none ∙ append-nil (told_in hs)

-- and one that tells of this version
pub told_in-last : (hs : List Heard) (h : Heard) (v : Version) → told_as h.asked h.reply ≡ v ∷ [] → told_in (hs ++ h ∷ []) ≡ told_in hs ++ v ∷ []
told_in-last hs h v is = told_in-append hs (h ∷ []) ∙ ap (λ (vs : List Version). told_in hs ++ (vs ++ [])) is

-- a reply that brings no version
pub versions_in-past : (hs : List Heard) (h : Heard) → brought_by h.reply ≡ [] → versions_in (hs ++ h ∷ []) ≡ versions_in hs
versions_in-past hs h none = versions_in-append hs (h ∷ []) ∙ ap (λ (vs : List Version). versions_in hs ++ (vs ++ [])) none ∙ append-nil (versions_in hs)

pub all-append : {A : Type 0} (P : A → Type 0) (xs ys : List A) → AllByRecursion P xs → AllByRecursion P ys → AllByRecursion P (xs ++ ys)
all-append P [] ys a b = b
all-append P (x ∷ xs) ys a b = (a.0, all-append P xs ys a.1 b)

-- ---- exchanges

heard-append : (client host : List ℕ) (xs ys : List Exchange) (hs ks : List Heard) → AreHeard client host xs hs → AreHeard client host ys ks → AreHeard client host (xs ++ ys) (hs ++ ks)
heard-append client host [] ys hs ks a b = subst (λ z. AreHeard client host ys (z ++ ks)) (sym a) b
heard-append client host (x ∷ xs) ys [] ks a b = absurd a
heard-append client host (x ∷ xs) ys (h ∷ hs) ks a b = (a.0, heard-append client host xs ys hs ks a.1 b)

module _ {L : Type 0} (m : LinkModel L) (client host : List ℕ) where
  pub hears_none : (link : L) → Hears m client host link link []
  hears_none link = record { exchanges = []; listed = sym (append-nil (m.list link)); are_heard = refl }

  pub hears_on : (a b c : L) (hs ks : List Heard) → Hears m client host a b hs → Hears m client host b c ks → Hears m client host a c (hs ++ ks)
  hears_on a b c hs ks one two = record {
    exchanges = one.exchanges ++ two.exchanges;
    listed = two.listed ∙ ap (λ xs. xs ++ two.exchanges) one.listed ∙ append_assoc (m.list a) one.exchanges two.exchanges;
    are_heard = heard-append client host one.exchanges two.exchanges hs ks one.are_heard two.are_heard;
  }

  unread_on : (a b c : L) (hs ks : List Heard) → Hears m client host a b hs → HearsUnread m client host b c ks → HearsUnread m client host a c (hs ++ ks)
  unread_on a b c hs ks one two = record {
    exchanges = one.exchanges ++ two.exchanges;
    last = two.last;
    listed = two.listed ∙ ap (λ xs. xs ++ (two.exchanges ++ two.last ∷ [])) one.listed ∙ append_assoc (m.list a) one.exchanges (two.exchanges ++ two.last ∷ [])
        ∙ ap (λ xs. m.list a ++ xs) (sym (append_assoc one.exchanges two.exchanges (two.last ∷ [])));
    are_heard = heard-append client host one.exchanges two.exchanges hs ks one.are_heard two.are_heard;
    asked = two.asked;
    sent = two.sent;
  }

  -- all that was heard, at any refusal
  pub hears_until : (a b : L) (hs : List Heard) (e : SyncError) → Hears m client host a b hs → HearsUntil m client host a b hs e
  hears_until a b hs errors.Memory one = inl one
  hears_until a b hs (errors.Journal e) one = one
  hears_until a b hs errors.Link one = one
  hears_until a b hs (errors.Reply kind) one = one
  hears_until a b hs (errors.Gone base) one = one
  hears_until a b hs (errors.Busy parent) one = one
  hears_until a b hs (errors.OutOfSync base parent) one = one
  hears_until a b hs (errors.Segment version) one = one
  hears_until a b hs (errors.SegmentTooLong bytes) one = one
  hears_until a b hs (errors.PullTooLong bytes) one = one

  pub hears_until_on : (a b c : L) (hs ks : List Heard) (e : SyncError) → Hears m client host a b hs → HearsUntil m client host b c ks e → HearsUntil m client host a c (hs ++ ks) e
  hears_until_on a b c hs ks errors.Memory one (inl two) = inl (hears_on a b c hs ks one two)
  hears_until_on a b c hs ks errors.Memory one (inr two) = inr (unread_on a b c hs ks one two)
  hears_until_on a b c hs ks (errors.Journal e) one two = hears_on a b c hs ks one two
  hears_until_on a b c hs ks errors.Link one two = hears_on a b c hs ks one two
  hears_until_on a b c hs ks (errors.Reply kind) one two = hears_on a b c hs ks one two
  hears_until_on a b c hs ks (errors.Gone base) one two = hears_on a b c hs ks one two
  hears_until_on a b c hs ks (errors.Busy parent) one two = hears_on a b c hs ks one two
  hears_until_on a b c hs ks (errors.OutOfSync base parent) one two = hears_on a b c hs ks one two
  hears_until_on a b c hs ks (errors.Segment version) one two = hears_on a b c hs ks one two
  hears_until_on a b c hs ks (errors.SegmentTooLong bytes) one two = hears_on a b c hs ks one two
  hears_until_on a b c hs ks (errors.PullTooLong bytes) one two = hears_on a b c hs ks one two

module _ {L : Type 0} (m : LinkModel L) where
  pub kept_same : (link : L) → IsLinkKept m link link
  kept_same link = record { faults = omega arith; tells_list = refl; tells_chain = refl; client = refl; honest = refl }

  pub kept_on : (a b c : L) → IsLinkKept m a b → IsLinkKept m b c → IsLinkKept m a c
  kept_on a b c f g = record {
    faults = omega (arith, f.faults, g.faults);
    tells_list = g.tells_list ∙ f.tells_list;
    tells_chain = g.tells_chain ∙ f.tells_chain;
    client = g.client ∙ f.client;
    honest = g.honest ∙ f.honest;
  }

  pub growing_on : (a b c : L) (client : List ℕ) → GrowsOn m a b client → GrowsOn m b c client → GrowsOn m a c client
  growing_on a b c client f g = record { honest = g.honest; whole = g.whole; grows = grows_on (m.chain a) (m.chain b) (m.chain c) f.grows g.grows }
