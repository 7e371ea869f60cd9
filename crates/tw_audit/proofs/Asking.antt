-- Questions, one after another.
use Rattle.std.proofs.Common.{◌≡◌, ◌⊎◌, ℕ, inl, inr, List, [], ◌∷◌, ◌++◌, refl, sym, ap, subst, ◌∙◌, append_assoc}
use Rattle.std.specs.Prelude.{IsTrue}
use Rattle.std.specs.List.{AllByRecursion}
use Rattle.std.proofs.lemmas.List.{append-nil}
use Rattle.tw_http.specs.Link.{LinkModel, Exchange, IsHonest, IsChainOf}
use Rattle.tw_http.specs.Messages.{request_text}
use Rattle.tw_http.specs.declared.message.Request.TheVariants as asks
use Rattle.tw_sync.specs.Replies.Answers.{IsLinkKept, GrowsOn, ListsAtMostOne}
use Rattle.tw_sync.proofs.Hearing.{all-append, kept_same, kept_on, growing_on}
use Rattle.tw_sync.proofs.Served.{grows_same}
use Rattle.tw_audit.specs.Asking.{IsQuestion, SendsQuestions, Asks}

module _ {L : Type 0} (m : LinkModel L) (client host : List ℕ) where
  pub asks_none : (link : L) → IsChainOf m link → Asks m client host link link
  asks_none link chain = record {
    kept = kept_same m link;
    sends = λ tells. ([], sym (append-nil (m.list link)), tt);
    grows = λ honest. record { honest = honest; whole = (chain (record { honest = honest.honest; tells = honest.tells })).whole; grows = grows_same (m.chain link) };
    mine = λ honest. refl;
  }

  one_question : (a b : L) (parent : List ℕ) → (m.list b ≡ m.list a) ⊎ ((reply : List ℕ) × (m.list b ≡ m.list a ++ record { request = request_text (asks.Child client parent) host; reply = reply } ∷ []))
      → (exchanges : List Exchange) × (m.list b ≡ m.list a ++ exchanges) × AllByRecursion (IsQuestion client host) exchanges
  one_question a b parent (inl same) = ([], same ∙ sym (append-nil (m.list a)), tt)
  one_question a b parent (inr (reply, more)) = (record { request = request_text (asks.Child client parent) host; reply = reply } ∷ [], more, ((parent, refl), tt))

  pub asks_one : (a b : L) (parent : List ℕ) → IsLinkKept m a b → ListsAtMostOne m a b (request_text (asks.Child client parent) host) → (IsHonest m a client → GrowsOn m a b client)
      → (IsHonest m a client → m.own b ≡ m.own a) → Asks m client host a b
  asks_one a b parent kept lists grows mine = record { kept = kept; sends = λ tells. one_question a b parent (lists tells); grows = grows; mine = mine }

  pub tells_on : (a b : L) → Asks m client host a b → IsTrue (m.tells_list a) → IsTrue (m.tells_list b)
  tells_on a b one tells = subst IsTrue (sym one.kept.tells_list) tells

  pub honest_on : (a b : L) → Asks m client host a b → IsHonest m a client → IsHonest m b client
  honest_on a b one honest = (one.grows honest).honest

  pub honest_back : (a b : L) → Asks m client host a b → IsHonest m b client → IsHonest m a client
  honest_back a b one honest = record {
    honest = subst IsTrue one.kept.honest honest.honest;
    tells = subst IsTrue one.kept.tells_chain honest.tells;
    of_client = sym one.kept.client ∙ honest.of_client;
  }

  sends_on : (a b c : L) → (one : (xs : List Exchange) × (m.list b ≡ m.list a ++ xs) × AllByRecursion (IsQuestion client host) xs)
      → (two : (ys : List Exchange) × (m.list c ≡ m.list b ++ ys) × AllByRecursion (IsQuestion client host) ys)
      → (zs : List Exchange) × (m.list c ≡ m.list a ++ zs) × AllByRecursion (IsQuestion client host) zs
  sends_on a b c (xs, here, all) (ys, there, more) =
      (xs ++ ys, there ∙ ap (λ zs. zs ++ ys) here ∙ append_assoc (m.list a) xs ys, all-append (IsQuestion client host) xs ys all more)

  pub asks_on : (a b c : L) → Asks m client host a b → Asks m client host b c → Asks m client host a c
  asks_on a b c one two = record {
    kept = kept_on m a b c one.kept two.kept;
    sends = λ tells. sends_on a b c (one.sends tells) (two.sends (tells_on a b one tells));
    grows = λ honest. growing_on m a b c client (one.grows honest) (two.grows (honest_on a b one honest));
    mine = λ honest. two.mine (honest_on a b one honest) ∙ one.mine honest;
  }
