-- What is so of a link is so of one that means the same.
use Rattle.std.proofs.Common.{◌≡◌, ◌∙◌, ℕ, Result, Ok, Err, List, [], length, map, sym, ap, subst}
use Rattle.tw_http.specs.Link.{LinkModel, IsExchange, IsAnswered, IsHonest, TellsTruly, IsHonestStep}
use Rattle.tw_http.specs.declared.link.LinkError.{LinkError}
use Rattle.tw_http.specs.declared.message.Request.{Request}
use Rattle.tw_world.specs.declared.ids.IdWords.{IdWords}
use Rattle.tw_records.specs.Log.{chain_of}
use Rattle.tw_server.specs.Memory.Holding.{Holding, accepted_of, own_of}
use Rattle.tw_server.specs.Memory.Link.{IsAlone, IsNewLink}
use Rattle.tw_server.specs.declared.memory.link.MemoryLink.{MemoryLink}
use Rattle.tw_server.specs.declared.memory.script.LinkStep.{LinkStep}
use Rattle.tw_generate.specs.Links.{model_of}

module _ {K L : Type 0} (f : K → L) (m : LinkModel L) (old new : K) (request reply : List ℕ) (result : Result (Unit {0}) LinkError) where
  pub exchanged_in : IsExchange m (f old) (f new) request reply result → IsExchange (model_of f m) old new request reply result
  exchanged_in e = record {
    faults = e.faults;
    count = e.count;
    tells_list = e.tells_list;
    tells_chain = e.tells_chain;
    client = e.client;
    honest = e.honest;
    list = e.list;
  }

  honest_in : (client : List ℕ) → IsHonest (model_of f m) old client → IsHonest m (f old) client
  honest_in client h = record { honest = h.honest; tells = h.tells; of_client = h.of_client }

  truly_in : TellsTruly (model_of f m) old → TellsTruly m (f old)
  truly_in t = record { honest = t.honest; tells = t.tells }

  step_in : (r : Result (Unit {0}) LinkError) (asked : Request) → IsHonestStep m (f old) (f new) reply r asked → IsHonestStep (model_of f m) old new reply r asked
  step_in (Ok u) asked step = step
  step_in (Err e) asked step = step

  pub answered_in : IsAnswered m (f old) (f new) request reply result → IsAnswered (model_of f m) old new request reply result
  answered_in a = record {
    served = λ asked honest is. step_in result asked (a.served asked (honest_in _ honest) is);
    elsewhere = λ asked truly not is. a.elsewhere asked (truly_in truly) not is;
    refused = λ error truly is. a.refused error (truly_in truly) is;
  }

-- ---- a new link without a script

module _ (client : List ℕ) (ids : IdWords) (script : List LinkStep) (link : MemoryLink) (new : IsNewLink client ids script link) (none : script ≡ []) where
  pub new_without_script : IsNewLink client ids [] link
  new_without_script = subst (λ (steps : List LinkStep). IsNewLink client ids steps link) none new

  pub new_is_alone : IsAlone link
  new_is_alone = record {
    script = ap length new.by_script ∙ ap length none;
    own = ap (λ (h : Holding). own_of link.client h.versions) new.nothing ∙ sym (ap (λ (h : Holding). chain_of link.client (map accepted_of h.versions)) new.nothing);
  }
