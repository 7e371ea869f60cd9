-- A link to whose client's chain nobody else adds means what the link in memory means that it has.
use Rattle.tw_http.specs.Link.{LinkModel, IsChainOf, OwnAreOfChain}
use Rattle.tw_server.specs.declared.memory.link.MemoryLink.{MemoryLink}
use Rattle.tw_server.specs.Memory.Link.{memory_link_model, memory_tells_chain, memory_own_stand}
use Rattle.tw_generate.specs.declared.link.LoneLink.{LoneLink}

-- a link means what the link in it means
abbrev pub model_of : {K L : Type 0} → (K → L) → LinkModel L → LinkModel K
model_of f m = record {
  faults = λ l. m.faults (f l);
  exchanges = λ l. m.exchanges (f l);
  tells_list = λ l. m.tells_list (f l);
  list = λ l. m.list (f l);
  tells_chain = λ l. m.tells_chain (f l);
  client = λ l. m.client (f l);
  chain = λ l. m.chain (f l);
  own = λ l. m.own (f l);
  honest = λ l. m.honest (f l);
}

-- the link in memory
abbrev pub memory_link : LoneLink → MemoryLink
memory_link lone = lone.link

abbrev pub lone_link_model : LinkModel LoneLink
lone_link_model = model_of memory_link memory_link_model

pub lone_tells_chain : (lone : LoneLink) → IsChainOf lone_link_model lone
lone_tells_chain lone truly = memory_tells_chain lone.link (record { honest = truly.honest; tells = truly.tells })

pub lone_own_stand : (lone : LoneLink) → OwnAreOfChain lone_link_model lone
lone_own_stand lone tells = memory_own_stand lone.link tells
