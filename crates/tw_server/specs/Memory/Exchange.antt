-- The exchanges that a link in memory has stored.
use Rattle.std.specs.Prelude.{ℕ, List, map}
use Rattle.tw_http.specs.Link.{Exchange}
use Rattle.tw_server.specs.declared.memory.exchange.MemoryExchange.{MemoryExchange}

abbrev pub exchange : (request reply : List ℕ) → Exchange
exchange request reply = record { request = request; reply = reply }

abbrev pub exchange_of : MemoryExchange → Exchange
exchange_of x = exchange x.request x.reply

abbrev pub exchanges_of : List MemoryExchange → List Exchange
exchanges_of list = map exchange_of list
