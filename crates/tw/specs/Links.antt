-- A link that counts its exchanges and its faults, and tells nothing else.
use Rattle.std.specs.Prelude.{◌≡◌, [], true, false}
use Rattle.tw_http.specs.Link.{LinkModel}
use Rattle.tw.specs.declared.link.TcpLink.{TcpLink}

abbrev pub tcp_model : {S T : Type 0} → LinkModel (TcpLink S T)
tcp_model = record {
  faults = λ l. l.faults;
  exchanges = λ l. l.exchanges;
  tells_list = λ l. false;
  list = λ l. [];
  tells_chain = λ l. false;
  client = λ l. [];
  chain = λ l. [];
  own = λ l. [];
  honest = λ l. false;
}

pub none_told : {A : Type 0} → false ≡ true → A
none_told h = absurd (cc)
