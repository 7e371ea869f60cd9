-- What a reader shows.
use Rattle.std.specs.Prelude.{◌≡◌, ℕ, true, List}
use Rattle.tw_records.specs.Table.{body_at}
use Rattle.tw_server.specs.declared.reader.Reader.{Reader}

-- if it holds the body of a record, it is that of these bodies
abbrev pub IsShown : Reader → List (List ℕ) → Type 0
IsShown reader bodies = reader.held ≡ true → reader.body.items ≡ body_at bodies reader.block
