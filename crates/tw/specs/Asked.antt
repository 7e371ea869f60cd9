-- What the server's log shows of a request.
use Rattle.std.specs.Prelude.{ℕ, suc, ◌==◌, ◌&&◌, ◌||◌, nat_le, Bool, List, [], ◌∷◌, ◌++◌, length, take, drop, map, codes, Option, Some, None, if◌then◌else◌}
use Rattle.std.specs.Str.{bytes_eq}
use Rattle.std.specs.Char.{to_ascii_lowercase}

-- a byte as a log shows it: one that is not from ! to ~ is a question mark, so that no client writes a line of its own
abbrev pub shown : ℕ → ℕ
shown byte = if nat_le 33 byte && nat_le byte 126 then byte else 63

-- a word as a log shows it: a dash in place of none
abbrev pub shown_word : List ℕ → List ℕ
shown_word word = if length word == 0 then codes "-" else map shown word

-- a blank, or one of the two ends of a line
abbrev pub ends_word : ℕ → Bool
ends_word byte = (byte == 32) || (byte == 13) || (byte == 10)

-- how many bytes there are before the first of these
abbrev pub word_len : List ℕ → ℕ
word_len [] = 0
word_len (byte ∷ rest) = if ends_word byte then 0 else suc (word_len rest)

abbrev pub first_word : List ℕ → List ℕ
first_word bytes = take (word_len bytes) bytes

-- what follows the blank that bytes begin with, if they do
abbrev pub after_blank : List ℕ → List ℕ
after_blank [] = []
after_blank (byte ∷ rest) = if byte == 32 then rest else byte ∷ rest

-- what follows the name of the header of the client, if bytes begin with it after the end of a line; a name has no case
abbrev pub after_client : List ℕ → Option (List ℕ)
after_client bytes = if bytes_eq (map to_ascii_lowercase (take 13 bytes)) (map to_ascii_lowercase (10 ∷ codes "X-Client-Id:")) then Some (drop 13 bytes) else None

abbrev pub digits_or : Option (List ℕ) → List ℕ → List ℕ
digits_or None others = others
digits_or (Some value) others = take 8 (first_word (after_blank value))

-- the first eight digits of the client's id, as the first header of its name has them
abbrev pub client_of : List ℕ → List ℕ
client_of [] = []
client_of (byte ∷ rest) = digits_or (after_client (byte ∷ rest)) (client_of rest)

-- what the log shows of a request: its method, its path and its client, a blank between
abbrev pub asked : List ℕ → List ℕ
asked front = shown_word (first_word front) ++ 32 ∷ shown_word (first_word (after_blank (drop (word_len front) front))) ++ 32 ∷ shown_word (client_of front)
