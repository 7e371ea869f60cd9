-- The interval of a line.
use Rattle.std.specs.Prelude.{ℕ, Bool, true, nat_le, if◌then◌else◌, List, codes, take, drop, length, Option, Some, None}
use Rattle.tw_world.specs.Folder.{same_bytes}
use Rattle.tw_time.specs.Basic.{basic_moment}
use Rattle.timew_month.specs.Body.{◌>>=◌}
use Rattle.timew_month.specs.Tail.{tail_of}
use Rattle.timew_interval.specs.declared.interval.Interval.{Interval}

-- what follows a text, if the bytes begin with it
abbrev pub after : List ℕ → List ℕ → Option (List ℕ)
after front bytes = if same_bytes (take (length front) bytes) front then Some (drop (length front) bytes) else None

-- the moment of the first 16 bytes, and the rest
abbrev pub moment_at : List ℕ → Option (ℕ × List ℕ)
moment_at bytes = basic_moment (take 16 bytes) >>= λ at. Some (at, drop 16 bytes)

abbrev pub end_behind : Option (List ℕ) → List ℕ → Option (Option ℕ × List ℕ)
end_behind None bytes = Some (None, bytes)
end_behind (Some rest) bytes = moment_at rest >>= λ at. Some (Some at.0, at.1)

-- an end, if there is one
abbrev pub end_at : List ℕ → Option (Option ℕ × List ℕ)
end_at bytes = end_behind (after (codes " - ") bytes) bytes

-- the end does not lie before the start
abbrev pub is_end : ℕ → Option ℕ → Bool
is_end start None = true
is_end start (Some end) = nat_le start end

abbrev pub row_with : ℕ → Option ℕ → List ℕ → Option Interval
row_with start end bytes = do
  tail ← tail_of bytes
  if is_end start end then Some (record { start = start; end = end; tags = tail.0; annotation = tail.1 }) else None

-- the interval of a line, if it is one and does not end before it starts
unfoldable pub row_of : List ℕ → Option Interval
row_of line = do
  rest ← after (codes "inc ") line
  start ← moment_at rest
  end ← end_at start.1
  row_with start.0 end.0 end.1
