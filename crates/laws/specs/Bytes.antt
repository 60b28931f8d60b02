-- Bytes in a row.
use Rattle.std.specs.Prelude.{ℕ, List, get_or}

-- The byte at a place; 0 past the end.
abbrev pub byte_at : List ℕ → (place : ℕ) → ℕ
byte_at bytes place = get_or bytes place 0
