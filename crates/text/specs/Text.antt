-- Text as a list of bytes: words and numbers, and a text put into a lent buffer.
use Rattle.std.specs.Prelude.{ℕ, zero, suc, ◌+◌, ◌/◌, ◌%◌, ◌≤◌, ◌≡◌, cond, List, [], ◌∷◌, ◌++◌, length, ltb}
use Prim.Native.Char.{code}
use Prim.Native.String.{String, len, char_at}
use Rattle.std.proofs.lemmas.List.Edits.{sets}

-- The bytes of a word from place i on, `left` of them.
abbrev pub bytes_from : String → (left i : ℕ) → List ℕ
bytes_from s zero i = []
bytes_from s (suc left) i = code (char_at s i) ∷ bytes_from s left (suc i)

-- The bytes of a word.
abbrev pub bytes : String → List ℕ
bytes s = bytes_from s (len s) 0

-- The decimal digits of a number below 10 ^ places, with no leading zeros.
unfoldable pub digits_within : (places n : ℕ) → List ℕ
digits_within zero n = []
digits_within (suc places) n = cond (ltb n 10) ((48 + n) ∷ []) (digits_within places (n / 10) ++ ((48 + n % 10) ∷ []))

-- A number in decimal: 20 places hold every 64-bit number.
abbrev pub decimal : ℕ → List ℕ
decimal n = digits_within 20 n

-- A word, and a number after it.
abbrev pub numbered : String → ℕ → List ℕ
numbered word n = bytes word ++ decimal n

-- A word, a number after it, and the newline that ends the line.
abbrev pub ended : String → ℕ → List ℕ
ended word n = numbered word n ++ bytes "\n"

-- What putting a text at a place of a buffer leaves: the text from there on, every other byte as it was, and the place after the text,
-- at most `room` bytes on.
pub record Put (room : ℕ) (before : List ℕ) (at : ℕ) (text after : List ℕ) (end : ℕ) : Type 0 where
  pub holds : after ≡ sets before at text
  pub ends : end ≡ at + length text
  pub within : end ≤ at + room
