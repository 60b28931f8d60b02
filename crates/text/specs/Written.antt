-- A text written into a lent buffer, whole or not at all.
use Rattle.std.specs.Prelude.{◌≡◌, true, ℕ, ◌+◌, Bool, cond, List, length, leb, Option, Some, None}
use Rattle.std.proofs.lemmas.List.Edits.{sets}
use Rattle.std.specs.Fn.{Once, FnOnceTakesAtMut, FnOnceReturnsAtMut}
use Rattle.std.specs.Borrow.{MutBor}
use Rattle.text.specs.Text.{Put}

-- So many bytes are left of a buffer from a place on.
abbrev pub has_room : (room : ℕ) → List ℕ → ℕ → Bool
has_room room buffer at = leb (at + room) (length buffer)

-- The answer: where the text ends, or none where there is no room.
unfoldable pub wrote_of : (room : ℕ) → List ℕ → ℕ → List ℕ → Option ℕ
wrote_of room buffer at text = cond (has_room room buffer at) (Some (at + length text)) None

-- What the buffer holds then: the text from its place on and every other byte as it was, or all as it was.
unfoldable pub buffer_of : (room : ℕ) → List ℕ → ℕ → List ℕ → List ℕ
buffer_of room buffer at text = cond (has_room room buffer at) (sets buffer at text) buffer

-- A function f that puts a text into a buffer, and answers where the text ends.
module _ {F : Type 0} (g : Once F (MutBor (List ℕ) × Unit {0}) (ℕ × (MutBor (List ℕ) × Unit {0}))) (f : F) (room : ℕ) (buffer : List ℕ) (at : ℕ) where
  -- It may be called where there is so much room.
  abbrev pub TakesRoom : Type 0
  TakesRoom = has_room room buffer at ≡ true → FnOnceTakesAtMut g f buffer

  -- What it puts is this text.
  abbrev pub Puts : List ℕ → Type 0
  Puts text = (end : ℕ) (after : List ℕ) → FnOnceReturnsAtMut g f buffer end after → Put room buffer at text after end
