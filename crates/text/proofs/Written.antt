-- Room for a text, and the text put; no room, and nothing put.
use Prim.Native.Nat.{ℕ}
use mathlib.Core.Path.{◌≡◌, ◌∙◌}
use mathlib.Core.Bool.{true, false}
use mathlib.Core.List.{List}
use Rattle.text.specs.Text.{Put}
use Rattle.text.specs.Written.{has_room, wrote_of, buffer_of}
use Rattle.std.specs.Prelude.{Some, None}

pub wrote : {m at end : ℕ} {l l' text : List ℕ} (room : ℕ) → has_room room l at ≡ true → Put m l at text l' end → (Some end ≡ wrote_of room l at text) × (l' ≡ buffer_of room l at text)
unfolding wrote_of buffer_of
wrote room h p = (rw (h, p.ends), p.holds ∙ rw h)

pub no_room : (room at : ℕ) (l text : List ℕ) → has_room room l at ≡ false → (None ≡ wrote_of room l at text) × (l ≡ buffer_of room l at text)
unfolding wrote_of buffer_of
no_room room at l text h = (rw h, rw h)
