-- The byte form of a place of a shown run: 291 bytes for its run, 1 for its mark; 292 in all.
use Rattle.std.specs.Prelude.{ℕ, Bool, cond, ◌||◌, List, set, eqb, ltb}
use Rattle.laws.specs.Bytes.{byte_at}
use Rattle.shown.specs.declared.Mark.{Mark}
use Rattle.shown.specs.declared.Mark.TheVariants.{Before, In, After}
use Rattle.shown.specs.declared.Place.{Place}
use Rattle.run_bytes.specs.RunBytes.{run_in, run_bytes, spells_no_run}

-- A mark: 0 before the pivot, 1 in it, 2 after it.
abbrev pub mark_byte : Mark → ℕ
mark_byte Before = 0
mark_byte In = 1
mark_byte After = 2

unfoldable pub mark_in : ℕ → Mark
mark_in b = cond (eqb b 0) Before (cond (eqb b 1) In After)

-- The place that bytes spell, and a place put into bytes; the run by its first N places, as in its own form.
unfoldable pub place_in : ℕ → List ℕ → Place
place_in N bytes = record { run = run_in N bytes; mark = mark_in (byte_at bytes 291) }

unfoldable pub place_bytes : ℕ → Place → List ℕ → List ℕ
place_bytes N q bytes = set (run_bytes N q.run bytes) 291 (mark_byte q.mark)

-- The bytes spell no place: no run, or no mark.
unfoldable pub place_wrong : ℕ → List ℕ → Bool
place_wrong N bytes = spells_no_run N bytes || ltb 2 (byte_at bytes 291)
