-- Reading the bytes that a place was written as gives the same place, and writing what was read gives the same bytes: its run by
-- the run's own laws, and its mark from the byte after the run's.
use Prim.Native.Nat.{ℕ, zero, suc, ◌≤◌}
use mathlib.Core.Path.{◌≡◌, refl, ap, ◌∙◌}
use mathlib.Core.Bool.{false}
use mathlib.Core.List.{List}
use native.Mathlib.Omega.{arith}
use lib.ListN.{length, set}
use lib.Seq.{get_or-set_same, get_or-set_other, set-get_or}
use lib.Dec.{ltb}
use borrow.Author.Tests.{ltb-false}
use Rattle.laws.proofs.Bools.{or_false_left, or_false_right}
use Rattle.laws.specs.Bytes.{byte_at}
use Rattle.shown.specs.declared.Mark.{Mark}
use Rattle.shown.specs.declared.Mark.TheVariants.{Before, In, After}
use Rattle.shown.specs.declared.Place.{Place}
use Rattle.run_bytes.specs.RunBytes.{run_in, run_bytes, spells_no_run}
use Rattle.run_bytes.proofs.RoundTrip.{Holdable, read_written_run, run_same, length_run}
use Rattle.run_bytes.proofs.Kept.{AllBytes, NonePlain, written_read}
use Rattle.answer_bytes.specs.Places.{mark_byte, mark_in, place_in, place_bytes, place_wrong}

mark_back : (m : Mark) → mark_in (mark_byte m) ≡ m
unfolding mark_in
mark_back Before = refl
mark_back In = refl
mark_back After = refl

mark_kept : (b : ℕ) → ltb 2 b ≡ false → mark_byte (mark_in b) ≡ b
unfolding mark_in
mark_kept zero h = refl
mark_kept (suc zero) h = refl
mark_kept (suc (suc zero)) h = refl
mark_kept (suc (suc (suc b))) h = absurd (omega (arith, ltb-false 2 (suc (suc (suc b))) h))

-- Reading what was written gives the same place, where bytes can hold its run.
pub read_written_place : (N : ℕ) (q : Place) (bytes : List ℕ) → N ≤ 32 → length bytes ≡ 292 → Holdable N q.run → place_in N (place_bytes N q bytes) ≡ q
unfolding place_in place_bytes
read_written_place N q bytes few long holdable =
    let B : List ℕ = run_bytes N q.run bytes in
    let run : run_in N (place_bytes N q bytes) ≡ q.run =
    run_same N (place_bytes N q bytes) B few (λ j low. get_or-set_other B 291 j (mark_byte q.mark) 0 (λ e. omega arith))
    ∙ read_written_run N q.run bytes few (omega arith) holdable in
    let byte : byte_at (place_bytes N q bytes) 291 ≡ mark_byte q.mark = get_or-set_same B 291 (mark_byte q.mark) 0 (omega (arith, length_run N q.run bytes)) in
    let mark : mark_in (byte_at (place_bytes N q bytes) 291) ≡ q.mark = ap mark_in byte ∙ mark_back q.mark in
    λ j. record { run = run j; mark = mark j }

-- Writing what was read gives the bytes that were there.
pub written_read_place : (N : ℕ) (l : List ℕ) → N ≤ 32 → AllBytes l → place_wrong N l ≡ false → NonePlain l → place_bytes N (place_in N l) l ≡ l
unfolding place_in place_bytes place_wrong
written_read_place N l few bytes right plain =
    let run : run_bytes N (run_in N l) l ≡ l = written_read N l few bytes (or_false_left (spells_no_run N l) (ltb 2 (byte_at l 291)) right) plain in
    let mark : mark_byte (mark_in (byte_at l 291)) ≡ byte_at l 291 = mark_kept (byte_at l 291) (or_false_right (spells_no_run N l) (ltb 2 (byte_at l 291)) right) in
    ap (λ (m : List ℕ). set m 291 (mark_byte (mark_in (byte_at l 291)))) run ∙ ap (λ (n : ℕ). set l 291 n) mark ∙ set-get_or l 291 0
