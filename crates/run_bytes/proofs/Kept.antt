-- Writing what was read gives the bytes that were there: each number of the run is written as the bytes that it was read from.
use Prim.Native.Nat.{ℕ, zero, suc, ◌+◌, ◌*◌, ◌≤◌, ◌<◌}
use mathlib.Core.Path.{◌≡◌, refl, sym, ap, ◌∙◌}
use mathlib.Core.Bool.{Bool, false, not}
use mathlib.Core.List.{List}
use native.Mathlib.Omega.{arith}
use native.Mathlib.Decide.{ℕ_discrete}
use lib.Seq.{sets}
use lib.Dec.{eqb, ltb}
use borrow.Author.Tests.{ltb-false, eq-eqb, ne_eqb}
use Rattle.laws.proofs.Bools.{or_false_left, or_false_right, cond_by}
use Rattle.laws.specs.Below.{any_below}
use Rattle.laws.proofs.Belows.{any_not}
use Rattle.laws.specs.Bytes.{byte_at}
use Rattle.plan_file.specs.File.{be16_of, be32_of}
use Rattle.std.specs.Prelude.{None, Some}
use Rattle.run.specs.declared.Run.{Run}
use Rattle.run.specs.State.{node}
use Rattle.run_bytes.specs.RunBytes.{mode_byte, mode_in, flag_byte, node_bytes, last_bytes, node_in, last_in, run_in, nodes_bytes, run_bytes, node_wrong, spells_no_run}
use Rattle.run_bytes.proofs.Sets.{sets_same}
use Rattle.run_bytes.proofs.RoundTrip.{LastFits, Holdable, node_read, fresh_read, length_read}

mode_kept : (b : ℕ) → ltb 2 b ≡ false → mode_byte (mode_in b) ≡ b
unfolding mode_in
mode_kept zero h = refl
mode_kept (suc zero) h = refl
mode_kept (suc (suc zero)) h = refl
mode_kept (suc (suc (suc b))) h = absurd (omega (arith, ltb-false 2 (suc (suc (suc b))) h))

flag_kept : (b : ℕ) → ltb 1 b ≡ false → flag_byte (not (eqb b 0)) ≡ b
flag_kept zero h = refl
flag_kept (suc zero) h = refl
flag_kept (suc (suc b)) h = absurd (omega (arith, ltb-false 1 (suc (suc b)) h))

-- Each number of a list is a byte.
abbrev pub AllBytes : List ℕ → Type 0
AllBytes l = (k : ℕ) → byte_at l k < 256

-- a node written where it was read
node_kept : (l : List ℕ) (at : ℕ) → AllBytes l → node_wrong l at ≡ false → sets l at (node_bytes (node_in l at)) ≡ l
unfolding node_in node_bytes node_wrong be16_of be32_of
node_kept l at b h =
    let same : (j k : ℕ) → j ≡ k → byte_at l j ≡ byte_at l k = λ j k e. ap (λ (n : ℕ). byte_at l n) e in
    let s₁ = same (at + 1) (suc at) (omega arith) in
    let s₂ = same (at + 1 + 1) (suc (suc at)) (omega arith) in
    let s₃ = same (at + 3) (suc (suc (suc at))) (omega arith) in
    let s₄ = same (at + 3 + 1) (suc (suc (suc (suc at)))) (omega arith) in
    let s₅ = same (at + 3 + 2) (suc (suc (suc (suc (suc at))))) (omega arith) in
    let s₆ = same (at + 3 + 3) (suc (suc (suc (suc (suc (suc at)))))) (omega arith) in
    let s₇ = same (at + 7) (suc (suc (suc (suc (suc (suc (suc at))))))) (omega arith) in
    let s₈ = same (at + 8) (suc (suc (suc (suc (suc (suc (suc (suc at)))))))) (omega arith) in
    let b₂ = b (at + 1 + 1) in
    let b₄ = b (at + 3 + 1) in
    let b₅ = b (at + 3 + 2) in
    let b₆ = b (at + 3 + 3) in
    let mode = mode_kept (byte_at l (at + 7)) (or_false_left (ltb 2 (byte_at l (at + 7))) (ltb 1 (byte_at l (at + 8))) h) in
    let flag = flag_kept (byte_at l (at + 8)) (or_false_right (ltb 2 (byte_at l (at + 7))) (ltb 1 (byte_at l (at + 8))) h) in
    sets_same l 0 at (node_bytes (node_in l at)) (refl, (omega arith, (omega arith, (omega arith, (omega arith, (omega arith, (omega arith, (mode ∙ s₇, (flag ∙ s₈, tt)))))))))

nodes_kept : (n : ℕ) (r : Run) (l : List ℕ) → AllBytes l → ((i : ℕ) → i < n → node_wrong l (9 * i) ≡ false) → ((i : ℕ) → i < n → node r i ≡ node_in l (9 * i)) → nodes_bytes n r l ≡ l
unfolding nodes_bytes
nodes_kept zero r l b h e = refl
nodes_kept (suc n) r l b h e =
    let before : nodes_bytes n r l ≡ l = nodes_kept n r l b (λ i k. h i (omega arith)) (λ i k. e i (omega arith)) in
    rw (before, e n (omega arith)) (node_kept l (9 * n) b (h n (omega arith)))

-- Where none was sent, two zeros follow.
abbrev pub NonePlain : List ℕ → Type 0
NonePlain l = byte_at l 288 ≡ 0 → be16_of l 289 ≡ 0

last_kept : (l : List ℕ) → AllBytes l → ltb 1 (byte_at l 288) ≡ false → NonePlain l → sets l 288 (last_bytes (last_in l)) ≡ l
unfolding last_in last_bytes be16_of
last_kept l b h p = go (ℕ_discrete (byte_at l 288) 0)
  where
    go : Dec (byte_at l 288 ≡ 0) → sets l 288 (last_bytes (last_in l)) ≡ l
    go (yes e) =
        let none = p e in
        rw (last_in, eq-eqb _ 0 e) (sets_same l 0 288 (last_bytes None) (sym e, (omega arith, (omega arith, tt))))
    go (no e) =
        let one : 1 ≡ byte_at l 288 = omega (arith, ltb-false 1 (byte_at l 288) h) in
        let b₂ = b 290 in
        rw (last_in, ne_eqb _ 0 e) (sets_same l 0 288 (last_bytes (Some (record { 0 = be16_of l 289 }))) (one, (omega arith, (omega arith, tt))))

-- Writing what was read gives the bytes that were there.
pub written_read : (N : ℕ) (l : List ℕ) → N ≤ 32 → AllBytes l → spells_no_run N l ≡ false → NonePlain l → run_bytes N (run_in N l) l ≡ l
unfolding run_bytes run_in spells_no_run
written_read N l few b h p =
    let wrong : ℕ → Bool = λ k. node_wrong l (9 * k) in
    let right = any_not N wrong (or_false_left (any_below N wrong) (ltb 1 (byte_at l 288)) h) in
    rw (run_bytes, nodes_kept N (run_in N l) l b right (node_read N l few)) (last_kept l b (or_false_right (any_below N wrong) (ltb 1 (byte_at l 288)) h) p)

last_holdable : (l : List ℕ) → AllBytes l → LastFits (last_in l)
unfolding last_in be16_of
last_holdable l b = cond_by LastFits (eqb (byte_at l 288) 0) None (Some (record { 0 = be16_of l 289 })) (λ t. tt) (λ f. omega (arith, b 289, b 290))

-- Every run that is read from bytes can be held in bytes.
pub read_holdable : (N : ℕ) (l : List ℕ) → N ≤ 32 → AllBytes l → Holdable N (run_in N l)
unfolding run_in node_in be16_of be32_of
read_holdable N l few b = record {
  places = length_read N l;
  nodes_fit = λ i h. rw (node_read N l few i h) (record {
    clock_fits = b (9 * i);
    slot_fits = omega (arith, b (9 * i + 1), b (9 * i + 1 + 1));
    time_fits = omega (arith, b (9 * i + 3), b (9 * i + 3 + 1), b (9 * i + 3 + 2), b (9 * i + 3 + 3));
  });
  rest_fresh = fresh_read N l;
  last_fits = last_holdable l b;
}
