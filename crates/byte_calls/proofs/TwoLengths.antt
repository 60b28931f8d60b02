-- What the test of two lengths says: five bytes for each answer.
use Prim.Native.Nat.{ℕ, ◌*◌, ◌/◌, ◌%◌}
use mathlib.Core.Path.{◌≡◌, refl}
use mathlib.Core.Bool.{Bool, true, false}
use native.Mathlib.Omega.{arith}
use lib.Dec.{eqb}
use borrow.Author.Tests.{eq-eqb, ne_eqb, eqb-true, eqb-false}

-- as many fifths as answers
pub whole_fifths : (s n : ℕ) → s % 5 ≡ 0 → eqb (s / 5) n ≡ eqb s (5 * n)
whole_fifths s n z = go (eqb s (5 * n)) refl
  where
    go : (b : Bool) → eqb s (5 * n) ≡ b → eqb (s / 5) n ≡ b
    go true p = let e = eqb-true s (5 * n) p in eq-eqb (s / 5) n (omega arith)
    go false p = let e = eqb-false s (5 * n) p in ne_eqb (s / 5) n (λ q. e (omega arith))
