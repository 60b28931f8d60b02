-- The sum of the values at the numbers below n, and what a change of one value makes of it.
use Prim.Native.Nat.{ℕ, zero, suc, ◌+◌, ◌*◌, ◌≤◌, ◌<◌}
use mathlib.Core.Path.{◌≡◌, refl}
use mathlib.Core.Logic.{◌≢◌}
use native.Mathlib.Nat.{not-suc-le-zero}
use native.Mathlib.Decide.{ℕ_discrete}
use native.Mathlib.Omega.{arith}

pub sum_below : ℕ → (ℕ → ℕ) → ℕ
sum_below zero f = 0
sum_below (suc n) f = sum_below n f + f n

pub sum_same : (n : ℕ) (f h : ℕ → ℕ) → ((k : ℕ) → k < n → h k ≡ f k) → sum_below n h ≡ sum_below n f
unfolding sum_below
sum_same zero f h e = refl
sum_same (suc n) f h e = omega (arith, sum_same n f h (λ k l. e k (omega arith)), e n (omega arith))

-- the sum changes as the one value does that changes
pub sum_but_one : (n i : ℕ) (f h : ℕ → ℕ) → i < n → ((k : ℕ) → k < n → k ≢ i → h k ≡ f k) → sum_below n h + f i ≡ sum_below n f + h i
unfolding sum_below
sum_but_one zero i f h l e = absurd (not-suc-le-zero l)
sum_but_one (suc n) i f h l e = go (ℕ_discrete i n) (λ m. sum_but_one n i f h m (λ k j. e k (omega arith)))
  where
    go : Dec (i ≡ n) → (i < n → sum_below n h + f i ≡ sum_below n f + h i) → sum_below (suc n) h + f i ≡ sum_below (suc n) f + h i
    go (yes q) r =
        let z : sum_below n h ≡ sum_below n f = sum_same n f h (λ k j. e k (omega arith) (omega arith)) in
        rw q (let y : sum_below n h + h n + f n ≡ sum_below n f + f n + h n = omega arith in y)
    go (no q) r = omega (arith, r (omega arith), e n (omega arith) (omega arith))

pub sum_within : (n b : ℕ) (f : ℕ → ℕ) → ((k : ℕ) → k < n → f k ≤ b) → sum_below n f ≤ n * b
unfolding sum_below
sum_within zero b f h = omega arith
sum_within (suc n) b f h = omega (arith, sum_within n b f (λ k l. h k (omega arith)), h n (omega arith))
