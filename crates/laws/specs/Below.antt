-- Questions about the numbers below n: does one pass, do all, which is the first, what is the largest or the least value.
use Rattle.std.specs.Prelude.{ℕ, zero, suc, min, max, Bool, true, false, ◌&&◌, ◌||◌}

-- Some number below n passes.
unfoldable pub any_below : ℕ → (ℕ → Bool) → Bool
any_below zero f = false
any_below (suc n) f = any_below n f || f n

-- Every number below n passes.
unfoldable pub all_below : ℕ → (ℕ → Bool) → Bool
all_below zero f = true
all_below (suc n) f = all_below n f && f n

-- The first number from i on that passes, of at most `left` numbers; i + left where none does.
unfoldable pub first_from : (ℕ → Bool) → (left i : ℕ) → ℕ
first_from f zero i = i
first_from f (suc left) i = elim (f i) [ true ↦ i | false ↦ first_from f left (suc i) ]

-- The first number below n that passes; n where none does.
abbrev pub first_below : ℕ → (ℕ → Bool) → ℕ
first_below n f = first_from f n 0

-- The largest value at the numbers below n; 0 where there is none.
unfoldable pub largest_below : ℕ → (ℕ → ℕ) → ℕ
largest_below zero f = 0
largest_below (suc n) f = max (largest_below n f) (f n)

-- The least of `top` and of the values at the numbers below n.
unfoldable pub least_below : (top n : ℕ) → (ℕ → ℕ) → ℕ
least_below top zero f = top
least_below top (suc n) f = min (least_below top n f) (f n)
