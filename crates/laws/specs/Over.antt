-- The first n places of a list changed, each by its number and what it held; the rest as they were.
use Rattle.std.specs.Prelude.{ℕ, zero, suc, List, [], ◌∷◌}

module _ {A : Type 0} where
  unfoldable pub over : ℕ → (ℕ → A → A) → List A → List A
  over zero f xs = xs
  over (suc n) f [] = []
  over (suc n) f (x ∷ xs) = f 0 x ∷ over n (λ k. f (suc k)) xs
