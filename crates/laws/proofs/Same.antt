-- Is it this number: what holds of every number, by the one that is singled out and the others.
use Prim.Native.Nat.{ℕ}
use mathlib.Core.Path.{◌≡◌}
use mathlib.Core.Logic.{◌≢◌}
use native.Mathlib.Decide.{ℕ_discrete}

-- by whether k is i
pub by_same : {A : Type 0} (k i : ℕ) → (k ≡ i → A) → (k ≢ i → A) → A
by_same {A} k i f g = go (ℕ_discrete k i)
  where
    go : Dec (k ≡ i) → A
    go (yes e) = f e
    go (no n) = g n

-- what holds of i holds of k, if it does where k is another
pub at_same : (F : ℕ → Type 0) (k i : ℕ) → F i → (k ≢ i → F k) → F k
at_same F k i now = by_same k i (λ e. rw e now)
