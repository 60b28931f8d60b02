-- There are always others: a node that doesn't send in a slot, and one that sends in neither of two.
use Prim.Native.Nat.{ℕ, ◌<◌}
use mathlib.Core.Path.{◌≡◌}
use mathlib.Core.Logic.{◌≢◌}
use native.Mathlib.Decide.{ℕ_discrete}
use native.Mathlib.Omega.{arith}
use Rattle.plan.specs.declared.Plan.{Plan}
use Rattle.plan.specs.Sending.{own}
use Rattle.plan.specs.Tested.{Sound}

module _ (P : Plan) (o : Sound P) where
  pub own_differs : (i j : ℕ) → i < P.nodes.0 → j < P.nodes.0 → i ≢ j → own P i ≢ own P j
  own_differs i j hi hj n e = n (o.own_apart i j hi hj e)

  -- a node that doesn't send in slot a
  pub record Other (a : ℕ) : Type 0 where
    pub by : ℕ
    pub below : by < P.nodes.0
    pub silent : own P by ≢ a

  pub other : (a : ℕ) → Other a
  other a = go (ℕ_discrete (own P 0) a)
    where
      differs : own P 0 ≢ own P 1
      differs = own_differs 0 1 (omega (arith, o.nodes_low)) (omega (arith, o.nodes_low)) (omega arith)

      go : Dec (own P 0 ≡ a) → Other a
      go (yes e) = record { by = 1; below = omega (arith, o.nodes_low); silent = λ q. differs (omega arith) }
      go (no n) = record { by = 0; below = omega (arith, o.nodes_low); silent = n }

  -- a node that sends neither in slot a nor in slot b
  pub record Third (a b : ℕ) : Type 0 where
    pub by : ℕ
    pub below : by < P.nodes.0
    pub not_first : own P by ≢ a
    pub not_second : own P by ≢ b

  pub third : (a b : ℕ) → Third a b
  third a b = go (ℕ_discrete (own P 0) a) (ℕ_discrete (own P 0) b) (ℕ_discrete (own P 1) a) (ℕ_discrete (own P 1) b)
    where
      low : 2 < P.nodes.0
      low = omega (arith, o.nodes_low)

      d01 : own P 0 ≢ own P 1
      d01 = own_differs 0 1 (omega (arith, low)) (omega (arith, low)) (omega arith)

      d02 : own P 0 ≢ own P 2
      d02 = own_differs 0 2 (omega (arith, low)) low (omega arith)

      d12 : own P 1 ≢ own P 2
      d12 = own_differs 1 2 (omega (arith, low)) low (omega arith)

      go : Dec (own P 0 ≡ a) → Dec (own P 0 ≡ b) → Dec (own P 1 ≡ a) → Dec (own P 1 ≡ b) → Third a b
      go (no n) (no m) x y = record { by = 0; below = omega (arith, low); not_first = n; not_second = m }
      go (yes n) y (no k) (no l) = record { by = 1; below = omega (arith, low); not_first = k; not_second = l }
      go (no n) (yes m) (no k) (no l) = record { by = 1; below = omega (arith, low); not_first = k; not_second = l }
      go (yes n) y (yes k) z = absurd (d01 (omega arith))
      go (yes n) y (no k) (yes l) = record { by = 2; below = low; not_first = λ q. d02 (omega arith); not_second = λ q. d12 (omega arith) }
      go (no n) (yes m) (yes k) z = record { by = 2; below = low; not_first = λ q. d12 (omega arith); not_second = λ q. d02 (omega arith) }
      go (no n) (yes m) (no k) (yes l) = absurd (d01 (omega arith))
