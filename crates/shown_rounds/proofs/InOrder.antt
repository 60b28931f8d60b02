-- What nodes do in number order: each that passes does its steps on the run that the one before it leaves.
use Prim.Native.Nat.{ℕ, zero, suc, ◌+◌, ◌≤◌, ◌<◌}
use mathlib.Core.Path.{◌≡◌, refl, sym, ◌∙◌}
use mathlib.Core.Logic.{◌≢◌}
use mathlib.Core.Bool.{Bool, true, false, cond}
use mathlib.Core.List.{List, [], ◌++◌}
use native.Mathlib.Decide.{dec_le}
use native.Mathlib.Omega.{arith}
use borrow.Author.Tests.{le-leb, lt-leb}
use lib.Dec.{leb}
use Rattle.plan.specs.declared.Plan.{Plan}
use Rattle.run.specs.declared.Run.{Run}
use Rattle.run.specs.declared.Step.{Step}
use Rattle.shown.specs.declared.Mark.{Mark}
use Rattle.shown.specs.declared.Place.{Place}
use Rattle.shown_rounds.specs.Rounds.{in_order_from}

-- from i on, one fewer at the next
pub from_self : (i : ℕ) → leb i i ≡ true
from_self i = le-leb i i (omega arith)

pub from_next : (i : ℕ) → leb (suc i) i ≡ false
from_next i = lt-leb (suc i) i (omega arith)

pub from_other : (i k : ℕ) → k ≢ i → leb (suc i) k ≡ leb i k
from_other i k d = go (dec_le i k)
  where
    go : Dec (i ≤ k) → leb (suc i) k ≡ leb i k
    go (yes l) = le-leb (suc i) k (omega arith) ∙ sym (le-leb i k l)
    go (no l) = lt-leb (suc i) k (omega arith) ∙ sym (lt-leb i k (omega arith))

-- G says what steps lead to: no steps stay, and more steps go on from there
module _ (P : Plan) (G : Place → List Step → Mark → (Run → Type 0) → Type 0)
    (stay : (r : Run) (m : Mark) (J : Run → Type 0) → J r → G (record { run = r; mark = m }) [] m J)
    (on : (q : Place) (a b : List Step) (m k : Mark) (J K : Run → Type 0) → G q a m J → ((r : Run) → J r → G (record { run = r; mark = m }) b k K) → G q (a ++ b) k K)
    (f : ℕ → Bool) (does : ℕ → List Step) (m : Mark) (J : ℕ → Run → Type 0)
    (acts : (i : ℕ) (r : Run) → i < P.nodes.0 → f i ≡ true → J i r → G (record { run = r; mark = m }) (does i) m (J (suc i)))
    (skips : (i : ℕ) (r : Run) → i < P.nodes.0 → f i ≡ false → J i r → J (suc i) r) where
  pub goes_in_order : (left i : ℕ) → i + left ≡ P.nodes.0 → (r : Run) → J i r → G (record { run = r; mark = m }) (in_order_from f does left i) m (J P.nodes.0)
  unfolding in_order_from
  goes_in_order zero i e r h = let z : i ≡ P.nodes.0 = omega arith in stay r m (J P.nodes.0) (rw z at h)
  goes_in_order (suc left) i e r h =
      on (record { run = r; mark = m }) (cond (f i) (does i) []) (in_order_from f does left (suc i)) m m (J (suc i)) (J P.nodes.0) (one (f i) refl) (goes_in_order left (suc i) (omega arith))
    where
      one : (b : Bool) → f i ≡ b → G (record { run = r; mark = m }) (cond b (does i) []) m (J (suc i))
      one true t = acts i r (omega arith) t h
      one false t = stay r m (J (suc i)) (skips i r (omega arith) t h)
