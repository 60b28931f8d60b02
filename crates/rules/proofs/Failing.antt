-- What a verdict that names a rule says of the rule's sides.
use Prim.Native.Nat.{ℕ, ◌+◌, ◌*◌, ◌-◌, ◌≤◌}
use mathlib.Core.Path.{◌≡◌, refl}
use mathlib.Core.Bool.{Bool, true, false, cond}
use native.Mathlib.Nat.{mul-le-mul_right}
use native.Mathlib.Omega.{arith}
use borrow.Author.Tests.{ltb-false}
use Rattle.laws.proofs.Products.{sub_mul}
use Rattle.rules.specs.declared.Rule.{Rule}
use Rattle.rules.specs.declared.Rule.TheVariants.{One, Two, Three}
use Rattle.rules.specs.declared.Sides.{Sides}
use Rattle.std.specs.Prelude.{None, Some}
use Rattle.rules.specs.Rules.{holds, failed_by}

-- the rule that the verdict names does not hold
pub named : (s : Rule → Sides) (rule : Rule) → failed_by (s One) (s Two) (s Three) ≡ Some rule → (s rule).right ≤ (s rule).left
unfolding failed_by
named s rule h = ltb-false (s rule).left (s rule).right (go (holds (s One)) refl (holds (s Two)) refl (holds (s Three)) refl h)
  where
    go : (a : Bool) → holds (s One) ≡ a → (b : Bool) → holds (s Two) ≡ b → (c : Bool) → holds (s Three) ≡ c
        → cond a (cond b (cond c None (Some Three)) (Some Two)) (Some One) ≡ Some rule → holds (s rule) ≡ false
    go false e b x c y h = let z : One ≡ rule = cc in rw z at e
    go true e false x c y h = let z : Two ≡ rule = cc in rw z at x
    go true e true x false y h = let z : Three ≡ rule = cc in rw z at y
    go true e true x true y h = absurd (let z : ◌≡◌ {A = ℕ} 0 1 = cc in omega arith)

-- each rule that does not hold, without subtraction
module _ (k g min max : ℕ) where
  pub one_fails : (m : ℕ) → 1 ≤ m → 1 ≤ g → g ≤ k → (m * k - 1) * min ≤ (m * k - g) * max → m * k * min + g * max ≤ m * k * max + min
  one_fails m hm h1 hg r =
      let away : 1 * k ≤ m * k = mul-le-mul_right k hm in
      omega (arith, sub_mul (m * k) g max (omega arith), sub_mul (m * k) 1 min (omega arith))

  pub two_fails : (m : ℕ) → g + 2 ≤ k → ((m + 1) * k - g - 2) * min ≤ m * k * max → (m + 1) * k * min ≤ m * k * max + (g + 2) * min
  two_fails m h r =
      let q : (m + 1) * k - g - 2 ≡ (m + 1) * k - (g + 2) = omega arith in
      let r' : ((m + 1) * k - (g + 2)) * min ≤ m * k * max = rw q at r in
      omega (arith, sub_mul ((m + 1) * k) (g + 2) min (omega arith))

  pub three_fails : (t : ℕ) → g + t + 2 ≤ k → (k - g - 1) * min ≤ (k - g - t) * max → k * min + (g + t) * max ≤ k * max + (g + 1) * min
  three_fails t h r =
      let q : k - g - t ≡ k - (g + t) = omega arith in
      let q' : k - g - 1 ≡ k - (g + 1) = omega arith in
      let r' : (k - (g + 1)) * min ≤ (k - (g + t)) * max = rw (q', q) at r in
      omega (arith, sub_mul k (g + t) max (omega arith), sub_mul k (g + 1) min (omega arith))
