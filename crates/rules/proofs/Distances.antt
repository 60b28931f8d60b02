-- The rules without subtraction, and at every distance: a rule that holds at M holds at every smaller distance d and for every
-- offset o from g on, since (M − d)·k0 + (o − g) ticks take no longer at min than at max.
use Prim.Native.Nat.{ℕ, zero, suc, ◌+◌, ◌*◌, ◌-◌, ◌≤◌, ◌<◌}
use mathlib.Core.Path.{◌≡◌, refl}
use mathlib.Core.Bool.{Bool, true, false, cond}
use native.Mathlib.Nat.{le_trans, le-add_left, mul-le-mul_left, mul-le-mul_right}
use native.Mathlib.Omega.{arith}
use borrow.Author.Tests.{ltb-true, le-ltb}
use Rattle.laws.proofs.Products.{sub_mul}
use Rattle.plan.specs.declared.Plan.{Plan}
use Rattle.plan.specs.Tested.{Sound}
use Rattle.gap.specs.Gap.{gap_of}
use Rattle.rules.specs.declared.Rule.TheVariants.{One, Two, Three}
use Rattle.std.specs.Prelude.{None, Some}
use Rattle.rules.specs.Rules.{sides_at, holds, failed_by, verdict_at, verdict_of}

-- The rules as sums, e ticks away (d·k0 at the distance d) and for the offset o. z is what rule 2 takes away besides g.
abbrev pub Rule1 : (e o g min max : ℕ) → Type 0
Rule1 e o g min max = e * max + (o + 1) * min < (e + g) * min + o * max

abbrev pub Rule2 : (z e o k g min max : ℕ) → Type 0
Rule2 z e o k g min max = (e + g) * max + (o + z) * min < (e + k) * min + o * max

abbrev pub Rule3 : (k g t min max : ℕ) → Type 0
Rule3 k g t min max = k * max + (g + 1) * min < k * min + (g + t) * max

-- from the rules' own form at the distance m, a lemma each

module _ (k g min max : ℕ) where
  -- a rule 1 that holds is asked at some distance
  rule1_away : (m : ℕ) → (m * k - g) * max < (m * k - 1) * min → k ≤ m * k
  rule1_away zero r =
      let q : 0 * k - 1 ≡ 0 = omega arith in
      let r' : (0 * k - g) * max < 0 * min = rw q at r in
      absurd (omega arith)
  rule1_away (suc m) r = let q : 1 * k ≤ suc m * k = mul-le-mul_right k (omega arith) in omega arith

  pub rule1_sum : (m : ℕ) → 1 ≤ g → g ≤ k → (m * k - g) * max < (m * k - 1) * min → Rule1 (m * k) g g min max
  rule1_sum m h1 hg r =
      let away = rule1_away m r in
      omega (arith, sub_mul (m * k) g max (le_trans hg away), sub_mul (m * k) 1 min (le_trans h1 (le_trans hg away)))

  pub rule2_sum : (z m : ℕ) → g + z ≤ k → m * k * max < ((m + 1) * k - g - z) * min → Rule2 z (m * k) g k g min max
  rule2_sum z m h r =
      let q : (m + 1) * k - g - z ≡ m * k + k - (g + z) = omega arith in
      let r' : m * k * max < (m * k + k - (g + z)) * min = rw q at r in
      omega (arith, sub_mul (m * k + k) (g + z) min (le_trans h (le-add_left k (m * k))))

  pub rule3_sum : (t : ℕ) → g + t ≤ k → g + 1 ≤ k → (k - g - t) * max < (k - g - 1) * min → Rule3 k g t min max
  rule3_sum t ht h1 r =
      let q : k - g - t ≡ k - (g + t) = omega arith in
      let q' : k - g - 1 ≡ k - (g + 1) = omega arith in
      let r' : (k - (g + t)) * max < (k - (g + 1)) * min = rw (q, q') at r in
      omega (arith, sub_mul k (g + t) max ht, sub_mul k (g + 1) min h1)

  -- the one comparison of products: what b has more than a takes no longer at min than at max
  shorter : (a b : ℕ) → a ≤ b → min ≤ max → b * min + a * max ≤ b * max + a * min
  shorter a b h m =
      let more : (b - a) * min ≤ (b - a) * max = mul-le-mul_left (b - a) m in
      omega (arith, sub_mul b a min h, sub_mul b a max h)

  pub rule1_down : (e e' o : ℕ) → e ≤ e' → g ≤ o → min ≤ max → Rule1 e' g g min max → Rule1 e o g min max
  rule1_down e e' o he ho m r = omega (arith, shorter (e + g) (e' + o) (omega arith) m)

  pub rule2_down : (z e e' o : ℕ) → e ≤ e' → g ≤ o → min ≤ max → Rule2 z e' g k g min max → Rule2 z e o k g min max
  rule2_down z e e' o he ho m r = omega (arith, shorter (e + g) (e' + o) (omega arith) m)

  -- with g = 1 both sides of rule 1 have the same ticks
  rule1_even : (m : ℕ) → g ≡ 1 → min ≤ max → (m * k - 1) * min ≤ (m * k - g) * max
  rule1_even m e h = rw e (mul-le-mul_left (m * k - 1) h)

-- the verdict

-- What an accepted plan gives at every distance.
pub record RulesHold (P : Plan) : Type 0 where
  pub rule1 : (d o : ℕ) → d ≤ gap_of P → P.guard.0 ≤ o → Rule1 (d * P.ticks.0) o P.guard.0 P.min.0 P.max.0
  pub rule2 : (d o : ℕ) → d ≤ gap_of P → P.guard.0 ≤ o → Rule2 2 (d * P.ticks.0) o P.ticks.0 P.guard.0 P.min.0 P.max.0
  pub rule3 : Rule3 P.ticks.0 P.guard.0 P.tail.0 P.min.0 P.max.0

record AllHold (one two three : Bool) : Type 0 where
  pub first : one ≡ true
  pub second : two ≡ true
  pub third : three ≡ true

all_hold : (one two three : Bool) → cond one (cond two (cond three None (Some Three)) (Some Two)) (Some One) ≡ None → AllHold one two three
all_hold true true true h = record { first = refl; second = refl; third = refl }
all_hold true true false h = absurd (let z : ◌≡◌ {A = ℕ} 0 1 = cc in omega arith)
all_hold true false three h = absurd (let z : ◌≡◌ {A = ℕ} 0 1 = cc in omega arith)
all_hold false two three h = absurd (let z : ◌≡◌ {A = ℕ} 0 1 = cc in omega arith)

module _ (P : Plan) (s : Sound P) where
  pub rules_hold : (verdict_of P).failed ≡ None → RulesHold P
  unfolding verdict_of verdict_at failed_by sides_at
  rules_hold h =
      let M = gap_of P in
      let k = P.ticks.0 in
      let g = P.guard.0 in
      let min = P.min.0 in
      let max = P.max.0 in
      let all = all_hold (holds (sides_at P M One)) (holds (sides_at P M Two)) (holds (sides_at P M Three)) h in
      let one = rule1_sum k g min max M s.guard_low (omega (arith, s.guard_tail)) (ltb-true ((M * k - g) * max) ((M * k - 1) * min) all.first) in
      let two = rule2_sum k g min max 2 M (omega (arith, s.guard_tail)) (ltb-true (M * k * max) (((M + 1) * k - g - 2) * min) all.second) in
      record {
        rule1 = λ d o hd ho. rule1_down k g min max (d * k) (M * k) o (mul-le-mul_right k hd) ho s.min_max one;
        rule2 = λ d o hd ho. rule2_down k g min max 2 (d * k) (M * k) o (mul-le-mul_right k hd) ho s.min_max two;
        rule3 =
            rule3_sum k g min max P.tail.0 (omega (arith, s.guard_tail)) (omega (arith, s.guard_tail))
            (ltb-true ((k - g - P.tail.0) * max) ((k - g - 1) * min) all.third);
      }

  -- every plan with g = 1 fails rule 1
  pub guard_1_fails : P.guard.0 ≡ 1 → (verdict_of P).failed ≡ Some One
  unfolding verdict_of verdict_at failed_by sides_at
  guard_1_fails e =
      let M = gap_of P in
      let k = P.ticks.0 in
      let g = P.guard.0 in
      let min = P.min.0 in
      let max = P.max.0 in
      rw (le-ltb ((M * k - g) * max) ((M * k - 1) * min) (rule1_even k g min max M e s.min_max))
