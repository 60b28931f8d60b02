-- Facts on numbers that the proof stands on: what rules 1 to 3 say of ticks counted and time gone by. No node, no slot, no plan.
-- u counts a node's ticks since a slot began, x is the time since its last tick, y the time since the last message;
-- e is the ticks to the slot of a sender, whose turn comes g ticks later.
use Prim.Native.Nat.{ℕ, ◌+◌, ◌*◌, ◌-◌, ◌≤◌, ◌<◌}
use mathlib.Core.Path.{◌≡◌}
use mathlib.Core.Logic.{◌≢◌}
use native.Mathlib.Nat.{mul-le-mul_right, lt_of_mul-lt-mul_right}
use native.Mathlib.Omega.{arith}
use Rattle.laws.proofs.Products.{sub_mul}
use Rattle.rules.proofs.Distances.{Rule1, Rule2, Rule3}

-- A count u bounds y from both sides: from o on for the most, from the lead l on for the least.
pub record Live (min max o l u y x : ℕ) : Type 0 where
  pub above : l ≤ u
  pub most : y + o * max ≤ u * max + x
  pub least : u * min + x ≤ y + l * min

module _ {min max : ℕ} where
  -- as a phase begins
  pub live_start : {o l u x : ℕ} → l ≡ o → u ≡ o → x ≡ 0 → Live min max o l u 0 x
  live_start {o} e q z = rw (e, q, z) (record { above = omega arith; most = omega arith; least = omega arith })

  pub live_tick : {o l u y x : ℕ} → min ≤ x → x ≤ max → Live min max o l u y x → Live min max o l (u + 1) y 0
  live_tick h m v = record { above = omega arith; most = omega arith; least = omega arith }

  pub live_delay : {o l u y x : ℕ} (d : ℕ) → Live min max o l u y x → Live min max o l u (y + d) (x + d)
  live_delay d v = record { above = v.above; most = omega arith; least = omega arith }

  -- a message at o, heard, is one tick gone at the next tick
  pub live_heard : {o l u y x : ℕ} → l ≡ o + 1 → u ≡ o + 1 → y ≤ x → x ≤ max → Live min max o l u y 0
  live_heard {o} {l} {u} {y} {x} e q h m = rw (e, q) (record { above = omega arith; most = omega arith; least = omega arith })

  -- u − o ticks, reckoned, bound the time from both sides
  pub live_most : {o l u y x : ℕ} (n : ℕ) → n ≡ u - o → o ≤ u → Live min max o l u y x → y ≤ n * max + x
  live_most {o} {u = u} n e h v = rw e (omega (arith, sub_mul u o max h, v.most))

  pub live_least : {o l u y x : ℕ} (n : ℕ) → n ≡ u - o → l ≤ o + 1 → Live min max o l u y x → n ≢ 0 → (n - 1) * min + x ≤ y
  live_least {o} {l} {u} n e h v z =
      let p : l * min ≤ (o + 1) * min = mul-le-mul_right min h in
      let q : n - 1 ≡ u - (o + 1) = omega arith in
      rw q (omega (arith, sub_mul u (o + 1) min (omega arith), v.least))

-- the rules, over a count u with x ≤ max

module _ (min max : ℕ) where
  -- a count that has not reached e + g: so much time has not gone by either
  pub not_yet : (o u y x e g : ℕ) → u < e + g → x ≤ max → y + o * max ≤ u * max + x → y + o * max ≤ (e + g) * max
  not_yet o u y x e g h m v =
      let q : (u + 1) * max ≤ (e + g) * max = mul-le-mul_right max (omega arith) in
      omega arith

  -- rule 1: at the turn at e every count has come to the first tick of that slot
  pub rule1_brings : (o l u y x e g : ℕ) → Rule1 e o g min max → l ≤ o + 1 → (e + g) * min ≤ y + l * min → x ≤ max → y + o * max ≤ u * max + x → e ≤ u
  rule1_brings o l u y x e g r h a m v =
      let q : l * min ≤ (o + 1) * min = mul-le-mul_right min h in
      let b : e < u + 1 = lt_of_mul-lt-mul_right max (omega arith) in
      omega arith

  -- rule 2: up to the turn at e no count has come to the last tick of that slot
  pub rule2_keeps : {o l u y x : ℕ} (z e k g : ℕ) → Live min max o l u y x → Rule2 z e o k g min max → l + 1 ≤ o + z → y + o * max ≤ (e + g) * max → u + 1 < e + k
  rule2_keeps {o} {l} z e k g v r h a =
      let q : (l + 1) * min ≤ (o + z) * min = mul-le-mul_right min h in
      lt_of_mul-lt-mul_right min (omega arith)

  -- rule 3: while a sender's clock c has more than t ticks to go, no count has come to the end of the slot
  pub rule3_keeps : {l u y x x' c l' g : ℕ} (k t : ℕ) → Live min max g l u y x → Live min max g l' c y x' → Rule3 k g t min max → l ≤ g + 1 → c + t + 1 ≤ k → x' ≤ max → u < k
  rule3_keeps {l} {c = c} {g = g} k t v v' r h h' m =
      let q : (c + t + 1) * max ≤ k * max = mul-le-mul_right max h' in
      let q' : l * min ≤ (g + 1) * min = mul-le-mul_right min h in
      lt_of_mul-lt-mul_right min (omega arith)
