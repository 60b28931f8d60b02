-- What the parts of a shown run are like, and how a rule fails, as facts on numbers.
use Prim.Native.Nat.{ℕ, ◌+◌, ◌*◌, ◌≤◌, ◌<◌}
use mathlib.Core.Path.{◌≡◌, sym, ap, ◌∙◌}
use mathlib.Core.Logic.{◌≢◌}
use native.Mathlib.Nat.{mul-le-mul_right}
use native.Mathlib.Omega.{arith}
use Rattle.laws.specs.Ring.{distance}
use Rattle.laws.proofs.Same.{by_same}
use Rattle.laws.proofs.Ring.{distance_same, distance_self, distance_below}
use Rattle.plan.specs.declared.Plan.{Plan}
use Rattle.plan.specs.Sending.{own}
use Rattle.plan.specs.Tested.{Sound}
use Rattle.plan.proofs.Sound.{own_in_frame}
use Rattle.shown.specs.declared.Parts.{Parts}

-- the first g ticks of a slot of the frame fit into the frame
pub slot_fits : {P : Plan} → Sound P → (s : ℕ) → s < P.frame.0 → s * P.ticks.0 + P.guard.0 < P.frame.0 * P.ticks.0
slot_fits {P} S s h =
    let next : s + 1 ≤ P.frame.0 = omega arith in
    let z : (s + 1) * P.ticks.0 ≤ P.frame.0 * P.ticks.0 = mul-le-mul_right P.ticks.0 next in
    omega (arith, S.guard_tail)

-- a sound plan, and parts in which the sender of p sends in p, and the fast node doesn't
pub record Roles (P : Plan) (parts : Parts) : Type 0 where
  pub sound : Sound P
  pub sender_below : parts.sender.0 < P.nodes.0
  pub sender_own : own P parts.sender.0 ≡ parts.p.0
  pub fast_below : parts.fast.0 < P.nodes.0
  pub fast_away : own P parts.fast.0 ≢ parts.p.0

-- the number of slots from p to node i's own
abbrev pub far_of : Plan → Parts → ℕ → ℕ
far_of P parts i = distance P.frame.0 parts.p.0 (own P i)

-- rule 1 fails at the distance of the fast node, and nobody sends nearer to p
pub record FailsOne (P : Plan) (parts : Parts) : Type 0 where
  pub near : (j : ℕ) → j < P.nodes.0 → own P j ≢ parts.p.0 → far_of P parts parts.fast.0 ≤ far_of P parts j
  pub rule : far_of P parts parts.fast.0 * P.ticks.0 * P.min.0 + P.guard.0 * P.max.0 ≤ far_of P parts parts.fast.0 * P.ticks.0 * P.max.0 + P.min.0

-- rule 2 fails at the distance of node b, another than the fast one, and nobody sends nearer to p
pub record FailsTwo (P : Plan) (parts : Parts) (b : ℕ) : Type 0 where
  pub below : b < P.nodes.0
  pub away : own P b ≢ parts.p.0
  pub other : b ≢ parts.fast.0
  pub near : (j : ℕ) → j < P.nodes.0 → own P j ≢ parts.p.0 → far_of P parts b ≤ far_of P parts j
  pub rule : (far_of P parts b + 1) * P.ticks.0 * P.min.0 ≤ far_of P parts b * P.ticks.0 * P.max.0 + (P.guard.0 + 2) * P.min.0

-- rule 3 fails
pub record FailsThree (P : Plan) : Type 0 where
  pub rule : P.ticks.0 * P.min.0 + (P.guard.0 + P.tail.0) * P.max.0 ≤ P.ticks.0 * P.max.0 + (P.guard.0 + 1) * P.min.0

pub data Failure (P : Plan) (parts : Parts) : Type 0 where
  one : FailsOne P parts → Failure P parts
  two : (b : ℕ) → FailsTwo P parts b → Failure P parts
  three : FailsThree P → Failure P parts

module _ {P : Plan} {parts : Parts} (R : Roles P parts) where
  open R use {sound as S}

  pub pivot_in_frame : parts.p.0 < P.frame.0
  pivot_in_frame = rw R.sender_own at (own_in_frame P S parts.sender.0 R.sender_below)

  pub sender_not_fast : parts.sender.0 ≢ parts.fast.0
  sender_not_fast e = R.fast_away (rw e at R.sender_own)

  -- two nodes as far from p as one another are one node
  pub far_same : (i j : ℕ) → i < P.nodes.0 → j < P.nodes.0 → far_of P parts i ≡ far_of P parts j → i ≡ j
  far_same i j hi hj e =
      S.own_apart i j hi hj (distance_same P.frame.0 parts.p.0 (own P i) (own P j) pivot_in_frame (own_in_frame P S i hi) (own_in_frame P S j hj) e)

  -- who sends in p sends no slot away from it, and who doesn't a slot or more
  pub far_none : (i : ℕ) → own P i ≡ parts.p.0 → far_of P parts i ≡ 0
  far_none i e = rw e (distance_self P.frame.0 parts.p.0 pivot_in_frame)

  pub far_away : (i : ℕ) → i < P.nodes.0 → own P i ≢ parts.p.0 → 1 ≤ far_of P parts i
  far_away i l n =
      by_same (far_of P parts i) 0
      (λ e. absurd (n (ap (own P) (far_same i parts.sender.0 l R.sender_below (e ∙ sym (far_none parts.sender.0 R.sender_own))) ∙ R.sender_own))) (λ e. omega arith)

  -- the ticks to g of its own slot are fewer than a frame's
  pub far_fits : (i : ℕ) → far_of P parts i * P.ticks.0 + P.guard.0 < P.frame.0 * P.ticks.0
  far_fits i = slot_fits S (far_of P parts i) (distance_below P.frame.0 parts.p.0 (own P i) (omega (arith, S.frame_low)))
