-- Two nodes at one moment: what the invariant gives in any state, without induction. One of them is the node whose turn is next, is about
-- to send or is sending, the other is any node.
use Prim.Native.Nat.{ℕ, ◌+◌, ◌*◌, ◌≤◌, ◌<◌}
use mathlib.Core.Path.{◌≡◌, refl, sym, ◌∙◌}
use mathlib.Core.Logic.{◌≢◌}
use mathlib.Core.Bool.{Bool, false}
use native.Mathlib.Omega.{arith}
use Rattle.laws.specs.Ring.{distance}
use Rattle.laws.proofs.Same.{by_same}
use Rattle.laws.proofs.Ring.{distance_same, distance_self}
use Rattle.laws.proofs.Digits.{same_slot, slots_some}
use Rattle.plan.specs.declared.Plan.{Plan}
use Rattle.plan.specs.Sending.{own}
use Rattle.plan.specs.Tested.{Sound}
use Rattle.run.specs.declared.Mode.{Mode}
use Rattle.run.specs.declared.NodeState.{NodeState}
use Rattle.in_step.proofs.Numbers.{Live, not_yet, rule1_brings, rule2_keeps, rule3_keeps}
use Rattle.in_step.proofs.Invariant.{Phase, ticks_of, Knows, IfAbout, IfSending, Case, hears, waits, about, sends, InPhase, Short, Holds}
use Rattle.in_step.proofs.OneNode.{unheard, knows, ticks_here, not_next}

-- Node m's turn, at the distance d: it is the next, or node m is about to send. No more time has gone by than the ticks to it can take.
pub record Turn (P : Plan) (f : Phase) (y m d : ℕ) : Type 0 where
  pub below : m < P.nodes.0
  pub away : distance P.frame.0 f.p (own P m) ≡ d
  pub ahead : 1 ≤ d
  pub within : d ≤ f.D
  pub most : y + f.o * P.max.0 ≤ (d * P.ticks.0 + P.guard.0) * P.max.0

-- A node in slot w, nothing pending, two ticks or more before the slot's end.
pub record Gathered (P : Plan) (w : ℕ) (a : NodeState) : Type 0 where
  pub quiet : a.pending ≡ false
  pub place : a.slot.0 ≡ w
  pub early : a.clock.0 + 2 ≤ P.ticks.0

module _ {P : Plan} (S : Sound P) {f : Phase} (H : Holds P f) {y : ℕ} where
  -- a node about to send has counted to its turn
  about_live : {w : ℕ} {a : NodeState} → IfAbout P f y w a → Live P.min.0 P.max.0 f.o (f.lead w) (distance P.frame.0 f.p w * P.ticks.0 + P.guard.0) y 0
  about_live v = rw (v.place, v.turn, v.zero) at v.live

  pub due_turn : (m : ℕ) {a : NodeState} → m < P.nodes.0 → distance P.frame.0 f.p (own P m) ≡ f.D → InPhase P f y (own P m) a → Turn P f y m f.D
  due_turn m {a} h e q = record { below = h; away = e; ahead = H.one; within = omega arith; most = go q.here }
    where
      by : (u : ℕ) → u < f.D * P.ticks.0 + P.guard.0 → y + f.o * P.max.0 ≤ u * P.max.0 + a.time.0 → y + f.o * P.max.0 ≤ (f.D * P.ticks.0 + P.guard.0) * P.max.0
      by u l v = not_yet P.min.0 P.max.0 f.o u y a.time.0 (f.D * P.ticks.0) P.guard.0 l q.range.time v

      go : {n : Mode} {b : Bool} → Case P f y (own P m) a n b → y + f.o * P.max.0 ≤ (f.D * P.ticks.0 + P.guard.0) * P.max.0
      go (hears v) =
          let some = slots_some f.D P.ticks.0 H.one in
          by f.o (omega (arith, v.message, S.ticks_low)) (omega (arith, v.time))
      go (waits v) = by (ticks_of P f a) (v.before e) v.live.most
      go (about v) = let l = rw e at (about_live v) in omega (arith, l.most)
      go (sends v) = absurd (not_next H (own P m) v.mine e)

  about_turn : (m : ℕ) {a : NodeState} → m < P.nodes.0 → IfAbout P f y (own P m) a → Turn P f y m (distance P.frame.0 f.p (own P m))
  about_turn m h v =
      let l = about_live v in
      record { below = h; away = refl; ahead = v.ahead; within = v.within; most = omega (arith, l.most) }

  -- up to a turn every other node that counts is short of the last tick of that slot
  others_short : (i m d : ℕ) {a : NodeState} → i < P.nodes.0 → i ≢ m → Turn P f y m d → InPhase P f y (own P i) a → a.pending ≡ false → Short P f d a
  others_short i m d h n t q e =
      let ahead : 1 ≤ distance P.frame.0 f.p (own P m) = omega (arith, t.away, t.ahead) in
      rule2_keeps P.min.0 P.max.0 f.z (d * P.ticks.0) P.ticks.0 P.guard.0 (knows q e) (H.rule2 d t.within) (H.spared i m h t.below n ahead) t.most

  -- and so is the node whose turn is next
  due_short : (w : ℕ) {a : NodeState} → distance P.frame.0 f.p w ≡ f.D → InPhase P f y w a → a.pending ≡ false → Short P f f.D a
  due_short w {a} e q z = go (unheard q z)
    where
      go : {m : Mode} → Case P f y w a m false → Short P f f.D a
      go (waits v) = omega (arith, v.before e, S.guard_tail)
      go (about v) =
          let u : ticks_of P f a ≡ f.D * P.ticks.0 + P.guard.0 = rw (v.place, v.turn, e) in
          omega (arith, S.guard_tail)
      go (sends v) = absurd (not_next H w v.mine e)

  -- so no tick carries a node's count past slot D
  pub all_short : (i m : ℕ) {a : NodeState} → i < P.nodes.0 → Turn P f y m f.D → InPhase P f y (own P i) a → a.pending ≡ false → Short P f f.D a
  all_short i m h t q e = by_same i m (λ s. due_short (own P i) (rw s t.away) q e) (λ n. others_short i m f.D h n t q e)

  -- while a node a is sending, every node is in its slot
  pub all_here : {w w' : ℕ} {a b : NodeState} → a.time.0 ≤ P.max.0 → IfSending P f y w a → InPhase P f y w' b → b.slot.0 ≡ f.p
  all_here {w} {w'} {a} {b} hx v q = go q.here
    where
      counts : Knows P f y w' b → b.slot.0 ≡ f.p
      counts k =
          let l : Live P.min.0 P.max.0 P.guard.0 (f.lead w) a.clock.0 y a.time.0 = rw (v.message, ticks_here P f.p a.clock.0 a.slot.0 H.start v.place) at v.live in
          let l' : Live P.min.0 P.max.0 P.guard.0 (f.lead w') (ticks_of P f b) y b.time.0 = rw v.message at k in
          let u = rule3_keeps P.min.0 P.max.0 P.ticks.0 P.tail.0 l' l H.rule3 (omega (arith, v.message, H.lead_high w')) v.high hx in
          let none = same_slot (distance P.frame.0 f.p b.slot.0) 0 P.ticks.0 b.clock.0 (omega arith) q.range.clock (omega arith) in
          distance_same P.frame.0 f.p b.slot.0 f.p H.start q.range.slot H.start (none ∙ sym (distance_self P.frame.0 f.p H.start))

      go : {m : Mode} {p : Bool} → Case P f y w' b m p → b.slot.0 ≡ f.p
      go (hears h) = h.place
      go (waits h) = counts h.live
      go (about h) = counts h.live
      go (sends h) = h.place

  -- while node m is about to send, no other node is pending, and all are in its slot, two ticks or more before the end
  pub gathered : (i m : ℕ) {a b : NodeState} → i < P.nodes.0 → m < P.nodes.0 → i ≢ m → own P m < P.frame.0 → IfAbout P f y (own P m) a → InPhase P f y (own P i) b
      → Gathered P (own P m) b
  gathered i m {a} {b} hi hm n hw v q = go refl q.here
    where
      d : ℕ
      d = distance P.frame.0 f.p (own P m)

      brings : (u : ℕ) → y + f.o * P.max.0 ≤ u * P.max.0 + b.time.0 → d * P.ticks.0 ≤ u
      brings u h =
          let l = about_live v in
          rule1_brings P.min.0 P.max.0 f.o (f.lead (own P m)) u y b.time.0 (d * P.ticks.0) P.guard.0 (H.rule1 d v.within) (H.lead_high (own P m)) (omega (arith, l.least)) q.range.time h

      counts : b.pending ≡ false → Gathered P (own P m) b
      counts e =
          let u = brings (ticks_of P f b) (knows q e).most in
          let short = others_short i m d hi n (about_turn m hm v) q e in
          let same = same_slot (distance P.frame.0 f.p b.slot.0) d P.ticks.0 b.clock.0 u q.range.clock (omega arith) in
          let short' : d * P.ticks.0 + b.clock.0 + 1 < d * P.ticks.0 + P.ticks.0 = rw same at short in
          record { quiet = e; place = distance_same P.frame.0 f.p b.slot.0 (own P m) H.start q.range.slot hw same; early = omega arith }

      go : {c : Mode} {p : Bool} → b.pending ≡ p → Case P f y (own P i) b c p → Gathered P (own P m) b
      go e (hears h) =
          let u = brings f.o (omega (arith, h.time)) in
          let some = slots_some d P.ticks.0 v.ahead in
          absurd (omega (arith, h.message, S.guard_tail))
      go e (waits h) = counts e
      go e (about h) = counts e
      go e (sends h) = counts e
