-- A tick and a delay of one node keep what the invariant says of it.
use Prim.Native.Nat.{ℕ, ◌+◌, ◌*◌, ◌%◌, ◌≤◌, ◌<◌}
use mathlib.Core.Path.{◌≡◌, refl, sym, ap, subst, ◌∙◌}
use mathlib.Core.Logic.{◌≢◌}
use mathlib.Core.Bool.{Bool, true, false}
use native.Mathlib.Nat.{mul-le-mul_right}
use native.Mathlib.Omega.{arith}
use Rattle.laws.specs.Ring.{distance}
use Rattle.laws.proofs.Bools.{clash}
use Rattle.laws.proofs.Same.{by_same}
use Rattle.laws.proofs.Ring.{distance_same, distance_self}
use Rattle.laws.proofs.Digits.{same_slot, slot_within, slots_some}
use Rattle.plan.specs.declared.Plan.{Plan}
use Rattle.plan.specs.Tested.{Sound}
use Rattle.run.specs.declared.Mode.{Mode}
use Rattle.run.specs.declared.Mode.TheVariants.{Waiting, AboutToSend, Sending}
use Rattle.run.specs.declared.NodeState.{NodeState}
use Rattle.run.specs.State.{is_about}
use Rattle.run.specs.Moves.{node_ticked, node_delayed}
use Rattle.run.specs.Reckoning.{ticks_from}
use Rattle.run.proofs.Ranges.{ticked_within}
use Rattle.run.proofs.TickCases.{ticked_to, Strays, TickTo, heard, goes_round, turns_about, waits_on, sends_on, ends, strays, tick_of, counts_round}
use Rattle.in_step.proofs.Numbers.{live_tick, live_heard, live_delay}
use Rattle.in_step.proofs.Invariant.{Phase, ticks_of, Knows, IfWaiting, IfAbout, Case, hears, waits, about, sends, InPhase, Short, Holds}

-- what holds of a node that is not pending; it counts
pub unheard : {P : Plan} {f : Phase} {y w : ℕ} {a : NodeState} → InPhase P f y w a → a.pending ≡ false → Case P f y w a a.mode false
unheard {P} {f} {y} {w} {a} q e = subst (λ (b : Bool). Case P f y w a a.mode b) e q.here

pub knows : {P : Plan} {f : Phase} {y w : ℕ} {a : NodeState} → InPhase P f y w a → a.pending ≡ false → Knows P f y w a
knows {P} {f} {y} {w} {a} q e = go (unheard q e)
  where
    go : {m : Mode} → Case P f y w a m false → Knows P f y w a
    go (waits v) = v.live
    go (about v) = v.live
    go (sends v) = v.live

-- from p to p there is no slot to count, so a node's ticks there are its clock
pub away_none : (P : Plan) (p s : ℕ) → p < P.frame.0 → s ≡ p → distance P.frame.0 p s ≡ 0
away_none P p s h e = rw e (distance_self P.frame.0 p h)

pub ticks_here : (P : Plan) (p c s : ℕ) → p < P.frame.0 → s ≡ p → ticks_from P p c s ≡ c
ticks_here P p c s h e = rw (away_none P p s h e) (omega arith)

-- the turn of the sender of p is not next
pub not_next : {P : Plan} {f : Phase} → Holds P f → (w : ℕ) → w ≡ f.p → distance P.frame.0 f.p w ≢ f.D
not_next {P} {f} H w e q = omega (arith, away_none P f.p w H.start e, H.one)

module _ {P : Plan} (S : Sound P) {f : Phase} (H : Holds P f) {y w : ℕ} (hw : w < P.frame.0) {a : NodeState} (q : InPhase P f y w a) (ripe : P.min.0 ≤ a.time.0) where
  -- the node's turn comes with the tick that counts to D slots and g ticks
  not_due : (a.slot.0 ≡ w → a.clock.0 + 1 ≢ P.guard.0) → distance P.frame.0 f.p w ≡ f.D → ticks_of P f a + 1 ≢ f.D * P.ticks.0 + P.guard.0
  not_due n e z =
      let d = distance P.frame.0 f.p a.slot.0 in
      let low = S.guard_low in
      let high = S.guard_tail in
      let same : d ≡ f.D = same_slot d f.D P.ticks.0 a.clock.0 (omega arith) q.range.clock (omega arith) in
      let z' : f.D * P.ticks.0 + a.clock.0 + 1 ≡ f.D * P.ticks.0 + P.guard.0 = rw same at z in
      n (distance_same P.frame.0 f.p a.slot.0 w H.start q.range.slot hw (same ∙ sym e)) (omega arith)

  -- a tick counts one more
  counted : (c s : ℕ) (m : Mode) → ticks_from P f.p c s ≡ ticks_of P f a + 1 → Knows P f y w a → Knows P f y w (ticked_to c s m)
  counted c s m e l = rw e (live_tick ripe q.range.time l)

  -- a counted tick that stays waiting
  stays_waiting : (c s : ℕ) → ticks_from P f.p c s ≡ ticks_of P f a + 1 → (distance P.frame.0 f.p w ≡ f.D → ticks_of P f a + 1 ≢ f.D * P.ticks.0 + P.guard.0)
      → IfWaiting P f y w a → IfWaiting P f y w (ticked_to c s Waiting)
  stays_waiting c s e n v =
      record { live = counted c s Waiting e v.live; before = λ d. rw e (let b = v.before d in let m = n d in omega arith) }

  -- a tick that makes the node about to send: its slot lies ahead of p, and no farther than D
  turns : a.slot.0 ≡ w → a.clock.0 + 1 ≡ P.guard.0 → Short P f f.D a → IfWaiting P f y w a → IfAbout P f y w (ticked_to (a.clock.0 + 1) a.slot.0 AboutToSend)
  turns e t short v =
      let d = distance P.frame.0 f.p a.slot.0 in
      record {
        live = counted (a.clock.0 + 1) a.slot.0 AboutToSend (omega arith) v.live;
        ahead = rw e at (by_same {A = 1 ≤ d} d 0 (λ z.
            let u : f.lead w ≤ 0 * P.ticks.0 + a.clock.0 = rw z at v.live.above in
            absurd (omega (arith, H.early, H.lead_low w))) (λ z. omega arith));
        within = rw e at (slot_within d f.D P.ticks.0 (a.clock.0 + 1) (omega arith));
        place = e;
        turn = t;
        zero = refl;
      }

  -- a tick keeps a node in its phase, where it does not carry its count past slot D
  pub tick_keeps : (a.pending ≡ false → Short P f f.D a) → InPhase P f y w (node_ticked P w a)
  tick_keeps short = record { range = ticked_within P S w a q.range; here = go (tick_of P S w a q.range.clock) short q.here }
    where
      stray : {m : Mode} {b : Bool} → Case P f y w a m b → Strays P w a.clock.0 a.slot.0 m b → ⊥
      stray (hears v) h = v.other (sym (h (omega (arith, v.early))) ∙ v.place)
      stray (waits v) h = h
      stray (about v) h = omega (arith, v.zero, S.min_low)
      stray (sends v) h = omega (arith, v.high, S.tail_low)

      go : {m : Mode} {b : Bool} {n : NodeState} → TickTo P w a.clock.0 a.slot.0 m b n → (b ≡ false → Short P f f.D a) → Case P f y w a m b → Case P f y w n n.mode n.pending
      go (heard d l) short (hears v) =
          let u = ticks_here P f.p (P.guard.0 + 1) a.slot.0 H.start v.place in
          let some = slots_some f.D P.ticks.0 H.one in
          waits (record { live = live_heard v.leads (u ∙ ap (λ (n : ℕ). n + 1) (sym v.message)) v.time q.range.time; before = λ e. omega (arith, S.ticks_low) })
      go (goes_round e) short (waits v) =
          let z = short refl in
          let gap : (f.D + 1) * P.ticks.0 ≤ P.frame.0 * P.ticks.0 = mul-le-mul_right P.ticks.0 (omega (arith, H.gap)) in
          let round = counts_round P f.p a.clock.0 a.slot.0 H.start q.range.slot e (omega arith) in
          waits (stays_waiting 0 ((a.slot.0 + 1) % P.frame.0) round (not_due (λ d. omega (arith, S.guard_tail))) v)
      go (turns_about e t) short (waits v) = about (turns e t (short refl) v)
      go (waits_on l n) short (waits v) = waits (stays_waiting (a.clock.0 + 1) a.slot.0 (omega arith) (not_due n) v)
      go (sends_on l n) short (sends v) =
          let live = counted (a.clock.0 + 1) a.slot.0 Sending (omega arith) v.live in
          sends (record { live = live; message = v.message; mine = v.mine; place = v.place; low = omega (arith, v.low); high = omega (arith, v.high) })
      go (ends e) short (sends v) =
          waits (record { live = counted (a.clock.0 + 1) a.slot.0 Waiting (omega arith) v.live; before = λ d. absurd (not_next H w v.mine d) })
      go (strays m b h) short v = absurd (stray v h)

-- so does a delay, of a node that is not about to send
pub delay_keeps : {P : Plan} {f : Phase} {y w : ℕ} {a : NodeState} (d : ℕ) → is_about a.mode ≡ false → a.time.0 + d ≤ P.max.0 → InPhase P f y w a → InPhase P f (y + d) w (node_delayed d a)
delay_keeps {P} {f} {y} {w} {a} d n h q = record { range = record { clock = q.range.clock; slot = q.range.slot; time = h }; here = go n q.here }
  where
    go : {m : Mode} {b : Bool} → is_about m ≡ false → Case P f y w a m b → Case P f (y + d) w (node_delayed d a) m b
    go n (hears v) = hears (record { message = v.message; leads = v.leads; place = v.place; early = v.early; time = omega (arith, v.time); other = v.other })
    go n (waits v) = waits (record { live = live_delay d v.live; before = v.before })
    go n (about v) = clash true refl n
    go n (sends v) = sends (record { live = live_delay d v.live; message = v.message; mine = v.mine; place = v.place; low = v.low; high = v.high })
