-- The end of rule 2's run: node b sends, the fast node stands in b's slot at its last clock, and its next tick leads out of it.
-- Before that tick only those tick that were due when b sent.
use Prim.Native.Nat.{ℕ, ◌+◌, ◌*◌, ◌%◌, ◌≤◌, ◌<◌}
use mathlib.Core.Path.{◌≡◌, sym, ap}
use mathlib.Core.Logic.{◌≢◌}
use mathlib.Core.Bool.{true, false}
use native.Mathlib.Omega.{arith}
use Rattle.laws.proofs.Bools.{clash}
use Rattle.laws.proofs.Same.{at_same}
use Rattle.laws.proofs.Ring.{Reaches, on, round, next_place}
use Rattle.plan.specs.declared.Plan.{Plan}
use Rattle.plan.specs.Sending.{own}
use Rattle.plan.proofs.Sound.{own_in_frame}
use Rattle.run.specs.declared.Mode.TheVariants.{Waiting}
use Rattle.run.specs.declared.NodeState.{NodeState}
use Rattle.run.specs.declared.Run.{Run}
use Rattle.run.specs.State.{node, is_about, is_sending, is_out_of_step}
use Rattle.run.specs.Moves.{node_delayed, delayed, ticked}
use Rattle.run.proofs.Outcomes.{mode_elsewhere, slot_moves}
use Rattle.run.proofs.Nodes.{node_when_delayed, node_still}
use Rattle.run.proofs.Apartness.{tick_apart}
use Rattle.shown.specs.declared.Mark.TheVariants.{After}
use Rattle.shown.specs.declared.Parts.{Parts}
use Rattle.shown.specs.Shown.{due_time}
use Rattle.shown.proofs.Play.{OnTime, SendMove, TickMove, DelayMove}
use Rattle.shows_why.proofs.Progress.{Setting, bump}
use Rattle.shows_why.proofs.FastAndOthers.{FastAndOthers, both_delayed, other_ticked}
use Rattle.shown.proofs.Roles.{FailsTwo}
use Rattle.shows_why.proofs.AfterPivot.{later, due_fast, due_slow, fast_goes_first, later_on_time}

-- node i beside the fast node with the time x: it was due when b sent, or it is not due before the fast node is
pub data Beside (P : Plan) (b x i m : ℕ) (a : NodeState) : Type 0 where
  still_due : i ≢ b → a.time.0 ≡ P.max.0 → a.mode ≡ Waiting → a.slot.0 ≢ own P i → P.guard.0 + m + 1 < P.frame.0 * P.ticks.0 → Beside P b x i m a
  rests : a.time.0 + P.min.0 ≤ x + P.max.0 → is_about a.mode ≡ false → P.guard.0 + m < P.frame.0 * P.ticks.0 → Beside P b x i m a

-- the fast node in the slot s at its last clock
pub record Leaving (P : Plan) (s m : ℕ) (a : NodeState) : Type 0 where
  pub time : a.time.0 ≤ P.min.0
  pub waits : a.mode ≡ Waiting
  pub clock : a.clock.0 + 1 ≡ P.ticks.0
  pub slot : a.slot.0 ≡ s
  pub short : P.guard.0 + m < P.frame.0 * P.ticks.0

-- the node that sends in the slot s
pub record Speaks (s : ℕ) (a : NodeState) : Type 0 where
  pub sends : is_sending a.mode ≡ true
  pub slot : a.slot.0 ≡ s

pub record LastTick (P : Plan) (parts : Parts) (b : ℕ) (r : Run) (m : ℕ → ℕ) : Type 0 where
  pub speaks : Speaks (own P b) (node r b)
  pub places : FastAndOthers P parts (Leaving P (own P b)) (λ j x. Beside P b x.time.0) r m

module _ {P : Plan} {parts : Parts} {b : ℕ} {r : Run} {m : ℕ → ℕ} (G : Setting P parts r) (F : FailsTwo P parts b) (t : LastTick P parts b r m) where
  open G use {roles as R, room}
  open R use {sound as S}
  open t use {speaks, places}

  abbrev f : ℕ
  f = parts.fast.0

  -- what holds of every node, by the fast node and both kinds of others
  by_kind : (A : ℕ → Type 0) → A f → ((i : ℕ) → Beside P b (node r f).time.0 i (m i) (node r i) → A i) → (i : ℕ) → i < P.nodes.0 → A i
  by_kind A fast others i l = at_same A i f fast (λ n. others i (places.others i l n))

  pub last_tick_short : (i : ℕ) → i < P.nodes.0 → P.guard.0 + m i < P.frame.0 * P.ticks.0
  last_tick_short = by_kind (λ i. P.guard.0 + m i < P.frame.0 * P.ticks.0) places.fast.short at
    where
      at : (i : ℕ) → Beside P b (node r f).time.0 i (m i) (node r i) → P.guard.0 + m i < P.frame.0 * P.ticks.0
      at i (still_due n e w s h) = omega arith
      at i (rests e a h) = h

  pub last_tick_on_time : OnTime P parts (later r)
  last_tick_on_time = later_on_time G places.fast.time (λ i l n. at i (places.others i l n))
    where
      at : (i : ℕ) → Beside P b (node r f).time.0 i (m i) (node r i) → (node r i).time.0 ≤ P.max.0
      at i (still_due n e w s h) = omega arith
      at i (rests e a h) = omega (arith, places.fast.time)

  -- nobody is about to send
  pub last_tick_send : (i : ℕ) → SendMove P parts (later r) i → ⊥
  last_tick_send i h = clash (is_about (node r i).mode) h.about (by_kind (λ i. is_about (node r i).mode ≡ false) (ap is_about places.fast.waits) at i h.below)
    where
      at : (i : ℕ) → Beside P b (node r f).time.0 i (m i) (node r i) → is_about (node r i).mode ≡ false
      at i (still_due n e w s l) = ap is_about w
      at i (rests e a l) = a

  -- the fast node's tick
  pub last_tick_out : is_out_of_step P (ticked P f r) ≡ true
  last_tick_out =
      tick_apart P r room f b R.fast_below F.below F.other speaks.sends
      (rw (places.fast.waits, slot_moves P (node r f).clock.0 (node r f).slot.0 places.fast.clock, places.fast.slot, speaks.slot)
      (moves (next_place P.frame.0 (own P b) (own_in_frame P S b F.below))))
    where
      moves : Reaches P.frame.0 (own P b) 1 ((own P b + 1) % P.frame.0) → (own P b + 1) % P.frame.0 ≢ own P b
      moves (on e) = omega arith
      moves (round e) = omega (arith, S.frame_low)

  pub last_tick_other : (i : ℕ) → i ≢ f → TickMove P parts (later r) i → LastTick P parts b (ticked P i r) (bump m i)
  last_tick_other i n h = go (places.others i h.below n)
    where
      go : Beside P b (node r f).time.0 i (m i) (node r i) → LastTick P parts b (ticked P i r) (bump m i)
      go (still_due d e w s l) =
          record {
            speaks = rw (node_still P r i b (λ q. d (sym q))) speaks;
            places = other_ticked G (Leaving P (own P b)) (λ j x. Beside P b x.time.0) m i h.below n
                (rests (omega (arith, S.min_max)) (rw (w, mode_elsewhere P (own P i) (node r i).clock.0 (node r i).slot.0 s)) (omega arith)) places;
          }
      go (rests e a l) = absurd (fast_goes_first P parts r i R.fast_below n h (omega (arith, places.fast.time, h.due, due_slow P parts i n)))

  pub last_tick_delay : (d : ℕ) → DelayMove P parts (later r) d → LastTick P parts b (delayed P d r) m
  last_tick_delay d h =
      let x = places.fast in
      record {
        speaks = rw (node_when_delayed P r d b F.below (omega (arith, F.below))) (record { sends = speaks.sends; slot = speaks.slot });
        places = both_delayed G (Leaving P (own P b)) (λ j x. Beside P b x.time.0) m d
            (record { time = rw (due_fast P parts) at (h.within f R.fast_below); waits = x.waits; clock = x.clock; slot = x.slot; short = x.short })
            (λ i l n. go i n (h.early i l) (places.others i l n));
      }
    where
      go : (i : ℕ) → i ≢ f → (node r i).time.0 < due_time P parts After i → Beside P b (node r f).time.0 i (m i) (node r i)
          → Beside P b ((node r f).time.0 + d) i (m i) (node_delayed d (node r i))
      go i n l (still_due q e w s u) = absurd (omega (arith, due_slow P parts i n))
      go i n l (rests e a u) = rests (omega arith) a u
