-- The one invariant of a legal run of an accepted plan. The time before the first message is one more phase, as if a message had been
-- sent in slot C − 1 and were counted from the end of that slot. Every bound is a sum, and every place a distance from the phase's slot p.
use Prim.Native.Nat.{ℕ, ◌+◌, ◌*◌, ◌-◌, ◌≤◌, ◌<◌}
use mathlib.Core.Path.{◌≡◌}
use mathlib.Core.Logic.{◌≢◌}
use mathlib.Core.Bool.{Bool, true, false, cond}
use lib.ListN.{length}
use lib.Dec.{eqb}
use Rattle.std.specs.Prelude.{Option, None, Some}
use Rattle.laws.specs.Ring.{distance}
use Rattle.plan.specs.declared.Plan.{Plan}
use Rattle.plan.specs.declared.Slot.{Slot}
use Rattle.plan.specs.Sending.{own}
use Rattle.plan.proofs.Sound.{Sender}
use Rattle.gap.proofs.Facts.{slots_to_next, NextAt}
use Rattle.rules.proofs.Distances.{Rule1, Rule2, Rule3}
use Rattle.run.specs.declared.Mode.{Mode}
use Rattle.run.specs.declared.Mode.TheVariants.{Waiting, AboutToSend, Sending}
use Rattle.run.specs.declared.NodeState.{NodeState}
use Rattle.run.specs.declared.Run.{Run}
use Rattle.run.specs.State.{node}
use Rattle.run.specs.Reckoning.{ticks_from}
use Rattle.run.proofs.Ranges.{NodeWithin}
use Rattle.in_step.proofs.Numbers.{Live}

-- The numbers of a phase.
pub record Phase : Type 0 where
  -- the slot that distances are counted from
  pub p : ℕ
  -- the ticks after the beginning of p at which the phase began
  pub o : ℕ
  -- the number of slots from p to the next sending slot
  pub D : ℕ
  -- the ticks after the beginning of p that the sender of slot w counts as gone when the phase begins
  pub lead : ℕ → ℕ
  -- what rule 2 takes away besides g
  pub z : ℕ

abbrev pub phase_of : Plan → Option Slot → Phase
phase_of P (Some q) =
    record {
      p = q.0;
      o = P.guard.0;
      D = slots_to_next P q.0;
      lead = λ w. cond (eqb w q.0) P.guard.0 (P.guard.0 + 1);
      z = 2;
    }
phase_of P None =
    record {
      p = P.frame.0 - 1;
      o = P.ticks.0;
      D = slots_to_next P (P.frame.0 - 1);
      lead = λ w. P.ticks.0;
      z = 2;
    }

-- A node's ticks since the beginning of slot p.
abbrev pub ticks_of : Plan → Phase → NodeState → ℕ
ticks_of P f a = ticks_from P f.p a.clock.0 a.slot.0

-- A node a in phase f, y after it began, that sends in slot w.
module _ (P : Plan) (f : Phase) (y w : ℕ) (a : NodeState) where
  -- The node's ticks since the beginning of slot p, and the bounds that they give.
  abbrev pub Knows : Type 0
  Knows = Live P.min.0 P.max.0 f.o (f.lead w) (ticks_of P f a) y a.time.0

  -- Waiting, a message pending: the phase began with it, and the node is still in its slot.
  pub record IfHeard : Type 0 where
    pub message : f.o ≡ P.guard.0
    pub leads : f.lead w ≡ f.o + 1
    pub place : a.slot.0 ≡ f.p
    pub early : a.clock.0 + 2 ≤ P.ticks.0
    pub time : y ≤ a.time.0
    pub other : w ≢ f.p

  -- Waiting, nothing pending: if its turn is next it has not come.
  pub record IfWaiting : Type 0 where
    pub live : Knows
    pub before : distance P.frame.0 f.p w ≡ f.D → ticks_of P f a < f.D * P.ticks.0 + P.guard.0

  pub record IfAbout : Type 0 where
    pub live : Knows
    pub ahead : 1 ≤ distance P.frame.0 f.p w
    pub within : distance P.frame.0 f.p w ≤ f.D
    pub place : a.slot.0 ≡ w
    pub turn : a.clock.0 ≡ P.guard.0
    pub zero : a.time.0 ≡ 0

  pub record IfSending : Type 0 where
    pub live : Knows
    pub message : f.o ≡ P.guard.0
    pub mine : w ≡ f.p
    pub place : a.slot.0 ≡ f.p
    pub low : P.guard.0 ≤ a.clock.0
    pub high : a.clock.0 + P.tail.0 + 1 ≤ P.ticks.0

  -- What holds of it, by its mode and whether a message is pending.
  pub data Case : Mode → Bool → Type 0 where
    hears : IfHeard → Case Waiting true
    waits : IfWaiting → Case Waiting false
    about : IfAbout → Case AboutToSend false
    sends : IfSending → Case Sending false

  pub record InPhase : Type 0 where
    pub range : NodeWithin P a
    pub here : Case a.mode a.pending

-- A node is short of the last tick of the slot at the distance d.
abbrev pub Short : Plan → Phase → ℕ → NodeState → Type 0
Short P f d a = ticks_of P f a + 1 < d * P.ticks.0 + P.ticks.0

-- The last message's slot is some node's own.
abbrev pub Sent : Plan → Option Slot → Type 0
Sent P (Some q) = Sender P q.0
Sent P None = Unit {0}

pub record Inv (P : Plan) (r : Run) (y : ℕ) : Type 0 where
  pub room : P.nodes.0 ≤ length r.nodes
  pub sent : Sent P r.last
  pub good : (i : ℕ) → i < P.nodes.0 → InPhase P (phase_of P r.last) y (own P i) (node r i)

-- What an accepted plan gives a phase: its ranges, and the rules at every distance up to D.
pub record Holds (P : Plan) (f : Phase) : Type 0 where
  pub start : f.p < P.frame.0
  pub one : 1 ≤ f.D
  pub gap : f.D < P.frame.0
  pub early : P.guard.0 ≤ f.o
  pub lead_low : (w : ℕ) → f.o ≤ f.lead w
  pub lead_high : (w : ℕ) → f.lead w ≤ f.o + 1
  pub rule1 : (d : ℕ) → d ≤ f.D → Rule1 (d * P.ticks.0) f.o P.guard.0 P.min.0 P.max.0
  pub rule2 : (d : ℕ) → d ≤ f.D → Rule2 f.z (d * P.ticks.0) f.o P.ticks.0 P.guard.0 P.min.0 P.max.0
  -- a node whose turn does not come has no lead that rule 2 does not pay for
  pub spared : (i m : ℕ) → i < P.nodes.0 → m < P.nodes.0 → i ≢ m → 1 ≤ distance P.frame.0 f.p (own P m) → f.lead (own P i) + 1 ≤ f.o + f.z
  pub rule3 : Rule3 P.ticks.0 P.guard.0 P.tail.0 P.min.0 P.max.0

-- The phase has a node whose turn is next.
pub record Due (P : Plan) (f : Phase) : Type 0 where
  pub holds : Holds P f
  pub next : NextAt P f.p f.D
