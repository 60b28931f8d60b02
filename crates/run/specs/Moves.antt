-- What a delay, a tick and a send make of a node and of the run.
use Rattle.std.specs.Prelude.{ℕ, ◌+◌, ◌%◌, Bool, false, cond, ◌&&◌, ◌||◌, Some, set, eqb, ltb}
use Rattle.laws.specs.Over.{over}
use Rattle.plan.specs.declared.Plan.{Plan}
use Rattle.plan.specs.Sending.{own}
use Rattle.run.specs.declared.Mode.{Mode}
use Rattle.run.specs.declared.Mode.TheVariants.{Waiting, AboutToSend, Sending}
use Rattle.run.specs.declared.NodeState.{NodeState}
use Rattle.run.specs.declared.Run.{Run}
use Rattle.run.specs.declared.Step.{Step}
use Rattle.run.specs.declared.Step.TheVariants.{Delay, TickOf, SendOf}
use Rattle.run.specs.State.{node}

-- A node after a delay of d.
abbrev pub node_delayed : (d : ℕ) → NodeState → NodeState
node_delayed d a =
    record { clock = a.clock; slot = a.slot; time = record { 0 = a.time.0 + d }; mode = a.mode; pending = a.pending }

-- The clock after a tick on clock c0: g + 1 if a message was pending, otherwise one more, modulo k0.
unfoldable pub clock_after : Plan → (pending : Bool) → (c0 : ℕ) → ℕ
clock_after P pending c0 = cond pending (P.guard.0 + 1) ((c0 + 1) % P.ticks.0)

-- In slot w with c0 = g − 1: the slot number s is w, and the tick on clock c0 is the guard's last.
abbrev pub guard_ends : Plan → (w c0 s : ℕ) → Bool
guard_ends P w c0 s = eqb s w && eqb (c0 + 1) P.guard.0

-- The mode after a tick on clock c0 in slot s, for a node that sends in slot w.
-- Waiting in its own slot with c0 = g − 1: about to send. Sending with c0 = k0 − t − 1: waiting. Else as it was.
unfoldable pub mode_after : Plan → (w c0 s : ℕ) → Mode → Mode
mode_after P w c0 s Waiting = cond (guard_ends P w c0 s) AboutToSend Waiting
mode_after P w c0 s AboutToSend = AboutToSend
mode_after P w c0 s Sending = cond (eqb (c0 + P.tail.0 + 1) P.ticks.0) Waiting Sending

-- The slot number after a tick on clock c0 in slot s. Waiting with c0 = k0 − 1: one more, modulo C. Else as it was.
unfoldable pub slot_after : Plan → (c0 s : ℕ) → Mode → ℕ
slot_after P c0 s Waiting = cond (eqb (c0 + 1) P.ticks.0) ((s + 1) % P.frame.0) s
slot_after P c0 s AboutToSend = s
slot_after P c0 s Sending = s

-- A node that sends in slot w after its tick: all decided on the clock before it, the pending mark cleared.
abbrev pub node_ticked : Plan → (w : ℕ) → NodeState → NodeState
node_ticked P w a =
    record {
      clock = record { 0 = clock_after P a.pending a.clock.0 };
      slot = record { 0 = slot_after P a.clock.0 a.slot.0 a.mode };
      time = record { 0 = 0 };
      mode = mode_after P w a.clock.0 a.slot.0 a.mode;
      pending = false;
    }

-- The sender after its send.
abbrev pub node_sent : NodeState → NodeState
node_sent a = record { clock = a.clock; slot = a.slot; time = a.time; mode = Sending; pending = a.pending }

-- Any other node after a send: pending if its slot number is below n, or if it was.
abbrev pub node_hearing : Plan → NodeState → NodeState
node_hearing P a =
    record {
      clock = a.clock;
      slot = a.slot;
      time = a.time;
      mode = a.mode;
      pending = a.pending || ltb a.slot.0 P.active.0;
    }

-- Node k after node i sends.
abbrev pub node_at_send : Plan → (i k : ℕ) → NodeState → NodeState
node_at_send P i k a = cond (eqb k i) (node_sent a) (node_hearing P a)

-- The run after a delay of d, a tick of node i, a send of node i.
abbrev pub delayed : Plan → (d : ℕ) → Run → Run
delayed P d r = record { nodes = over P.nodes.0 (λ k a. node_delayed d a) r.nodes; last = r.last }

abbrev pub ticked : Plan → (i : ℕ) → Run → Run
ticked P i r = record { nodes = set r.nodes i (node_ticked P (own P i) (node r i)); last = r.last }

abbrev pub sent : Plan → (i : ℕ) → Run → Run
sent P i r = record { nodes = over P.nodes.0 (node_at_send P i) r.nodes; last = Some (node r i).slot }

-- The run after a step.
abbrev pub moved : Plan → Run → Step → Run
moved P r (Delay d) = delayed P d.0 r
moved P r (TickOf i) = ticked P i.0 r
moved P r (SendOf i) = sent P i.0 r
