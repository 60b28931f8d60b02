-- The state of a run: fresh, in range (refusal 10), out of step (refusal 11).
use Rattle.std.specs.Prelude.{ℕ, Bool, true, false, cond, not, ◌&&◌, Option, None, Some, get_or, replicate, eqb, leb, ltb}
use Rattle.laws.specs.Below.{any_below, all_below, first_below}
use Rattle.plan.specs.declared.Plan.{Plan}
use Rattle.plan.specs.declared.Node.{Node}
use Rattle.plan.specs.declared.Slot.{Slot}
use Rattle.plan.specs.declared.refusal.Refusal.{Refusal}
use Rattle.plan.specs.declared.refusal.Refusal.TheVariants.{RunOutside}
use Rattle.run.specs.declared.Mode.{Mode}
use Rattle.run.specs.declared.Mode.TheVariants.{Waiting, AboutToSend, Sending}
use Rattle.run.specs.declared.NodeState.{NodeState}
use Rattle.run.specs.declared.Run.{Run}
use Rattle.run.specs.declared.Apart.{Apart}

-- A fresh node: all numbers 0, waiting, nothing pending.
abbrev pub fresh_node : NodeState
fresh_node = record { clock = record { 0 = 0 }; slot = record { 0 = 0 }; time = record { 0 = 0 }; mode = Waiting; pending = false }

-- A fresh run: every node fresh, none sent.
unfoldable pub fresh_run : Run
fresh_run = record { nodes = replicate 32 fresh_node; last = None }

-- Node i of a run.
abbrev pub node : Run → ℕ → NodeState
node r i = get_or r.nodes i fresh_node

abbrev pub is_waiting : Mode → Bool
is_waiting Waiting = true
is_waiting AboutToSend = false
is_waiting Sending = false

abbrev pub is_about : Mode → Bool
is_about Waiting = false
is_about AboutToSend = true
is_about Sending = false

abbrev pub is_sending : Mode → Bool
is_sending Waiting = false
is_sending AboutToSend = false
is_sending Sending = true

-- The clock is 0 to k0 − 1, the slot number 0 to C − 1, the time since tick 0 to max.
abbrev pub node_in_range : Plan → NodeState → Bool
node_in_range P a = ltb a.clock.0 P.ticks.0 && ltb a.slot.0 P.frame.0 && leb a.time.0 P.max.0

-- The last message's slot is 0 to C − 1.
abbrev pub last_in_range : Plan → Option Slot → Bool
last_in_range P (Some s) = ltb s.0 P.frame.0
last_in_range P None = true

-- Every number of the run lies in its range; places from N on are not looked at.
unfoldable pub in_range : Plan → Run → Bool
in_range P r = all_below P.nodes.0 (λ i. node_in_range P (node r i)) && last_in_range P r.last

-- What test 10 says of a run.
abbrev pub range_refusal : Plan → Run → Option Refusal
range_refusal P r = cond (in_range P r) None (Some RunOutside)

-- The lowest of the nodes below N that passes; none where none of them does.
unfoldable pub lowest : (N : ℕ) → (ℕ → Bool) → Option Node
lowest N f = cond (ltb (first_below N f) N) (Some (record { 0 = first_below N f })) None

-- Node j has another slot number than node i.
abbrev pub elsewhere : Run → (i j : ℕ) → Bool
elsewhere r i j = not (eqb (node r j).slot.0 (node r i).slot.0)

-- Node i is sending and some node has another slot number.
unfoldable pub sends_apart : Plan → Run → ℕ → Bool
sends_apart P r i = is_sending (node r i).mode && any_below P.nodes.0 (elsewhere r i)

-- The run is out of step.
unfoldable pub is_out_of_step : Plan → Run → Bool
is_out_of_step P r = any_below P.nodes.0 (sends_apart P r)

-- The lowest sending node with a node elsewhere.
abbrev pub sender_apart : Plan → Run → ℕ
sender_apart P r = first_below P.nodes.0 (sends_apart P r)

-- Out of step: the lowest sending node that has a node elsewhere, and the lowest such node. None where the run is in step.
unfoldable pub apart_tested : Plan → Run → Option Apart
apart_tested P r =
    cond (is_out_of_step P r)
    (Some (record { sending = record { 0 = sender_apart P r }; elsewhere = record { 0 = first_below P.nodes.0 (elsewhere r (sender_apart P r)) } }))
    None
