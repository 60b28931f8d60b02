-- A node's reckoning of its ticks, and the real time that it is held against.
use Rattle.std.specs.Prelude.{ℕ, ◌+◌, ◌*◌, ◌-◌, Bool, false, cond, not, ◌&&◌, List, [], ◌∷◌, Option, None, Some, Result, Ok, eqb, leb, ltb}
use Rattle.laws.specs.Row.{given, first_given, unless}
use Rattle.laws.specs.Ring.{distance}
use Rattle.plan.specs.declared.Plan.{Plan}
use Rattle.plan.specs.declared.Slot.{Slot}
use Rattle.plan.specs.declared.refusal.Refusal.{Refusal}
use Rattle.plan.specs.declared.refusal.Refusal.TheVariants.{RunOutside, NodeUnknown, ReckoningBelow0}
use Rattle.plan.specs.Tested.{plan_refusal}
use Rattle.run.specs.declared.NodeState.{NodeState}
use Rattle.run.specs.declared.Run.{Run}
use Rattle.run.specs.declared.Step.{Step}
use Rattle.run.specs.declared.Step.TheVariants.{Delay, TickOf, SendOf}
use Rattle.run.specs.declared.Ticks.{Ticks}
use Rattle.run.specs.State.{node, in_range}

-- The ticks of a node since the beginning of slot p: ((slot − p) modulo C)·k0 + clock.
abbrev pub ticks_from : Plan → (p c s : ℕ) → ℕ
ticks_from P p c s = distance P.frame.0 p s * P.ticks.0 + c

-- The reckoning: the clock, if no message was sent; 0 if one is pending; otherwise the ticks since the last message's slot began, less g.
unfoldable pub reckoning : Plan → Option Slot → NodeState → ℕ
reckoning P None a = a.clock.0
reckoning P (Some p) a = cond a.pending 0 (ticks_from P p.0 a.clock.0 a.slot.0 - P.guard.0)

-- The reckoning would be below 0: the last message's slot, nothing pending, clock below g.
unfoldable pub below_zero : Plan → Option Slot → NodeState → Bool
below_zero P None a = false
below_zero P (Some p) a = eqb a.slot.0 p.0 && not a.pending && ltb a.clock.0 P.guard.0

-- The first refusal that speaks against a reckoning, where the plan passed 1 to 9; none where it is answered.
unfoldable pub reckoning_refusal : Plan → Run → (i : ℕ) → Option Refusal
reckoning_refusal P r i =
    first_given
    (given RunOutside (not (in_range P r))
    ∷ given NodeUnknown (leb P.nodes.0 i)
    ∷ given ReckoningBelow0 (below_zero P r.last (node r i))
    ∷ [])

-- The reckoning of node i where the plan passed 1 to 9.
unfoldable pub reckoned_tested : Plan → Run → (i : ℕ) → Result Ticks Refusal
reckoned_tested P r i = unless (reckoning_refusal P r i) (Ok (record { 0 = reckoning P r.last (node r i) }))

-- The reckoning of node i, of any plan on any run.
unfoldable pub reckoned_of : Plan → Run → (i : ℕ) → Result Ticks Refusal
reckoned_of P r i = unless (plan_refusal P) (reckoned_tested P r i)

-- The real time since the last message: the sum of the delays after the last send, or of all, with y before these steps.
abbrev pub time_since : (y : ℕ) → List Step → ℕ
time_since y [] = y
time_since y (Delay d ∷ steps) = time_since (y + d.0) steps
time_since y (TickOf i ∷ steps) = time_since y steps
time_since y (SendOf i ∷ steps) = time_since 0 steps
