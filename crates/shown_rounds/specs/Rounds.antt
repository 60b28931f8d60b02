-- The run shown for a failed rule, up to the pivot's end, by rounds: what each round is, whatever the place says.
use Rattle.std.specs.Prelude.{ℕ, zero, suc, Bool, cond, not, ◌&&◌, List, [], ◌∷◌, ◌++◌, eqb}
use Rattle.plan.specs.declared.Plan.{Plan}
use Rattle.run.specs.declared.Run.{Run}
use Rattle.run.specs.declared.Step.{Step}
use Rattle.run.specs.declared.Step.TheVariants.{Delay, TickOf, SendOf}
use Rattle.run.specs.State.{fresh_run}
use Rattle.run.specs.Steps.{run_after}
use Rattle.shown.specs.declared.Parts.{Parts}
use Rattle.shown.specs.Shown.{turns}

-- Node i ticks.
abbrev pub ticks : ℕ → List Step
ticks i = TickOf (record { 0 = i }) ∷ []

-- Node i ticks and then sends.
abbrev pub ticks_and_sends : ℕ → List Step
ticks_and_sends i = TickOf (record { 0 = i }) ∷ SendOf (record { 0 = i }) ∷ []

-- What the nodes that pass do, in number order: those from i on, of at most `left` nodes.
unfoldable pub in_order_from : (ℕ → Bool) → (ℕ → List Step) → (left i : ℕ) → List Step
in_order_from f does zero i = []
in_order_from f does (suc left) i = cond (f i) (does i) [] ++ in_order_from f does left (suc i)

-- What the nodes that pass do, in number order.
abbrev pub in_order : Plan → (ℕ → Bool) → (ℕ → List Step) → List Step
in_order P f does = in_order_from f does P.nodes.0 0

-- A round before the pivot, on the run r: a delay of min and then one tick of every node in number order, save that a node
-- that this tick makes about to send ticks last (of several, the lowest first) and then sends.
unfoldable pub round_before : Plan → Run → List Step
round_before P r = Delay P.min ∷ in_order P (λ i. not (turns P r i)) ticks ++ in_order P (turns P r) ticks_and_sends

-- Node i is neither the fast node nor the sender of p.
abbrev pub neither : Parts → ℕ → Bool
neither parts i = not (eqb i parts.fast.0) && not (eqb i parts.sender.0)

-- The pivot: a delay of min; all nodes but the fast one and the sender of p tick in number order; the sender of p ticks and
-- sends; the fast node ticks.
unfoldable pub pivot_round : Plan → Parts → List Step
pivot_round P parts = Delay P.min ∷ in_order P (neither parts) ticks ++ ticks_and_sends parts.sender.0 ++ ticks parts.fast.0

-- k rounds before the pivot, each on the run that the one before it leaves.
unfoldable pub rounds_before : Plan → ℕ → Run → List Step
rounds_before P zero r = []
rounds_before P (suc k) r = round_before P r ++ rounds_before P k (run_after P r (round_before P r))

-- The run after k rounds from a fresh one.
abbrev pub after_rounds : Plan → ℕ → Run
after_rounds P k = run_after P fresh_run (rounds_before P k fresh_run)

-- The steps of k rounds and of the pivot after them.
abbrev pub through_pivot : Plan → Parts → ℕ → List Step
through_pivot P parts k = rounds_before P k fresh_run ++ pivot_round P parts
