-- The run shown for a failed rule, after the pivot, by moments counted from the pivot, up to its first out-of-step state.
use Rattle.std.specs.Prelude.{ℕ, zero, suc, ◌+◌, ◌-◌, ◌%◌, min, cond, not, List, [], ◌∷◌, ◌++◌, eqb}
use Rattle.plan.specs.declared.Plan.{Plan}
use Rattle.run.specs.declared.Run.{Run}
use Rattle.run.specs.declared.Step.{Step}
use Rattle.run.specs.declared.Step.TheVariants.{Delay}
use Rattle.run.specs.State.{is_out_of_step}
use Rattle.run.specs.Steps.{run_left, run_after}
use Rattle.shown.specs.declared.Parts.{Parts}
use Rattle.shown.specs.Shown.{turns}
use Rattle.shown_rounds.specs.Rounds.{ticks, ticks_and_sends, in_order}

-- The time from y to the nearest moment: the fast node's come every min, the others' every max. All is counted from the pivot.
abbrev pub to_nearest : Plan → ℕ → ℕ
to_nearest P y = min (P.min.0 - y % P.min.0) (P.max.0 - y % P.max.0)

-- What node i does at a moment of its own: it ticks and, about to send, sends at once.
abbrev pub acts : Plan → Run → ℕ → List Step
acts P r i = cond (turns P r i) (ticks_and_sends i) (ticks i)

-- What is done at the moment y: the fast node goes first, the others in number order.
unfoldable pub at_moment : Plan → Parts → Run → ℕ → List Step
at_moment P parts r y =
    cond (eqb (y % P.min.0) 0) (acts P r parts.fast.0) []
    ++ cond (eqb (y % P.max.0) 0) (in_order P (λ i. not (eqb i parts.fast.0)) (acts P r)) []

-- The delay from y to the nearest moment, and what is done there.
unfoldable pub next_moment : Plan → Parts → Run → ℕ → List Step
next_moment P parts r y = Delay (record { 0 = to_nearest P y }) ∷ at_moment P parts r (y + to_nearest P y)

-- The next k moments after y, each on the run that the one before it leaves.
unfoldable pub moments : Plan → Parts → (k y : ℕ) → Run → List Step
moments P parts zero y r = []
moments P parts (suc k) y r = next_moment P parts r y ++ moments P parts k (y + to_nearest P y) (run_after P r (next_moment P parts r y))

-- The steps up to the first out-of-step state.
unfoldable pub until_out : Plan → Run → List Step → List Step
until_out P r [] = []
until_out P r (s ∷ steps) = cond (is_out_of_step P r) [] (s ∷ until_out P (run_left P r s) steps)
