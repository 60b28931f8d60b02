-- From the highest node down, of the nodes from i on: none is past due, and `seen` is what they show.
use Rattle.std.proofs.Common.{ℕ, ◌≡◌, ◌<◌, ◌≤◌}
use Rattle.run.specs.State.{node}
use Rattle.shown.specs.Shown.{due_time}
use Rattle.shown_look.specs.Looking.{seen_from}
use Rattle.shown_look.proofs.look_with.Given as goal

abbrev pub invariant-loop-i : goal.invariant-loop-i
invariant-loop-i l =
    ((k : ℕ) → l.i ≤ k → k < l.fn.plan.plan.nodes.0 → (node l.fn.run k).time.0 ≤ due_time l.fn.plan.plan l.fn.parts l.fn.mark k)
    × (l.seen ≡ seen_from l.fn.plan.plan l.fn.parts (record { run = l.fn.run; mark = l.fn.mark }) l.i)
