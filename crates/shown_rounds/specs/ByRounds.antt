-- The claim: the shown run by places is the run by rounds and moments.
use Rattle.std.specs.Prelude.{ℕ, ◌+◌, ◌*◌, ◌<◌, ◌≡◌, true, false, List, ◌++◌, None, Some, length, take}
use Rattle.plan.specs.declared.Plan.{Plan}
use Rattle.plan.specs.Tested.{plan_refusal}
use Rattle.rules.specs.declared.Rule.{Rule}
use Rattle.rules.specs.Rules.{verdict_of}
use Rattle.run.specs.declared.Step.{Step}
use Rattle.run.specs.State.{fresh_run, node}
use Rattle.run.specs.Steps.{run_after}
use Rattle.shown.specs.declared.Mark.TheVariants.{After}
use Rattle.shown.specs.declared.Parts.{Parts}
use Rattle.shown.specs.declared.Place.{Place}
use Rattle.shown.specs.Parts.{parts_for}
use Rattle.shown.specs.Shown.{fresh_place, turns, place_at, shown_steps}
use Rattle.shown_rounds.specs.Rounds.{after_rounds, through_pivot}
use Rattle.shown_rounds.specs.Moments.{moments, until_out}

-- The steps of k rounds, of the pivot after them, and of n moments after the pivot.
abbrev pub told : Plan → Parts → (k n : ℕ) → List Step
told P parts k n = through_pivot P parts k ++ moments P parts n 0 (run_after P fresh_run (through_pivot P parts k))

-- The place after k rounds and the pivot.
abbrev pub pivot_end : Plan → Parts → ℕ → Place
pivot_end P parts k = place_at P (length (through_pivot P parts k)) fresh_place

-- So many rounds come before the pivot, the round in which the sender of p is about to send for the first time; with it p·k0 + g.
-- The shown run gives them and the pivot whole. At the pivot's end the mark is "after" and every node has just ticked, so that
-- a time since tick counts from the pivot. The first n steps of the shown run, for every n, are the first n of the rounds, the
-- pivot and the moments after it (n moments have n steps or more), up to the first out-of-step state.
pub record ByRounds (P : Plan) (parts : Parts) : Type 0 where
  pub rounds : ℕ
  pub now : turns P (after_rounds P rounds) parts.sender.0 ≡ true
  pub not_before : (k : ℕ) → k < rounds → turns P (after_rounds P k) parts.sender.0 ≡ false
  pub count : rounds + 1 ≡ parts.p.0 * P.ticks.0 + P.guard.0
  pub through : shown_steps P (length (through_pivot P parts rounds)) fresh_place ≡ through_pivot P parts rounds
  pub run : (pivot_end P parts rounds).run ≡ run_after P fresh_run (through_pivot P parts rounds)
  pub mark : (pivot_end P parts rounds).mark ≡ After
  pub times : (i : ℕ) → i < P.nodes.0 → (node (pivot_end P parts rounds).run i).time.0 ≡ 0
  pub whole : (n : ℕ) → shown_steps P n fresh_place ≡ take n (until_out P fresh_run (told P parts rounds n))

-- The claim: so for a plan that 1 to 9 let through and whose verdict names a failed rule, with that rule's parts.
abbrev pub ShownByRounds : Plan → Type 0
ShownByRounds P = plan_refusal P ≡ None → (rule : Rule) → (verdict_of P).failed ≡ Some rule → ByRounds P (parts_for P rule)
