-- The three rules, each with its two sides, and the verdict.
use Rattle.std.specs.Prelude.{ℕ, ◌+◌, ◌-◌, ◌*◌, Bool, cond, Option, None, Some, Result, Ok, ltb}
use Rattle.laws.specs.Row.{unless}
use Rattle.plan.specs.declared.Plan.{Plan}
use Rattle.plan.specs.declared.refusal.Refusal.{Refusal}
use Rattle.plan.specs.Tested.{plan_refusal}
use Rattle.gap.specs.Gap.{gap_of}
use Rattle.rules.specs.declared.Rule.{Rule}
use Rattle.rules.specs.declared.Rule.TheVariants.{One, Two, Three}
use Rattle.rules.specs.declared.Sides.{Sides}
use Rattle.rules.specs.declared.Verdict.{Verdict}

-- A rule's number.
abbrev pub rule_number : Rule → ℕ
rule_number One = 1
rule_number Two = 2
rule_number Three = 3

-- Sides by their ticks: so many of the longest on the left, so many of the shortest on the right.
abbrev pub sides_with : Plan → (left right : ℕ) → Sides
sides_with P left right = record { left = left * P.max.0; right = right * P.min.0 }

-- The two sides of a rule at the distance m.
-- Rule 1: (M·k0 − g)·max < (M·k0 − 1)·min
-- Rule 2: M·k0·max < ((M + 1)·k0 − g − 2)·min
-- Rule 3: (k0 − g − t)·max < (k0 − g − 1)·min
unfoldable pub sides_at : Plan → ℕ → Rule → Sides
sides_at P m One = sides_with P (m * P.ticks.0 - P.guard.0) (m * P.ticks.0 - 1)
sides_at P m Two = sides_with P (m * P.ticks.0) ((m + 1) * P.ticks.0 - P.guard.0 - 2)
sides_at P m Three = sides_with P (P.ticks.0 - P.guard.0 - P.tail.0) (P.ticks.0 - P.guard.0 - 1)

-- A rule with these sides holds.
abbrev pub holds : Sides → Bool
holds s = ltb s.left s.right

-- The first rule that fails, in this order; none where all hold.
unfoldable pub failed_by : (one two three : Sides) → Option Rule
failed_by one two three =
    cond (holds one) (cond (holds two) (cond (holds three) None (Some Three)) (Some Two)) (Some One)

-- The verdict at the distance m.
unfoldable pub verdict_at : Plan → ℕ → Verdict
verdict_at P m =
    record {
      gap = record { 0 = m };
      one = sides_at P m One;
      two = sides_at P m Two;
      three = sides_at P m Three;
      failed = failed_by (sides_at P m One) (sides_at P m Two) (sides_at P m Three);
    }

-- The verdict: the rules at M.
unfoldable pub verdict_of : Plan → Verdict
verdict_of P = verdict_at P (gap_of P)

-- What the judge answers: the verdict, or the first of refusals 1 to 9 that speaks against the plan.
unfoldable pub judged_of : Plan → Result Verdict Refusal
judged_of P = unless (plan_refusal P) (Ok (verdict_of P))
