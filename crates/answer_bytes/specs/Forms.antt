-- Verdicts, steps and answers as bytes; numbers are big-endian.
use Rattle.std.specs.Prelude.{ℕ, List, ◌∷◌, ◌++◌, Option, None, Some}
use Rattle.rules.specs.declared.Rule.{Rule}
use Rattle.rules.specs.declared.Sides.{Sides}
use Rattle.rules.specs.declared.Verdict.{Verdict}
use Rattle.run.specs.declared.Apart.{Apart}
use Rattle.run.specs.declared.Step.{Step}
use Rattle.run.specs.declared.Step.TheVariants.{Delay, TickOf, SendOf}
use Rattle.run.specs.declared.Ticks.{Ticks}
use Rattle.rules.specs.Rules.{rule_number}
use Rattle.run_bytes.specs.Numbers.{be16_bytes, be32_bytes, be64_bytes}

-- 0 accepted, else the number of the first rule that fails.
abbrev pub outcome_number : Option Rule → ℕ
outcome_number None = 0
outcome_number (Some rule) = rule_number rule

-- The sides of a rule: left (8), right (8).
unfoldable pub sides_bytes : Sides → List ℕ
sides_bytes s = be64_bytes s.left ++ be64_bytes s.right

-- A verdict, 51 bytes: outcome (1), M (2), the sides of rules 1, 2, 3 (16 each).
unfoldable pub verdict_bytes : Verdict → List ℕ
verdict_bytes v = outcome_number v.failed ∷ be16_bytes v.gap.0 ++ sides_bytes v.one ++ sides_bytes v.two ++ sides_bytes v.three

-- A step, 5 bytes: letter D, T or S (1), length of the delay or node (4).
unfoldable pub step_bytes : Step → List ℕ
step_bytes (Delay d) = 68 ∷ be32_bytes d.0
step_bytes (TickOf i) = 84 ∷ be32_bytes i.0
step_bytes (SendOf i) = 83 ∷ be32_bytes i.0

-- Out of step or not, 9 bytes: 0 and eight zeros in step; out of step 1, the lowest sending node with a node elsewhere (4), the lowest such node (4).
unfoldable pub apart_bytes : Option Apart → List ℕ
apart_bytes None = 0 ∷ be32_bytes 0 ++ be32_bytes 0
apart_bytes (Some apart) = 1 ∷ be32_bytes apart.sending.0 ++ be32_bytes apart.elsewhere.0

-- A reckoning, 4 bytes.
unfoldable pub ticks_bytes : Ticks → List ℕ
ticks_bytes ticks = be32_bytes ticks.0
