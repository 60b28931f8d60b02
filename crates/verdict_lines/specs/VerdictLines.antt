-- The five lines of a verdict, each whole with its newline.
use Rattle.std.specs.Prelude.{ℕ, cond, List, ◌++◌, Option, None, Some, Result, Ok, Err}
use Rattle.plan.specs.declared.refusal.Refusal.{Refusal}
use Rattle.plan.specs.Refusals.{number_of}
use Rattle.rules.specs.declared.Rule.{Rule}
use Rattle.rules.specs.declared.Rule.TheVariants.{One, Two, Three}
use Rattle.rules.specs.declared.Sides.{Sides}
use Rattle.rules.specs.declared.Verdict.{Verdict}
use Rattle.rules.specs.Rules.{rule_number, holds}
use Rattle.text.specs.Text.{bytes, numbered, ended}
use Rattle.lines.specs.Lines.{refused_line}

-- Line 1: mark, version, N, M.
abbrev pub head_line : (N M : ℕ) → List ℕ
head_line N M = numbered "CSP 1 nodes " N ++ ended " gap " M

-- A rule line: number, left side, right side, outcome.
abbrev pub rule_line : Rule → Sides → List ℕ
rule_line rule s =
    numbered "rule " (rule_number rule) ++ numbered " " s.left ++ numbered " " s.right ++ cond (holds s) (bytes " holds\n") (bytes " fails\n")

-- The verdict line: in step, or the first rule that fails.
abbrev pub outcome_line : Option Rule → List ℕ
outcome_line None = bytes "verdict in step\n"
outcome_line (Some rule) = ended "verdict rule " (rule_number rule)

-- The five lines of a verdict of a plan with N nodes.
abbrev pub verdict_lines : ℕ → Verdict → List ℕ
verdict_lines N v =
    head_line N v.gap.0 ++ rule_line One v.one ++ rule_line Two v.two ++ rule_line Three v.three ++ outcome_line v.failed

-- What the judging program writes of a plan before any shown run.
unfoldable pub judged_text : ℕ → Result Verdict Refusal → List ℕ
judged_text N (Ok v) = verdict_lines N v
judged_text N (Err refusal) = refused_line (number_of refusal)
