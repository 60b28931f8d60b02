-- Document 01's starred numbers, as one table, and what it means that its rows are right.
use Rattle.std.specs.Prelude.{ℕ, ◌≡◌, List, [], ◌∷◌, Option, None, Some, Ok}
use Rattle.plan.specs.declared.Plan.{Plan}
use Rattle.plan.specs.Numbers.{plan_by, slots_from}
use Rattle.rules.specs.declared.Rule.{Rule}
use Rattle.rules.specs.declared.Rule.TheVariants.{One, Two, Three}
use Rattle.rules.specs.Rules.{sides_at, verdict_of, judged_of}

-- The plan with these numbers and slots 0, 1, 2, ..
abbrev pub plan_with : (N C n k0 g t shortest longest : ℕ) → Plan
plan_with N C n k0 g t shortest longest = plan_by N C n k0 g t shortest longest (slots_from 0 N)

-- The two sides of a rule, where document 01 gives them.
pub record Stated : Type 0 where
  pub rule : Rule
  pub left : ℕ
  pub right : ℕ

abbrev pub sides : Rule → ℕ → ℕ → Stated
sides rule left right = record { rule = rule; left = left; right = right }

-- A row: a plan, its M, the first rule that fails (none where it is accepted), and the sides that are given.
pub record Star : Type 0 where
  pub plan : Plan
  pub gap : ℕ
  pub failed : Option Rule
  pub stated : List Stated

abbrev pub star : Plan → ℕ → Option Rule → List Stated → Star
star P m failed s = record { plan = P; gap = m; failed = failed; stated = s }

unfoldable pub starred : List Star
starred =
    star (plan_with 3 6 4 10 2 2 39 40) 4 None []
    ∷ star (plan_with 3 6 4 10 2 2 38 39) 4 (Some One) (sides One 1482 1482 ∷ [])
    ∷ star (plan_with 4 6 4 10 2 2 29 30) 3 None (sides One 840 841 ∷ [])
    ∷ star (plan_with 4 6 4 10 2 2 28 29) 3 (Some One) []
    ∷ star (plan_with 3 6 4 10 3 3 19 20) 4 None (sides One 740 741 ∷ [])
    ∷ star (plan_with 3 6 4 10 3 3 18 19) 4 (Some One) (sides One 703 702 ∷ [])
    ∷ star (plan_with 4 6 4 10 4 4 9 10) 3 None (sides One 260 261 ∷ sides Two 300 306 ∷ sides Three 20 45 ∷ [])
    ∷ star (plan_with 3 8 4 10 2 2 59 60) 6 None (sides One 3480 3481 ∷ [])
    ∷ star (plan_with 10 1129 10 29 3 2 999980 1000020) 1120 None []
    ∷ star (plan_with 10 1129 10 29 2 2 999980 1000020) 1120 (Some One) []
    ∷ star (plan_with 10 1129 10 29 3 1 999980 1000020) 1120 (Some Three) []
    ∷ []

-- The stated sides are the rule's own at M.
abbrev pub SidesRight : Plan → ℕ → List Stated → Type 0
SidesRight P m [] = Unit {0}
SidesRight P m (s ∷ more) = (sides_at P m s.rule ≡ record { left = s.left; right = s.right }) × SidesRight P m more

-- A row is right: 1 to 9 let the plan through, and M, the first rule that fails and the sides are as stated.
pub record Right (s : Star) : Type 0 where
  pub judged : judged_of s.plan ≡ Ok (verdict_of s.plan)
  pub gap : (verdict_of s.plan).gap.0 ≡ s.gap
  pub failed : (verdict_of s.plan).failed ≡ s.failed
  pub sides : SidesRight s.plan (verdict_of s.plan).gap.0 s.stated

abbrev pub AllRight : List Star → Type 0
AllRight [] = Unit {0}
AllRight (s ∷ more) = Right s × AllRight more
