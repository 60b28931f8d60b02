-- The verdict of a plan holds M.
use mathlib.Core.Path.{◌≡◌, refl}
use Rattle.plan.specs.declared.Plan.{Plan}
use Rattle.gap.specs.Gap.{gap_of}
use Rattle.rules.specs.declared.Verdict.{Verdict}
use Rattle.rules.specs.Rules.{verdict_at, verdict_of}

pub verdict_gap : (P : Plan) (verdict : Verdict) → verdict ≡ verdict_of P → verdict.gap.0 ≡ gap_of P
unfolding verdict_at verdict_of
verdict_gap P verdict e = rw e refl
