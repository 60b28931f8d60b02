-- The starred table is right, by computing.
use mathlib.Core.Path.{refl}
use Rattle.laws.specs.Row.{first_given}
use Rattle.laws.specs.Below.{any_below, largest_below}
use Rattle.laws.specs.Ring.{distance}
use Rattle.plan.specs.Sending.{sends}
use Rattle.plan.specs.Tested.{is_active_outside, is_guard_or_tail_wrong, is_min_or_max_wrong, some_not_active, shares_slot, some_shared, plan_refusal}
use Rattle.gap.specs.Gap.{nearest, predecessor, distance_before, gap_of}
use Rattle.rules.specs.Rules.{sides_at, failed_by, verdict_at, verdict_of, judged_of}
use Rattle.rules.specs.Starred.{starred, AllRight}

pub all_right : AllRight starred
unfolding starred first_given any_below largest_below distance sends is_active_outside is_guard_or_tail_wrong is_min_or_max_wrong some_not_active shares_slot some_shared plan_refusal nearest predecessor distance_before gap_of sides_at failed_by verdict_at verdict_of judged_of
all_right =
    (record { judged = refl; gap = refl; failed = refl; sides = tt }, (record { judged = refl; gap = refl; failed = refl; sides = (refl, tt) }, (record { judged = refl; gap = refl; failed = refl; sides = (refl, tt) }, (record { judged = refl; gap = refl; failed = refl; sides = tt }, (record { judged = refl; gap = refl; failed = refl; sides = (refl, tt) }, (record { judged = refl; gap = refl; failed = refl; sides = (refl, tt) }, (record { judged = refl; gap = refl; failed = refl; sides = (refl, (refl, (refl, tt))) }, (record { judged = refl; gap = refl; failed = refl; sides = (refl, tt) }, (record { judged = refl; gap = refl; failed = refl; sides = tt }, (record { judged = refl; gap = refl; failed = refl; sides = tt }, (record { judged = refl; gap = refl; failed = refl; sides = tt }, tt)))))))))))
