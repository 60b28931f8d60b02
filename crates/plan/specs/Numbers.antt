-- A plan by its numbers, in the order in which a plan file has them.
use Rattle.std.specs.Prelude.{ℕ, zero, suc, List, [], ◌∷◌}
use Rattle.plan.specs.declared.Plan.{Plan}
use Rattle.plan.specs.declared.Slot.{Slot}

abbrev pub plan_by : (N C n k0 g t shortest longest : ℕ) → List Slot → Plan
plan_by N C n k0 g t shortest longest slots =
    record {
      nodes = record { 0 = N };
      frame = record { 0 = C };
      active = record { 0 = n };
      ticks = record { 0 = k0 };
      guard = record { 0 = g };
      tail = record { 0 = t };
      min = record { 0 = shortest };
      max = record { 0 = longest };
      slots = slots;
    }

-- Sending slots.
abbrev pub slots : List ℕ → List Slot
slots [] = []
slots (s ∷ more) = record { 0 = s } ∷ slots more

-- Sending slots s, s + 1, .., one for each of `count` nodes.
abbrev pub slots_from : (s count : ℕ) → List Slot
slots_from s zero = []
slots_from s (suc count) = record { 0 = s } ∷ slots_from (suc s) count
