-- Sending slots.
use Rattle.std.specs.Prelude.{ℕ, Bool, get_or, eqb}
use Rattle.laws.specs.Below.{any_below}
use Rattle.plan.specs.declared.Plan.{Plan}

-- The sending slot of node i.
abbrev pub own : Plan → ℕ → ℕ
own P i = (get_or P.slots i (record { 0 = 0 })).0

-- Some node below `count` sends in slot s.
abbrev pub sends_below : Plan → (count s : ℕ) → Bool
sends_below P count s = any_below count (λ i. eqb (own P i) s)

-- Some node sends in slot s.
unfoldable pub sends : Plan → ℕ → Bool
sends P s = sends_below P P.nodes.0 s
