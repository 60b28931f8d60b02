-- Who plays which part in the run shown for a failed rule.
use Rattle.std.specs.Prelude.{ℕ, Bool, cond, not, ◌&&◌, eqb}
use Rattle.laws.specs.Below.{first_below, least_below}
use Rattle.plan.specs.declared.Plan.{Plan}
use Rattle.plan.specs.Sending.{own}
use Rattle.gap.specs.Gap.{predecessor, distance_for, gap_of}
use Rattle.rules.specs.declared.Rule.{Rule}
use Rattle.rules.specs.declared.Rule.TheVariants.{One, Two, Three}
use Rattle.shown.specs.declared.Parts.{Parts}

-- The predecessor of node i's sending slot, where its D is m; C, which is no slot, where it is not.
unfoldable pub predecessor_at : Plan → (m i : ℕ) → ℕ
predecessor_at P m i = cond (eqb (distance_for P i) m) (predecessor P (own P i)) P.frame.0

-- p of rules 1 and 2: the smallest predecessor of a sending slot with D = M.
unfoldable pub widest_from : Plan → ℕ
widest_from P = least_below P.frame.0 P.nodes.0 (predecessor_at P (gap_of P))

-- The node that sends in s of rules 1 and 2: the sending slot with D = M and predecessor p.
unfoldable pub widest_node : Plan → ℕ
widest_node P = first_below P.nodes.0 (λ i. eqb (predecessor_at P (gap_of P) i) (widest_from P))

-- s of rules 1 and 2.
abbrev pub widest_to : Plan → ℕ
widest_to P = own P (widest_node P)

-- The node that sends in slot s.
abbrev pub sender_in : Plan → ℕ → ℕ
sender_in P s = first_below P.nodes.0 (λ i. eqb (own P i) s)

-- Node i doesn't send in slot s.
abbrev pub silent_in : Plan → (s i : ℕ) → Bool
silent_in P s i = not (eqb (own P i) s)

-- The parts with the slot p and the fast node.
abbrev pub parts_with : Plan → (p fast : ℕ) → Parts
parts_with P p fast = record { p = record { 0 = p }; sender = record { 0 = sender_in P p }; fast = record { 0 = fast } }

-- The fast node: the sender of s (rule 1); the lowest node that sends neither in p nor in s (rule 2); the lowest node that doesn't send in p = 0 (rule 3).
unfoldable pub parts_for : Plan → Rule → Parts
parts_for P One = parts_with P (widest_from P) (widest_node P)
parts_for P Two =
    parts_with P (widest_from P)
    (first_below P.nodes.0 (λ i. silent_in P (widest_from P) i && silent_in P (widest_to P) i))
parts_for P Three = parts_with P 0 (first_below P.nodes.0 (silent_in P 0))
