-- Predecessor, D(s) and M: over who sends, which is a test of slots, and of a plan.
use Rattle.std.specs.Prelude.{ℕ, zero, suc, ◌+◌, ◌-◌, ◌%◌, Bool, true, false}
use Rattle.laws.specs.Below.{largest_below}
use Rattle.laws.specs.Ring.{distance}
use Rattle.plan.specs.declared.Plan.{Plan}
use Rattle.plan.specs.Sending.{own, sends}

-- The slot before s, backwards round a frame of C.
abbrev pub slot_before : (C s : ℕ) → ℕ
slot_before C s = (s + C - 1) % C

-- The nearest slot at s or before it that passes, of the `left` slots left in a frame of C; the slot before these where none does.
unfoldable pub nearest : (ℕ → Bool) → (C left s : ℕ) → ℕ
nearest f C zero s = s
nearest f C (suc left) s = elim (f s) [ true ↦ s | false ↦ nearest f C left (slot_before C s) ]

-- The predecessor of s among the slots that somebody sends in: the nearest before it, with every slot but s left.
abbrev pub predecessor_among : (sending : ℕ → Bool) → (C s : ℕ) → ℕ
predecessor_among sending C s = nearest sending C (C - 1) (slot_before C s)

-- D(s): the number of slots from the predecessor to s, round the frame.
abbrev pub distance_among : (sending : ℕ → Bool) → (C s : ℕ) → ℕ
distance_among sending C s = distance C (predecessor_among sending C s) s

-- M: the largest D over the slots of N senders.
abbrev pub gap_among : (sending : ℕ → Bool) → (C N : ℕ) → (slot : ℕ → ℕ) → ℕ
gap_among sending C N slot = largest_below N (λ i. distance_among sending C (slot i))

-- The predecessor of s in a plan.
unfoldable pub predecessor : Plan → ℕ → ℕ
predecessor P s = predecessor_among (sends P) P.frame.0 s

-- D(s) in a plan.
unfoldable pub distance_before : Plan → ℕ → ℕ
distance_before P s = distance_among (sends P) P.frame.0 s

-- The D of node i's own sending slot.
abbrev pub distance_for : Plan → ℕ → ℕ
distance_for P i = distance_before P (own P i)

-- M of a plan.
unfoldable pub gap_of : Plan → ℕ
gap_of P = gap_among (sends P) P.frame.0 P.nodes.0 (own P)
