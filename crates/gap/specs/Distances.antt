-- The predecessor and D of every node's sending slot at once, and the table they are found on.
use Rattle.std.specs.Prelude.{ℕ, ◌-◌, ◌≤◌, ◌<◌, ◌≡◌, Bool, false, List, length, get_or, replicate}
use Rattle.laws.specs.Over.{over}
use Rattle.plan.specs.declared.Plan.{Plan}
use Rattle.plan.specs.Sending.{own}
use Rattle.gap.specs.declared.NodeDistance.{NodeDistance}
use Rattle.gap.specs.declared.Distances.{Distances}
use Rattle.gap.specs.Gap.{predecessor, distance_before}

-- Slot s is marked as occupied in a table.
abbrev pub taken : List Bool → ℕ → Bool
taken table s = get_or table s false

-- Of n slots from s backwards none is marked.
abbrev pub Free : List Bool → (s n : ℕ) → Type 0
Free table s n = (j : ℕ) → j < n → taken table (s - j) ≡ false

-- A table in which exactly the slots that somebody sends in are marked.
pub record Occupied (sending : ℕ → Bool) (table : List Bool) : Type 0 where
  pub long : 4096 ≤ length table
  pub marks : (s : ℕ) → taken table s ≡ sending s

-- The predecessor of slot s, and D(s).
abbrev pub node_distance : Plan → ℕ → NodeDistance
node_distance P s = record { predecessor = record { 0 = predecessor P s }; distance = record { 0 = distance_before P s } }

abbrev pub no_distance : NodeDistance
no_distance = record { predecessor = record { 0 = 0 }; distance = record { 0 = 0 } }

-- These of each node's sending slot; 0 for places from N on.
unfoldable pub distances_of : Plan → Distances
distances_of P = record { nodes = over P.nodes.0 (λ i x. node_distance P (own P i)) (replicate 32 no_distance) }
