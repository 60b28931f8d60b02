-- Refusals 1 to 9: which of them speaks first against a plan, and what a plan is like that none speaks against.
use Rattle.std.specs.Prelude.{ℕ, ◌+◌, ◌≤◌, ◌<◌, ◌≡◌, Bool, true, not, ◌||◌, List, [], ◌∷◌, ◌++◌, Option, eqb, leb, ltb}
use Rattle.laws.specs.Row.{Row, given, first_given, outside}
use Rattle.laws.specs.Below.{any_below}
use Rattle.plan.specs.declared.Plan.{Plan}
use Rattle.plan.specs.declared.refusal.Refusal.{Refusal}
use Rattle.plan.specs.declared.refusal.Refusal.TheVariants.{NodesOutside, FrameOutside, ActiveOutside, TicksOutside, GuardOrTailWrong, MinOrMaxWrong, SlotNotActive, SlotShared, Slot0Silent}
use Rattle.plan.specs.Sending.{own, sends_below, sends}

-- n is 0 or above C.
unfoldable pub is_active_outside : Plan → Bool
is_active_outside P = eqb P.active.0 0 || ltb P.frame.0 P.active.0

-- g or t is 0, or g + t + 2 is above k0.
unfoldable pub is_guard_or_tail_wrong : Plan → Bool
is_guard_or_tail_wrong P = eqb P.guard.0 0 || eqb P.tail.0 0 || ltb P.ticks.0 (P.guard.0 + P.tail.0 + 2)

-- min is 0, min is above max, or max is above 2,000,000.
unfoldable pub is_min_or_max_wrong : Plan → Bool
is_min_or_max_wrong P = eqb P.min.0 0 || ltb P.max.0 P.min.0 || ltb 2000000 P.max.0

-- A sending slot is n or more.
unfoldable pub some_not_active : Plan → Bool
some_not_active P = any_below P.nodes.0 (λ i. leb P.active.0 (own P i))

-- Node i sends in the slot of a node before it.
unfoldable pub shares_slot : Plan → ℕ → Bool
shares_slot P i = sends_below P i (own P i)

-- Two nodes share a slot.
unfoldable pub some_shared : Plan → Bool
some_shared P = any_below P.nodes.0 (shares_slot P)

-- The rows of the table, each with its number.

-- 1: N is outside 3 to 32.
abbrev pub nodes_row : Plan → Row Refusal
nodes_row P = given NodesOutside (outside 3 32 P.nodes.0)

-- 2: C is outside 3 to 4,096.
abbrev pub frame_row : Plan → Row Refusal
frame_row P = given FrameOutside (outside 3 4096 P.frame.0)

-- 3
abbrev pub active_row : Plan → Row Refusal
active_row P = given ActiveOutside (is_active_outside P)

-- 4: k0 is outside 4 to 255.
abbrev pub ticks_row : Plan → Row Refusal
ticks_row P = given TicksOutside (outside 4 255 P.ticks.0)

-- 5
abbrev pub guard_or_tail_row : Plan → Row Refusal
guard_or_tail_row P = given GuardOrTailWrong (is_guard_or_tail_wrong P)

-- 6
abbrev pub min_or_max_row : Plan → Row Refusal
min_or_max_row P = given MinOrMaxWrong (is_min_or_max_wrong P)

-- 7
abbrev pub not_active_row : Plan → Row Refusal
not_active_row P = given SlotNotActive (some_not_active P)

-- 8
abbrev pub shared_row : Plan → Row Refusal
shared_row P = given SlotShared (some_shared P)

-- 9: nobody sends in slot 0.
abbrev pub slot0_row : Plan → Row Refusal
slot0_row P = given Slot0Silent (not (sends P 0))

-- The nodes and the frame: 1 to 3.
abbrev pub frame_rows : Plan → List (Row Refusal)
frame_rows P = nodes_row P ∷ frame_row P ∷ active_row P ∷ []

-- The ticks and the time between them: 4 to 6.
abbrev pub ticks_rows : Plan → List (Row Refusal)
ticks_rows P = ticks_row P ∷ guard_or_tail_row P ∷ min_or_max_row P ∷ []

-- The sending slots: 7 to 9.
abbrev pub slot_rows : Plan → List (Row Refusal)
slot_rows P = not_active_row P ∷ shared_row P ∷ slot0_row P ∷ []

-- The plan's rows, in the order of the tests: first those of its numbers, then those of its slots.
abbrev pub number_rows : Plan → List (Row Refusal)
number_rows P = frame_rows P ++ ticks_rows P

abbrev pub plan_rows : Plan → List (Row Refusal)
plan_rows P = number_rows P ++ slot_rows P

-- The first of refusals 1 to 9 that speaks against a plan; none where they let it through.
unfoldable pub plan_refusal : Plan → Option Refusal
plan_refusal P = first_given (plan_rows P)

-- What a plan is like that refusals 1 to 9 let through.
pub record Sound (P : Plan) : Type 0 where
  pub nodes_low : 3 ≤ P.nodes.0
  pub nodes_high : P.nodes.0 ≤ 32
  pub frame_low : 3 ≤ P.frame.0
  pub frame_high : P.frame.0 ≤ 4096
  pub active_low : 1 ≤ P.active.0
  pub active_high : P.active.0 ≤ P.frame.0
  pub ticks_low : 4 ≤ P.ticks.0
  pub ticks_high : P.ticks.0 ≤ 255
  pub guard_low : 1 ≤ P.guard.0
  pub tail_low : 1 ≤ P.tail.0
  pub guard_tail : P.guard.0 + P.tail.0 + 2 ≤ P.ticks.0
  pub min_low : 1 ≤ P.min.0
  pub min_max : P.min.0 ≤ P.max.0
  pub max_high : P.max.0 ≤ 2000000
  pub own_active : (i : ℕ) → i < P.nodes.0 → own P i < P.active.0
  pub own_apart : (i j : ℕ) → i < P.nodes.0 → j < P.nodes.0 → own P i ≡ own P j → i ≡ j
  pub slot_0_sends : sends P 0 ≡ true
