-- The refusals and their numbers, one table in the order of the tests. Every crate that gives one cites it from here.
use Rattle.std.specs.Prelude.{ℕ, Option, None, Some, Result}
use Rattle.std.specs.Result.{result_err}
use Rattle.plan.specs.declared.refusal.Refusal.{Refusal}
use Rattle.plan.specs.declared.refusal.Refusal.TheVariants.{NotAPlanFile, VersionUnknown, LengthWrong, NodesOutside, FrameOutside, ActiveOutside, TicksOutside, GuardOrTailWrong, MinOrMaxWrong, SlotNotActive, SlotShared, Slot0Silent, LineWrong, RunOutside, OutOfStep, NodeUnknown, TickTooEarly, DelayBeforeSend, DelayWrong, NotAboutToSend, ReckoningBelow0}

-- Each refusal's number.
abbrev pub number_of : Refusal → ℕ
-- fewer than 5 bytes, or mark not `CSP`.
number_of NotAPlanFile = 20
-- version not 1.
number_of VersionUnknown = 21
-- fewer than 21 bytes, or length not 21 + 2 × N.
number_of LengthWrong = 22
-- N outside 3..32.
number_of NodesOutside = 1
-- C outside 3..4096.
number_of FrameOutside = 2
-- n is 0 or above C.
number_of ActiveOutside = 3
-- k0 outside 4..255.
number_of TicksOutside = 4
-- g or t is 0, or g + t + 2 > k0.
number_of GuardOrTailWrong = 5
-- min is 0, min > max, or max > 2,000,000.
number_of MinOrMaxWrong = 6
-- a sending slot is n or more.
number_of SlotNotActive = 7
-- two nodes share a slot.
number_of SlotShared = 8
-- nobody sends in slot 0.
number_of Slot0Silent = 9
-- a step line of another shape, or a number in it above 4,294,967,295.
number_of LineWrong = 19
-- a number of the run state lies outside its range.
number_of RunOutside = 10
-- the state is out of step and a step is asked.
number_of OutOfStep = 11
-- node number N or more.
number_of NodeUnknown = 12
-- tick too early.
number_of TickTooEarly = 13
-- delay while a node is about to send.
number_of DelayBeforeSend = 15
-- delay 0, or a node would pass max.
number_of DelayWrong = 14
-- send by a node not about to send.
number_of NotAboutToSend = 16
-- reckoning below 0.
number_of ReckoningBelow0 = 17

-- The number of what speaks against something: 0 where nothing does.
abbrev pub number_in : Option Refusal → ℕ
number_in None = 0
number_in (Some r) = number_of r

-- The number of an answer: 0 where it is no refusal.
module _ {A : Type 0} where
  abbrev pub refused_number : Result A Refusal → ℕ
  refused_number answer = number_in (result_err answer)
