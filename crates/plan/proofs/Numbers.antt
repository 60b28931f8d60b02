-- No refusal has the number 0, which stands for an answer that is no refusal.
use Prim.Native.Nat.{ℕ, ◌≤◌}
use native.Mathlib.Omega.{arith}
use Rattle.plan.specs.declared.refusal.Refusal.{Refusal}
use Rattle.plan.specs.declared.refusal.Refusal.TheVariants.{NotAPlanFile, VersionUnknown, LengthWrong, NodesOutside, FrameOutside, ActiveOutside, TicksOutside, GuardOrTailWrong, MinOrMaxWrong, SlotNotActive, SlotShared, Slot0Silent, LineWrong, RunOutside, OutOfStep, NodeUnknown, TickTooEarly, DelayBeforeSend, DelayWrong, NotAboutToSend, ReckoningBelow0}
use Rattle.plan.specs.Refusals.{number_of}

pub number_not_0 : (r : Refusal) → 1 ≤ number_of r
number_not_0 NotAPlanFile = omega arith
number_not_0 VersionUnknown = omega arith
number_not_0 LengthWrong = omega arith
number_not_0 NodesOutside = omega arith
number_not_0 FrameOutside = omega arith
number_not_0 ActiveOutside = omega arith
number_not_0 TicksOutside = omega arith
number_not_0 GuardOrTailWrong = omega arith
number_not_0 MinOrMaxWrong = omega arith
number_not_0 SlotNotActive = omega arith
number_not_0 SlotShared = omega arith
number_not_0 Slot0Silent = omega arith
number_not_0 LineWrong = omega arith
number_not_0 RunOutside = omega arith
number_not_0 OutOfStep = omega arith
number_not_0 NodeUnknown = omega arith
number_not_0 TickTooEarly = omega arith
number_not_0 DelayBeforeSend = omega arith
number_not_0 DelayWrong = omega arith
number_not_0 NotAboutToSend = omega arith
number_not_0 ReckoningBelow0 = omega arith
