-- After `place` turns the first so many places hold the file's slots, the others 0.
use Rattle.std.proofs.Common.{◌≡◌, replicate}
use Rattle.plan_file.specs.File.{slot_at}
use Rattle.laws.specs.Over.{over}
use Rattle.plan_file.proofs.slots_in.Given as goal

abbrev pub invariant-loop-place : goal.invariant-loop-place
invariant-loop-place l = l.slot-items ≡ over l.place (λ k x. record { 0 = slot_at l.file k }) (replicate 32 (record { 0 = 0 }))
