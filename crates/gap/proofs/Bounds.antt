-- How long M can be: 1 to C − 1, and to C − 2 with three senders.
use Prim.Native.Nat.{ℕ, ◌-◌, ◌≤◌, ◌<◌}
use mathlib.Core.Path.{◌≡◌}
use mathlib.Core.Logic.{◌≢◌}
use mathlib.Core.Bool.{Bool, true}
use native.Mathlib.Omega.{arith}
use Rattle.laws.specs.Ring.{distance}
use Rattle.laws.proofs.Belows.{largest_above, largest_within}
use Rattle.laws.proofs.Ring.{distance_below, distance_same_to}
use Rattle.plan.specs.declared.Plan.{Plan}
use Rattle.plan.specs.Sending.{own, sends}
use Rattle.plan.specs.Tested.{Sound}
use Rattle.plan.proofs.Sound.{own_sends, own_in_frame}
use Rattle.gap.specs.Gap.{predecessor, distance_before, distance_for, gap_of}
use Rattle.gap.proofs.Facts.{Nearest}
use Rattle.gap.proofs.Others.{third}
use Rattle.gap.proofs.Back.{own_nearest, before_own}

-- a third sending slot lies beyond each distance
pub third_beyond : (sending : ℕ → Bool) (C s q t : ℕ) → s < C → Nearest sending C s q → t < C → sending t ≡ true → t ≢ q → t ≢ s → distance C q s ≤ C - 2
third_beyond sending C s q t hs n ht st nq ns =
    let apart : distance C t s ≢ distance C q s = λ e. nq (distance_same_to C t q s ht n.within hs e) in
    omega (arith, n.near t ht st ns, distance_below C t s (omega arith))

module _ (P : Plan) (o : Sound P) where
  pub gap_low : 1 ≤ gap_of P
  unfolding gap_of distance_before
  gap_low =
      let h : 0 < P.nodes.0 = omega (arith, o.nodes_low) in
      omega (arith, (before_own P o 0 h).next.one, largest_above P.nodes.0 (distance_for P) 0 h)

  distance_within : (i : ℕ) → i < P.nodes.0 → distance_for P i ≤ P.frame.0 - 2
  unfolding predecessor distance_before
  distance_within i hi =
      let t = third P o (predecessor P (own P i)) (own P i) in
      third_beyond (sends P) P.frame.0 (own P i) (predecessor P (own P i)) (own P t.by) (own_in_frame P o i hi) (own_nearest P o i hi)
      (own_in_frame P o t.by t.below) (own_sends P t.by t.below) t.not_first t.not_second

  pub gap_within : gap_of P ≤ P.frame.0 - 2
  unfolding gap_of distance_before
  gap_within = largest_within P.nodes.0 (distance_for P) (P.frame.0 - 2) distance_within

  pub gap_below_frame : gap_of P < P.frame.0
  gap_below_frame = omega (arith, gap_within, o.frame_low)
