-- The predecessor of a slot: the search backwards stops at a sending slot, and passes none.
-- The idea: while another sending slot lies no nearer than the search has come, and nearer than it may go, it cannot run out.
use Prim.Native.Nat.{ℕ, zero, suc, ◌+◌, ◌-◌, ◌≤◌, ◌<◌}
use mathlib.Core.Path.{◌≡◌, refl, sym}
use mathlib.Core.Logic.{◌≢◌}
use mathlib.Core.Bool.{Bool, true, false}
use native.Mathlib.Decide.{dec_le, ℕ_discrete}
use native.Mathlib.Omega.{arith}
use Rattle.laws.specs.Ring.{distance}
use Rattle.laws.proofs.Bools.{clash}
use Rattle.laws.proofs.Ring.{distance_below, distance_self, distance_same_to, distance_apart, distance_rest, before_below, distance_back, before_away}
use Rattle.plan.specs.declared.Plan.{Plan}
use Rattle.plan.specs.Sending.{own, sends}
use Rattle.plan.specs.Tested.{Sound}
use Rattle.plan.proofs.Sound.{own_sends, own_in_frame}
use Rattle.gap.specs.Gap.{slot_before, nearest, predecessor_among, predecessor, distance_before}
use Rattle.gap.proofs.Facts.{Nearest, NextSlot, Before, next_sender}
use Rattle.gap.proofs.Others.{other}

module _ (sending : ℕ → Bool) (C s : ℕ) (hs : s < C) where
  -- no sending slot other than s lies fewer than e slots before it
  Clear : ℕ → Type 0
  Clear e = (x : ℕ) → x < C → sending x ≡ true → x ≢ s → e ≤ distance C x s

  clear_more : (at : ℕ) → at < C → sending at ≡ false → Clear (distance C at s) → Clear (distance C at s + 1)
  unfolding Clear
  clear_more at ha q clear x hx sx n = go (ℕ_discrete (distance C at s) (distance C x s))
    where
      go : Dec (distance C at s ≡ distance C x s) → distance C at s + 1 ≤ distance C x s
      go (yes e) = clash (sending at) (let z : x ≡ at = distance_same_to C x at s hx ha hs (sym e) in rw z at sx) q
      go (no d) = omega (arith, clear x hx sx n)

  module _ (w : ℕ) (hw : w < C) (sw : sending w ≡ true) (nw : w ≢ s) where
    nearest_stops : (left at : ℕ) → at < C → at ≢ s → distance C w s < distance C at s + left → Clear (distance C at s) → Nearest sending C s (nearest sending C left at)
    unfolding nearest Clear
    nearest_stops zero at ha na h clear = absurd (omega (arith, clear w hw sw nw))
    nearest_stops (suc left) at ha na h clear = go (sending at) refl (nearest_stops left (slot_before C at))
      where
        go : (b : Bool) → sending at ≡ b
            → (slot_before C at < C → slot_before C at ≢ s → distance C w s < distance C (slot_before C at) s + left → Clear (distance C (slot_before C at) s) → Nearest sending C s (nearest sending C left (slot_before C at)))
            → Nearest sending C s (nearest sending C (suc left) at)
        go true q more = rw (nearest, q) (record { within = ha; sent = q; other = na; near = clear })
        go false q more =
            let clear' = clear_more at ha q clear in
            let back = distance_back C at s ha hs (omega (arith, clear' w hw sw nw, distance_below C w s (omega arith))) in
            let far : slot_before C at ≢ s = λ z. absurd (let y : distance C s s ≡ distance C at s + 1 = rw z at back in omega (arith, distance_self C s hs)) in
            rw (nearest, q) (more (before_below C at (omega arith)) far (omega (arith, back)) (rw back clear'))

    pub predecessor_nearest : Nearest sending C s (predecessor_among sending C s)
    unfolding Clear
    predecessor_nearest =
        let one = distance_apart C w s hw hs nw in
        let two : 1 < C = omega (arith, one, distance_below C w s (omega arith)) in
        let back = before_away C s two hs in
        let far : slot_before C s ≢ s = λ z. absurd (let y : distance C s s ≡ 1 = rw z at back in omega (arith, distance_self C s hs)) in
        nearest_stops (C - 1) (slot_before C s) (before_below C s (omega arith)) far (omega (arith, back, distance_below C w s (omega arith)))
        (λ x hx sx n. omega (arith, back, distance_apart C x s hx hs n))

  -- and s, where somebody sends in it, is the next sending slot after its predecessor
  pub nearest_next : (q : ℕ) → sending s ≡ true → Nearest sending C s q → NextSlot sending C q (distance C q s)
  nearest_next q ss n =
      record {
        one = distance_apart C q s n.within hs n.other;
        short = distance_below C q s (omega arith);
        slot = s;
        within = hs;
        sent = ss;
        away = refl;
        near = λ x hx sx l. go x hx sx l (dec_le (distance C q s) (distance C q x)) (ℕ_discrete x s);
      }
    where
      go : (x : ℕ) → x < C → sending x ≡ true → 1 ≤ distance C q x → Dec (distance C q s ≤ distance C q x) → Dec (x ≡ s) → distance C q s ≤ distance C q x
      go x hx sx l (yes h) d = h
      go x hx sx l (no h) (yes e) = rw e (omega arith)
      go x hx sx l (no h) (no e) = omega (arith, n.near x hx sx e, distance_rest C q x s n.within hx hs (omega arith))

module _ (P : Plan) (o : Sound P) (i : ℕ) (hi : i < P.nodes.0) where
  pub own_nearest : Nearest (sends P) P.frame.0 (own P i) (predecessor P (own P i))
  unfolding predecessor
  own_nearest =
      let w = other P o (own P i) in
      predecessor_nearest (sends P) P.frame.0 (own P i) (own_in_frame P o i hi)
      (own P w.by) (own_in_frame P o w.by w.below) (own_sends P w.by w.below) w.silent

  pub before_own : Before P i (predecessor P (own P i))
  unfolding predecessor distance_before
  before_own =
      let n = own_nearest in
      record {
        within = n.within;
        sending = n.sent;
        other = n.other;
        away = refl;
        next = next_sender P o _ _ (nearest_next (sends P) P.frame.0 (own P i) (own_in_frame P o i hi) (predecessor P (own P i)) (own_sends P i hi) n);
      }
