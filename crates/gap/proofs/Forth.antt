-- The next sending slot after any slot p: it is there, nothing sends nearer, and it is at most M away.
use Prim.Native.Nat.{ℕ, zero, suc, ◌+◌, ◌-◌, ◌%◌, ◌≤◌, ◌<◌}
use mathlib.Core.Path.{◌≡◌, refl, sym}
use mathlib.Core.Logic.{◌≢◌}
use mathlib.Core.Bool.{Bool, true, false}
use native.Mathlib.Nat.{mod-lt}
use native.Mathlib.Decide.{dec_le, ℕ_discrete}
use native.Mathlib.Omega.{arith}
use Rattle.laws.specs.Below.{first_from}
use Rattle.laws.specs.Ring.{distance}
use Rattle.laws.proofs.Bools.{clash}
use Rattle.laws.proofs.Belows.{largest_above}
use Rattle.laws.proofs.Ring.{distance_below, distance_apart, distance_part, distance_on, place_on}
use Rattle.plan.specs.declared.Plan.{Plan}
use Rattle.plan.specs.Sending.{own, sends}
use Rattle.plan.specs.Tested.{Sound}
use Rattle.plan.proofs.Sound.{sends_by, own_sends, own_in_frame}
use Rattle.gap.specs.Gap.{predecessor, distance_before, distance_for, gap_of}
use Rattle.gap.proofs.Facts.{Nearest, slots_to_next_among, NextSlot, slots_to_next, NextAt, next_sender}
use Rattle.gap.proofs.Others.{other}
use Rattle.gap.proofs.Back.{own_nearest}

-- what a search forward from i finds, where it is known that it finds something
record FirstAt (f : ℕ → Bool) (i k : ℕ) : Type 0 where
  pub low : i ≤ k
  pub passes : f k ≡ true
  pub clear : (j : ℕ) → i ≤ j → j < k → f j ≡ false

first_found_from : (f : ℕ → Bool) (left i far : ℕ) → i ≤ far → far < i + left → f far ≡ true → FirstAt f i (first_from f left i)
unfolding first_from
first_found_from f zero i far h1 h2 t = absurd (omega arith)
first_found_from f (suc left) i far h1 h2 t = go (f i) refl (first_found_from f left (suc i) far)
  where
    go : (b : Bool) → f i ≡ b → (suc i ≤ far → far < suc i + left → f far ≡ true → FirstAt f (suc i) (first_from f left (suc i))) → FirstAt f i (first_from f (suc left) i)
    go true e r = rw (first_from, e) (record { low = omega arith; passes = e; clear = λ j l m. absurd (omega arith) })
    go false e r =
        let n : i ≢ far = λ z. clash (f i) (rw (← z) at t) e in
        let w = r (omega arith) (omega arith) t in
        rw (first_from, e) (record { low = omega (arith, w.low); passes = w.passes; clear = λ j l m. at j l m w (ℕ_discrete j i) })
      where
        at : (j : ℕ) → i ≤ j → j < first_from f left (suc i) → FirstAt f (suc i) (first_from f left (suc i)) → Dec (j ≡ i) → f j ≡ false
        at j l m w (yes q) = rw q e
        at j l m w (no q) = w.clear j (omega arith) m

-- the first number found lies below the one known
first_no_later : (f : ℕ → Bool) (i k far : ℕ) → FirstAt f i k → i ≤ far → f far ≡ true → k ≤ far
first_no_later f i k far w h t = go (dec_le k far)
  where
    go : Dec (k ≤ far) → k ≤ far
    go (yes l) = l
    go (no l) = clash (f far) t (w.clear far h (omega arith))

module _ (sending : ℕ → Bool) (C p : ℕ) (hp : p < C) where
  -- a sending slot passes the search at its distance
  passes_at : (x : ℕ) → x < C → sending x ≡ true → sending ((p + distance C p x) % C) ≡ true
  passes_at x hx sx = rw (place_on C p x hp hx) sx

  pub next_slot : (w : ℕ) → w < C → sending w ≡ true → w ≢ p → NextSlot sending C p (slots_to_next_among sending C p)
  next_slot w hw sw n =
      let f : ℕ → Bool = λ d. sending ((p + d) % C) in
      let k = slots_to_next_among sending C p in
      let far = distance C p w in
      let lf : far < C = distance_below C p w (omega arith) in
      let one : 1 ≤ far = distance_apart C p w hp hw (λ z. n (sym z)) in
      let first : FirstAt f 1 k = first_found_from f (C - 1) 1 far one (omega arith) (passes_at w hw sw) in
      let le : k ≤ far = first_no_later f 1 k far first one (passes_at w hw sw) in
      record {
        one = first.low;
        short = omega arith;
        slot = (p + k) % C;
        within = mod-lt (p + k) (omega arith);
        sent = first.passes;
        away = distance_on C p k hp (omega arith);
        near = λ x hx sx h. first_no_later f 1 k (distance C p x) first h (passes_at x hx sx);
      }

  -- the next sending slot is no farther than its own predecessor
  pub next_no_farther : (k q : ℕ) (n : NextSlot sending C p k) → Nearest sending C n.slot q → k ≤ distance C q n.slot
  next_no_farther k q n b = go (dec_le k (distance C q n.slot))
    where
      go : Dec (k ≤ distance C q n.slot) → k ≤ distance C q n.slot
      go (yes l) = l
      go (no l) =
          let part = distance_part C p q n.slot hp b.within n.within (omega (arith, n.away)) in
          let one = distance_apart C q n.slot b.within n.within b.other in
          absurd (omega (arith, part, n.away, n.near q b.within b.sent (omega (arith, part, n.away))))

module _ (P : Plan) (o : Sound P) (p : ℕ) (hp : p < P.frame.0) where
  next_sending : NextSlot (sends P) P.frame.0 p (slots_to_next P p)
  unfolding slots_to_next
  next_sending =
      let w = other P o p in
      next_slot (sends P) P.frame.0 p hp (own P w.by) (own_in_frame P o w.by w.below) (own_sends P w.by w.below) w.silent

  pub next_at : NextAt P p (slots_to_next P p)
  next_at = next_sender P o p (slots_to_next P p) next_sending

  pub next_within : slots_to_next P p ≤ gap_of P
  unfolding gap_of predecessor distance_before
  next_within =
      let n = next_sending in
      let b = sends_by P n.slot n.sent in
      let q : Nearest (sends P) P.frame.0 n.slot (predecessor P n.slot) = rw b.slot at (own_nearest P o b.by b.below) in
      let no-farther = next_no_farther (sends P) P.frame.0 p hp (slots_to_next P p) (predecessor P n.slot) n q in
      let largest = largest_above P.nodes.0 (distance_for P) b.by b.below in
      omega (arith, no-farther, rw b.slot at largest)
