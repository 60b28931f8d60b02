-- The parts that a failed rule's run is played with: from the plan and its verdict to facts on numbers.
use Prim.Native.Nat.{ℕ, ◌≤◌, ◌<◌}
use mathlib.Core.Path.{◌≡◌, refl, sym, ap, ◌∙◌}
use mathlib.Core.Logic.{◌≢◌}
use mathlib.Core.Bool.{Bool, true, false, ◌&&◌}
use native.Mathlib.Omega.{arith}
use borrow.Author.Tests.{eqb-true, eqb-false, eq-eqb, ne_eqb}
use lib.Dec.{eqb}
use Rattle.laws.specs.Below.{first_below}
use Rattle.laws.specs.Ring.{distance}
use Rattle.laws.proofs.Bools.{and_true_left, and_true_right, true_not_false}
use Rattle.laws.proofs.Belows.{first_passes, largest_reached, least_under, least_reached}
use Rattle.plan.specs.declared.Plan.{Plan}
use Rattle.plan.specs.Sending.{own, sends}
use Rattle.plan.specs.Tested.{Sound}
use Rattle.plan.proofs.Sound.{sends_by}
use Rattle.gap.specs.Gap.{predecessor, distance_before, distance_for, gap_of}
use Rattle.gap.proofs.Facts.{Before}
use Rattle.gap.proofs.Others.{other, third}
use Rattle.gap.proofs.Back.{before_own}
use Rattle.gap.proofs.Bounds.{gap_low}
use Rattle.rules.specs.declared.Rule.{Rule}
use Rattle.rules.specs.declared.Rule.TheVariants.{One, Two, Three}
use Rattle.std.specs.Prelude.{Some}
use Rattle.rules.specs.Rules.{sides_at, verdict_at, verdict_of}
use Rattle.rules.proofs.Failing.{named, one_fails, two_fails, three_fails}
use Rattle.shown.specs.declared.Parts.{Parts}
use Rattle.shown.specs.Parts.{predecessor_at, widest_from, widest_node, sender_in, silent_in, parts_with, parts_for}
use Rattle.shown.proofs.Roles.{Roles, far_of, Failure, one, two, three, far_away}

module _ (P : Plan) (S : Sound P) where
  -- the sender of a slot in which somebody sends
  sender_sends : (s : ℕ) → sends P s ≡ true → (sender_in P s < P.nodes.0) × (own P (sender_in P s) ≡ s)
  sender_sends s h =
      let w = sends_by P s h in
      let f = first_passes P.nodes.0 w.by (λ i. eqb (own P i) s) w.below (eq-eqb (own P w.by) s w.slot) in
      (f.0, eqb-true (own P (sender_in P s)) s f.1)

  -- the node that sends in s: its slot has D = M, and p is the slot's predecessor
  pub record Widest (b p : ℕ) : Type 0 where
    pub below : b < P.nodes.0
    pub gap : distance_for P b ≡ gap_of P
    pub from : predecessor P (own P b) ≡ p

  widest_by : (p i : ℕ) → p < P.frame.0 → i < P.nodes.0 → predecessor_at P (gap_of P) i ≡ p → Widest i p
  unfolding predecessor_at
  widest_by p i hp hi e = go (eqb (distance_for P i) (gap_of P)) refl
    where
      go : (b : Bool) → eqb (distance_for P i) (gap_of P) ≡ b → Widest i p
      go true q = record { below = hi; gap = eqb-true (distance_for P i) (gap_of P) q; from = rw q at e }
      go false q = absurd (let z : P.frame.0 ≡ p = rw q at e in omega arith)

  pub widest : Widest (widest_node P) (widest_from P)
  unfolding gap_of distance_before widest_from widest_node predecessor_at
  widest =
      let w = largest_reached P.nodes.0 (distance_for P) (omega (arith, S.nodes_low)) in
      let at : predecessor_at P (gap_of P) w.at ≡ predecessor P (own P w.at) = rw (eq-eqb (distance_for P w.at) (gap_of P) w.value) in
      let low = least_under P.frame.0 P.nodes.0 (predecessor_at P (gap_of P)) w.at w.below in
      let within = (before_own P S w.at w.below).within in
      let l = least_reached P.frame.0 P.nodes.0 (predecessor_at P (gap_of P)) w.at w.below (omega arith) in
      let f = first_passes P.nodes.0 l.at (λ i. eqb (predecessor_at P (gap_of P) i) (widest_from P)) l.below (eq-eqb (predecessor_at P (gap_of P) l.at) (widest_from P) l.value) in
      widest_by (widest_from P) (widest_node P) (omega arith) f.0 (eqb-true (predecessor_at P (gap_of P) (widest_node P)) (widest_from P) f.1)

  -- p of rules 1 and 2 is a sending slot, b is the first to send after it, and that M slots later
  widest_before : Before P (widest_node P) (widest_from P)
  widest_before = let z : predecessor P (own P (widest_node P)) ≡ widest_from P = widest.from in rw z at (before_own P S (widest_node P) widest.below)

  module _ (parts : Parts) (R : Roles P parts) (e : parts.p.0 ≡ widest_from P) where
    widest_far : far_of P parts (widest_node P) ≡ gap_of P
    widest_far = rw e (widest_before.away ∙ widest.gap)

    widest_near : (j : ℕ) → j < P.nodes.0 → own P j ≢ parts.p.0 → far_of P parts (widest_node P) ≤ far_of P parts j
    widest_near j l n =
        let z : 1 ≤ distance P.frame.0 (widest_from P) (own P j) = rw e at (far_away R j l n) in
        rw (e, widest_before.away) (widest_before.next.near j l z)

  silent_away : (s i : ℕ) → silent_in P s i ≡ true → own P i ≢ s
  silent_away s i h = eqb-false (own P i) s (true_not_false (eqb (own P i) s) h)

  -- parts with p a sending slot and a fast node that doesn't send in it
  roles_with : (p fast : ℕ) → sends P p ≡ true → fast < P.nodes.0 → own P fast ≢ p → Roles P (parts_with P p fast)
  roles_with p fast s l n = let w = sender_sends p s in record { sound = S; sender_below = w.0; sender_own = w.1; fast_below = l; fast_away = n }

  pub record Cast (parts : Parts) : Type 0 where
    pub roles : Roles P parts
    pub failure : Failure P parts

  pub cast : (rule : Rule) → (verdict_of P).failed ≡ Some rule → Cast (parts_for P rule)
  unfolding verdict_of verdict_at sides_at parts_for
  cast One h =
      let R = roles_with (widest_from P) (widest_node P) widest_before.sending widest.below (λ e. widest_before.other (sym e)) in
      let r = one_fails P.ticks.0 P.guard.0 P.min.0 P.max.0 (gap_of P) (gap_low P S) S.guard_low (omega (arith, S.guard_tail)) (named (sides_at P (gap_of P)) One h) in
      record { roles = R; failure = one (record { near = widest_near (parts_for P One) R refl; rule = rw (widest_far (parts_for P One) R refl) r }) }
  cast Two h =
      let p = widest_from P in
      let b = widest_node P in
      let t = third P S p (own P b) in
      let test : ℕ → Bool = λ i. silent_in P p i && silent_in P (own P b) i in
      let f = first_passes P.nodes.0 t.by test t.below (rw (ne_eqb (own P t.by) p t.not_first, ne_eqb (own P t.by) (own P b) t.not_second)) in
      let i = first_below P.nodes.0 test in
      let off-p = silent_away p i (and_true_left (silent_in P p i) (silent_in P (own P b) i) f.1) in
      let off-s = silent_away (own P b) i (and_true_right (silent_in P p i) (silent_in P (own P b) i) f.1) in
      let R = roles_with p i widest_before.sending f.0 off-p in
      let r = two_fails P.ticks.0 P.guard.0 P.min.0 P.max.0 (gap_of P) (omega (arith, S.guard_tail)) (named (sides_at P (gap_of P)) Two h) in
      record {
        roles = R;
        failure =
            two b (record {
              below = widest.below;
              away = λ e. widest_before.other (sym e);
              other = λ e. off-s (ap (own P) (sym e));
              near = widest_near (parts_with P p i) R refl;
              rule = rw (widest_far (parts_with P p i) R refl) r;
            });
      }
  cast Three h =
      let t = other P S 0 in
      let f = first_passes P.nodes.0 t.by (silent_in P 0) t.below (rw (ne_eqb (own P t.by) 0 t.silent)) in
      let i = first_below P.nodes.0 (silent_in P 0) in
      let r = three_fails P.ticks.0 P.guard.0 P.min.0 P.max.0 P.tail.0 S.guard_tail (named (sides_at P (gap_of P)) Three h) in
      record { roles = roles_with 0 i S.slot_0_sends f.0 (silent_away 0 i f.1); failure = three (record { rule = r }) }
