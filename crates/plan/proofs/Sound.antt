-- What refusals 1 to 9 let through: each fact of `Sound` is a test that did not hold.
use Prim.Native.Nat.{ℕ, ◌+◌, ◌≤◌, ◌<◌}
use mathlib.Core.Path.{◌≡◌, refl, sym, ◌∙◌}
use mathlib.Core.Bool.{Bool, true, false, ◌||◌}
use mathlib.Core.List.{◌++◌}
use native.Mathlib.Decide.{dec_lt}
use native.Mathlib.Omega.{arith}
use borrow.Author.Tests.{ltb-false, leb-false, eqb-false, eqb-true, eq-eqb, ne_eqb, le-ltb, lt-leb}
use lib.Dec.{eqb, leb, ltb}
use Rattle.std.specs.Prelude.{None, Some}
use Rattle.laws.proofs.Bools.{clash, or_false_left, or_false_right, or_neither, false_not_true}
use Rattle.laws.specs.Below.{any_below}
use Rattle.laws.specs.Row.{first_given}
use Rattle.laws.proofs.Rows.{all_off, off_all, parts_off, part_here, part_later}
use Rattle.laws.proofs.Belows.{any_not, any_never, any_some, any_found}
use Rattle.plan.specs.declared.Plan.{Plan}
use Rattle.plan.specs.declared.refusal.Refusal.{Refusal}
use Rattle.plan.specs.Sending.{own, sends}
use Rattle.plan.specs.Tested.{is_active_outside, is_guard_or_tail_wrong, is_min_or_max_wrong, some_not_active, shares_slot, some_shared, frame_rows, ticks_rows, slot_rows, plan_rows, plan_refusal, Sound}

-- the two halves of `outside`, and of a row of two or three tests, that did not hold
pub inside_low : (low high x : ℕ) → (ltb x low || ltb high x) ≡ false → low ≤ x
inside_low low high x h = ltb-false x low (or_false_left (ltb x low) (ltb high x) h)

pub inside_high : (low high x : ℕ) → (ltb x low || ltb high x) ≡ false → x ≤ high
inside_high low high x h = ltb-false high x (or_false_right (ltb x low) (ltb high x) h)

record ThreeOff (a b c : Bool) : Type 0 where
  pub first : a ≡ false
  pub second : b ≡ false
  pub third : c ≡ false

three_off : (a b c : Bool) → (a || b || c) ≡ false → ThreeOff a b c
three_off a b c h =
    let ab = or_false_left (a || b) c h in
    record { first = or_false_left a b ab; second = or_false_right a b ab; third = or_false_right (a || b) c h }

not_zero : (x : ℕ) → eqb x 0 ≡ false → 1 ≤ x
not_zero x h = omega (arith, eqb-false x 0 h)

apart_below : (P : Plan) (j i : ℕ) → shares_slot P i ≡ false → j < i → own P j ≡ own P i → i ≡ j
unfolding shares_slot
apart_below P j i h l e = clash (eqb (own P j) (own P i)) (eq-eqb (own P j) (own P i) e) (any_not i (λ k. eqb (own P k) (own P i)) h j l)

-- 32 nodes at most, as soon as 1 to 3 let a plan through
pub few_nodes : (P : Plan) → None ≡ first_given (frame_rows P) → P.nodes.0 ≤ 32
few_nodes P e = inside_high 3 32 P.nodes.0 (all_off (frame_rows P) (sym e)).0

-- the parts of the table in turn: the first that gives a refusal decides
pub frame_speaks : (P : Plan) (r : Refusal) → Some r ≡ first_given (frame_rows P) → Some r ≡ plan_refusal P
unfolding plan_refusal
frame_speaks P r e = sym (part_here (frame_rows P) (ticks_rows P ++ slot_rows P) r (sym e))

pub ticks_speak : (P : Plan) (r : Refusal) → None ≡ first_given (frame_rows P) → Some r ≡ first_given (ticks_rows P) → Some r ≡ plan_refusal P
unfolding plan_refusal
ticks_speak P r f e = sym (part_later (frame_rows P) (ticks_rows P ++ slot_rows P) (sym f) ∙ part_here (ticks_rows P) (slot_rows P) r (sym e))

pub slots_decide : (P : Plan) → None ≡ first_given (frame_rows P) → None ≡ first_given (ticks_rows P) → first_given (slot_rows P) ≡ plan_refusal P
unfolding plan_refusal
slots_decide P f t = sym (part_later (frame_rows P) (ticks_rows P ++ slot_rows P) (sym f) ∙ part_later (ticks_rows P) (slot_rows P) (sym t))

pub sound : (P : Plan) → plan_refusal P ≡ None → Sound P
unfolding plan_refusal is_active_outside is_guard_or_tail_wrong is_min_or_max_wrong some_not_active some_shared
sound P e =
    let none = parts_off (frame_rows P) (ticks_rows P ++ slot_rows P) e in
    let later = parts_off (ticks_rows P) (slot_rows P) none.1 in
    let frame = all_off (frame_rows P) none.0 in
    let ticks = all_off (ticks_rows P) later.0 in
    let slots = all_off (slot_rows P) later.1 in
    let active = frame.1.1.0 in
    let guards = three_off (eqb P.guard.0 0) (eqb P.tail.0 0) (ltb P.ticks.0 (P.guard.0 + P.tail.0 + 2)) ticks.1.0 in
    let times = three_off (eqb P.min.0 0) (ltb P.max.0 P.min.0) (ltb 2000000 P.max.0) ticks.1.1.0 in
    record {
      nodes_low = inside_low 3 32 P.nodes.0 frame.0;
      nodes_high = inside_high 3 32 P.nodes.0 frame.0;
      frame_low = inside_low 3 4096 P.frame.0 frame.1.0;
      frame_high = inside_high 3 4096 P.frame.0 frame.1.0;
      active_low = not_zero P.active.0 (or_false_left (eqb P.active.0 0) (ltb P.frame.0 P.active.0) active);
      active_high = ltb-false P.frame.0 P.active.0 (or_false_right (eqb P.active.0 0) (ltb P.frame.0 P.active.0) active);
      ticks_low = inside_low 4 255 P.ticks.0 ticks.0;
      ticks_high = inside_high 4 255 P.ticks.0 ticks.0;
      guard_low = not_zero P.guard.0 guards.first;
      tail_low = not_zero P.tail.0 guards.second;
      guard_tail = ltb-false P.ticks.0 (P.guard.0 + P.tail.0 + 2) guards.third;
      min_low = not_zero P.min.0 times.first;
      min_max = ltb-false P.max.0 P.min.0 times.second;
      max_high = ltb-false 2000000 P.max.0 times.third;
      own_active = λ i l. leb-false P.active.0 (own P i) (any_not P.nodes.0 (λ k. leb P.active.0 (own P k)) slots.0 i l);
      own_apart = λ i j hi hj q. apart (any_not P.nodes.0 (shares_slot P) slots.1.0) i j hi hj q;
      slot_0_sends = false_not_true (sends P 0) slots.1.1.0;
    }
  where
    apart : ((k : ℕ) → k < P.nodes.0 → shares_slot P k ≡ false) → (i j : ℕ) → i < P.nodes.0 → j < P.nodes.0 → own P i ≡ own P j → i ≡ j
    apart h i j hi hj q = go (dec_lt i j) (dec_lt j i)
      where
        go : Dec (i < j) → Dec (j < i) → i ≡ j
        go (yes l) d = sym (apart_below P i j (h j hj) l q)
        go (no l) (yes m) = apart_below P j i (h i hi) m (sym q)
        go (no l) (no m) = omega arith

-- a slot that some node sends in has a sender, and a sender's slot is one that some node sends in
pub record Sender (P : Plan) (s : ℕ) : Type 0 where
  pub by : ℕ
  pub below : by < P.nodes.0
  pub slot : own P by ≡ s

pub sends_by : (P : Plan) (s : ℕ) → sends P s ≡ true → Sender P s
unfolding sends
sends_by P s h =
    let w = any_some P.nodes.0 (λ i. eqb (own P i) s) h in
    record { by = w.at; below = w.below; slot = eqb-true (own P w.at) s w.passes }

pub own_sends : (P : Plan) (i : ℕ) → i < P.nodes.0 → sends P (own P i) ≡ true
unfolding sends
own_sends P i h = any_found P.nodes.0 i (λ j. eqb (own P j) (own P i)) h (eq-eqb (own P i) (own P i) refl)

-- a sending slot lies in the frame
pub own_in_frame : (P : Plan) → Sound P → (i : ℕ) → i < P.nodes.0 → own P i < P.frame.0
own_in_frame P o i h = omega (arith, o.own_active i h, o.active_high)

-- a sound plan is let through
inside : (low high x : ℕ) → low ≤ x → x ≤ high → (ltb x low || ltb high x) ≡ false
inside low high x l h = or_neither (ltb x low) (ltb high x) (le-ltb x low l) (le-ltb high x h)

three_not : (a b c : Bool) → a ≡ false → b ≡ false → c ≡ false → (a || b || c) ≡ false
three_not a b c d e f = or_neither (a || b) c (or_neither a b d e) f

some_zero : (x : ℕ) → 1 ≤ x → eqb x 0 ≡ false
some_zero x h = ne_eqb x 0 (omega arith)

pub passes : (P : Plan) → Sound P → plan_refusal P ≡ None
unfolding plan_refusal is_active_outside is_guard_or_tail_wrong is_min_or_max_wrong some_not_active some_shared shares_slot
passes P S =
    let active = or_neither (eqb P.active.0 0) (ltb P.frame.0 P.active.0) (some_zero P.active.0 S.active_low) (le-ltb P.frame.0 P.active.0 S.active_high) in
    let guards =
    three_not (eqb P.guard.0 0) (eqb P.tail.0 0) (ltb P.ticks.0 (P.guard.0 + P.tail.0 + 2)) (some_zero P.guard.0 S.guard_low) (some_zero P.tail.0 S.tail_low)
    (le-ltb P.ticks.0 (P.guard.0 + P.tail.0 + 2) S.guard_tail) in
    let times =
    three_not (eqb P.min.0 0) (ltb P.max.0 P.min.0) (ltb 2000000 P.max.0) (some_zero P.min.0 S.min_low) (le-ltb P.max.0 P.min.0 S.min_max)
    (le-ltb 2000000 P.max.0 S.max_high) in
    let each_active = any_never P.nodes.0 (λ i. leb P.active.0 (own P i)) (λ i l. lt-leb P.active.0 (own P i) (S.own_active i l)) in
    let none_shared =
    any_never P.nodes.0 (λ i. any_below i (λ k. eqb (own P k) (own P i)))
    (λ i l. any_never i (λ k. eqb (own P k) (own P i)) (λ k m. ne_eqb (own P k) (own P i) (λ e. omega (arith, S.own_apart k i (omega arith) l e)))) in
    off_all (plan_rows P) (
      inside 3 32 P.nodes.0 S.nodes_low S.nodes_high,
      (
        inside 3 4096 P.frame.0 S.frame_low S.frame_high,
        (
          active,
          (
            inside 4 255 P.ticks.0 S.ticks_low S.ticks_high,
            (
              guards,
              (
                times,
                (
                  each_active,
                  (
                    none_shared,
                    (rw S.slot_0_sends refl, tt),
                  ),
                ),
              ),
            ),
          ),
        ),
      ),
    )
