-- What it means that a step is legal, kind by kind, and what a step that is done leads to.
use Prim.Native.Nat.{ℕ, ◌+◌, ◌≤◌, ◌<◌}
use mathlib.Core.Path.{◌≡◌, refl, ap}
use mathlib.Core.Bool.{Bool, true, false, not}
use mathlib.Core.List.{◌∷◌}
use Rattle.std.specs.Prelude.{Option, None, Some, Ok}
use native.Mathlib.Omega.{arith}
use borrow.Author.Tests.{ltb-false, leb-false, eqb-false, ne_eqb, le-ltb, lt-leb}
use lib.Dec.{eqb, ltb}
use Rattle.laws.specs.Row.{given, unless}
use Rattle.laws.specs.Below.{any_below}
use Rattle.laws.proofs.Bools.{or_false_left, or_false_right, or_neither, false_not_true}
use Rattle.laws.proofs.Rows.{all_off, off_all}
use Rattle.laws.proofs.Belows.{any_not, any_never}
use Rattle.plan.specs.declared.Plan.{Plan}
use Rattle.plan.specs.declared.refusal.Refusal.{Refusal}
use Rattle.plan.specs.declared.refusal.Refusal.TheVariants.{RunOutside, OutOfStep}
use Rattle.plan.specs.Tested.{plan_refusal}
use Rattle.run.specs.declared.Run.{Run}
use Rattle.run.specs.declared.Step.{Step}
use Rattle.run.specs.declared.Step.TheVariants.{Delay, TickOf, SendOf}
use Rattle.run.specs.State.{node, is_about, in_range, is_out_of_step}
use Rattle.run.specs.Moves.{moved}
use Rattle.run.specs.Steps.{step_rows, step_refusal, step_tested, step_of}

-- a delay is legal: it is one, nobody is about to send, nobody passes max
pub record DelayLegal (P : Plan) (r : Run) (d : ℕ) : Type 0 where
  pub some : 1 ≤ d
  pub none_about : (i : ℕ) → i < P.nodes.0 → is_about (node r i).mode ≡ false
  pub within : (i : ℕ) → i < P.nodes.0 → (node r i).time.0 + d ≤ P.max.0

pub record TickLegal (P : Plan) (r : Run) (i : ℕ) : Type 0 where
  pub below : i < P.nodes.0
  pub ripe : P.min.0 ≤ (node r i).time.0

pub record SendLegal (P : Plan) (r : Run) (i : ℕ) : Type 0 where
  pub below : i < P.nodes.0
  pub about : is_about (node r i).mode ≡ true

-- what refusals 12 to 16 let through, by the kind of step
abbrev pub KindLegal : Plan → Run → Step → Type 0
KindLegal P r (Delay d) = DelayLegal P r d.0
KindLegal P r (TickOf i) = TickLegal P r i.0
KindLegal P r (SendOf i) = SendLegal P r i.0

-- what refusals 10 to 16 let through
pub record StepLegal (P : Plan) (r : Run) (s : Step) : Type 0 where
  pub range : in_range P r ≡ true
  pub together : is_out_of_step P r ≡ false
  pub kind : KindLegal P r s

module _ (P : Plan) (r : Run) where
  passes_max : ℕ → ℕ → Bool
  passes_max d i = ltb P.max.0 ((node r i).time.0 + d)

  pub legal_step : (s : Step) → step_refusal P r s ≡ None → StepLegal P r s
  unfolding step_refusal passes_max
  legal_step (Delay d) h =
      let o = all_off (given RunOutside (not (in_range P r)) ∷ given OutOfStep (is_out_of_step P r) ∷ step_rows P r (Delay d)) h in
      let late = o.1.1.1.0 in
      record {
        range = false_not_true (in_range P r) o.0;
        together = o.1.0;
        kind =
            record {
              some = omega (arith, eqb-false d.0 0 (or_false_left (eqb d.0 0) (any_below P.nodes.0 (passes_max d.0)) late));
              none_about = any_not P.nodes.0 (λ i. is_about (node r i).mode) o.1.1.0;
              within = λ i l. ltb-false P.max.0 ((node r i).time.0 + d.0) (any_not P.nodes.0 (passes_max d.0) (or_false_right (eqb d.0 0) (any_below P.nodes.0 (passes_max d.0)) late) i l);
            };
      }
  legal_step (TickOf i) h =
      let o = all_off (given RunOutside (not (in_range P r)) ∷ given OutOfStep (is_out_of_step P r) ∷ step_rows P r (TickOf i)) h in
      record {
        range = false_not_true (in_range P r) o.0;
        together = o.1.0;
        kind =
            record {
              below = leb-false P.nodes.0 i.0 o.1.1.0;
              ripe = ltb-false (node r i.0).time.0 P.min.0 o.1.1.1.0;
            };
      }
  legal_step (SendOf i) h =
      let o = all_off (given RunOutside (not (in_range P r)) ∷ given OutOfStep (is_out_of_step P r) ∷ step_rows P r (SendOf i)) h in
      record {
        range = false_not_true (in_range P r) o.0;
        together = o.1.0;
        kind =
            record {
              below = leb-false P.nodes.0 i.0 o.1.1.0;
              about = false_not_true (is_about (node r i.0).mode) o.1.1.1.0;
            };
      }

  pub step_legal : (s : Step) → StepLegal P r s → step_refusal P r s ≡ None
  unfolding step_refusal passes_max
  step_legal (Delay d) l =
      let k = l.kind in
      off_all (given RunOutside (not (in_range P r)) ∷ given OutOfStep (is_out_of_step P r) ∷ step_rows P r (Delay d)) (
        ap not l.range,
        (
          l.together,
          (
            any_never P.nodes.0 (λ i. is_about (node r i).mode) k.none_about,
            (
              or_neither (eqb d.0 0) (any_below P.nodes.0 (passes_max d.0)) (ne_eqb d.0 0 (omega (arith, k.some))) (any_never P.nodes.0 (passes_max d.0) (λ i h. le-ltb P.max.0 ((node r i).time.0 + d.0) (k.within i h))),
              tt,
            ),
          ),
        ),
      )
  step_legal (TickOf i) l =
      let k = l.kind in
      off_all (given RunOutside (not (in_range P r)) ∷ given OutOfStep (is_out_of_step P r) ∷ step_rows P r (TickOf i))
      (ap not l.range, (l.together, (lt-leb P.nodes.0 i.0 k.below, (le-ltb (node r i.0).time.0 P.min.0 k.ripe, tt))))
  step_legal (SendOf i) l =
      let k = l.kind in
      off_all (given RunOutside (not (in_range P r)) ∷ given OutOfStep (is_out_of_step P r) ∷ step_rows P r (SendOf i))
      (ap not l.range, (l.together, (lt-leb P.nodes.0 i.0 k.below, (ap not k.about, tt))))

  -- a step that is done was legal, and leads where it should
  pub record StepDone (s : Step) (next : Run) : Type 0 where
    pub refusal : step_refusal P r s ≡ None
    pub leads : next ≡ moved P r s

  pub done_step : (s : Step) (next : Run) → plan_refusal P ≡ None → step_of P r s ≡ Ok next → StepDone s next
  unfolding step_of step_tested
  done_step s next e h = go (step_refusal P r s) refl (rw e at h)
    where
      go : (o : Option Refusal) → step_refusal P r s ≡ o → unless o (Ok (moved P r s)) ≡ Ok next → StepDone s next
      go None q z = record { refusal = q; leads = cc }
      go (Some x) q z = cc

  -- a legal step is done
  pub step_done : (s : Step) → plan_refusal P ≡ None → step_refusal P r s ≡ None → step_of P r s ≡ Ok (moved P r s)
  unfolding step_of step_tested
  step_done s e h = rw (e, h)
