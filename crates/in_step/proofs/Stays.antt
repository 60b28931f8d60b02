-- Demand 3, first half: a plan that is accepted stays in step.
use Prim.Native.Nat.{ℕ, ◌<◌}
use mathlib.Core.Path.{◌≡◌, refl, sym, ap, ◌∙◌}
use mathlib.Core.Bool.{Bool, true, false, not, ◌&&◌}
use mathlib.Core.List.{[], ◌∷◌}
use borrow.Author.Tests.{lt-ltb, lt-leb, eq-eqb}
use lib.Dec.{leb}
use Rattle.std.specs.Prelude.{Option, None, Some, Ok}
use Rattle.laws.specs.Row.{given}
use Rattle.laws.specs.Below.{any_below}
use Rattle.laws.proofs.Bools.{clash}
use Rattle.laws.proofs.Belows.{any_never}
use Rattle.laws.proofs.Rows.{off_all}
use Rattle.plan.specs.declared.Plan.{Plan}
use Rattle.plan.specs.declared.Slot.{Slot}
use Rattle.plan.specs.declared.refusal.Refusal.TheVariants.{RunOutside, NodeUnknown, ReckoningBelow0}
use Rattle.plan.specs.Tested.{plan_refusal, Sound}
use Rattle.plan.proofs.Sound.{sound, own_in_frame}
use Rattle.rules.proofs.Distances.{RulesHold, rules_hold}
use Rattle.run.specs.declared.Mode.{Mode}
use Rattle.run.specs.declared.NodeState.{NodeState}
use Rattle.run.specs.declared.Run.{Run}
use Rattle.run.specs.State.{node, fresh_run, is_sending, in_range, last_in_range, elsewhere, sends_apart, is_out_of_step}
use Rattle.run.specs.Steps.{run_after}
use Rattle.run.specs.Reckoning.{time_since, reckoning, below_zero, reckoning_refusal, reckoned_tested, reckoned_of}
use Rattle.run.proofs.Ranges.{nodes_range}
use Rattle.in_step.specs.InStep.{Reckons, StaysInStep}
use Rattle.in_step.proofs.Invariant.{Phase, IfSending, Case, hears, waits, about, sends, InPhase, Sent, Inv}
use Rattle.in_step.proofs.Moment.{all_here}
use Rattle.in_step.proofs.Phases.{due_of}
use Rattle.in_step.proofs.Kept.{short_of, inv_fresh, inv_steps}
use Rattle.in_step.proofs.Counts.{Counts, counts_of}

-- a node that is sending, from its mode
sends_here : {P : Plan} {f : Phase} {y w : ℕ} {a : NodeState} → is_sending a.mode ≡ true → InPhase P f y w a → IfSending P f y w a
sends_here {P} {f} {y} {w} {a} e q = go e q.here
  where
    go : {m : Mode} {b : Bool} → is_sending m ≡ true → Case P f y w a m b → IfSending P f y w a
    go e (hears v) = clash false e refl
    go e (waits v) = clash false e refl
    go e (about v) = clash false e refl
    go e (sends v) = v

module _ (P : Plan) (S : Sound P) (A : RulesHold P) (r : Run) (y : ℕ) (v : Inv P r y) where
  -- while a node sends every node is in its slot
  pub together : (i j : ℕ) → i < P.nodes.0 → j < P.nodes.0 → is_sending (node r i).mode ≡ true → (node r j).slot.0 ≡ (node r i).slot.0
  together i j hi hj e =
      let sends = sends_here e (v.good i hi) in
      all_here S (due_of P S A r.last v.sent).holds (v.good i hi).range.time sends (v.good j hj) ∙ sym sends.place

  pub never_11 : is_out_of_step P r ≡ false
  unfolding is_out_of_step sends_apart
  never_11 = any_never P.nodes.0 (sends_apart P r) (λ i h. go i h (is_sending (node r i).mode) refl)
    where
      go : (i : ℕ) → i < P.nodes.0 → (b : Bool) → is_sending (node r i).mode ≡ b → (is_sending (node r i).mode && any_below P.nodes.0 (elsewhere r i)) ≡ false
      go i h true e = rw e (any_never P.nodes.0 (elsewhere r i) (λ j l. rw (eq-eqb (node r j).slot.0 (node r i).slot.0 (together i j h l e))))
      go i h false e = rw e

  pub is_in_range : in_range P r ≡ true
  is_in_range = nodes_range P r (λ i h. (v.good i h).range) (last_holds r.last v.sent)
    where
      last_holds : (l : Option Slot) → Sent P l → last_in_range P l ≡ true
      last_holds (Some q) h = lt-ltb q.0 P.frame.0 (rw h.slot at (own_in_frame P S h.by h.below))
      last_holds None h = refl

  pub counts : (i : ℕ) → i < P.nodes.0 → Counts P r.last y (node r i)
  counts i h = counts_of S A r.last v.sent (short_of P S A r y v i h) (v.good i h)

  pub answered : plan_refusal P ≡ None → (i : ℕ) → i < P.nodes.0 → reckoned_of P r i ≡ Ok (record { 0 = reckoning P r.last (node r i) })
  unfolding reckoned_of reckoned_tested reckoning_refusal
  answered e i h =
      let rows = off_all (given RunOutside (not (in_range P r)) ∷ given NodeUnknown (leb P.nodes.0 i) ∷ given ReckoningBelow0 (below_zero P r.last (node r i)) ∷ [])
      (ap not is_in_range, (lt-leb P.nodes.0 i h, ((counts i h).whole, tt))) in
      rw (e, rows)

  pub reckons : plan_refusal P ≡ None → (i : ℕ) → i < P.nodes.0 → Reckons P r y i
  reckons e i h =
      let n = counts i h in
      record { c = reckoning P r.last (node r i); answered = answered e i h; most = n.most; least = n.least }

pub stays_in_step : (P : Plan) → StaysInStep P
stays_in_step P e h steps l =
    let S = sound P e in
    let A = rules_hold P S h in
    let r = run_after P fresh_run steps in
    let y = time_since 0 steps in
    let v = inv_steps P S A e steps fresh_run 0 (inv_fresh P S A) l in
    record { together = together P S A r y v; never_11 = never_11 P S A r y v; reckons = reckons P S A r y v e }
