-- A message: what a send makes of its sender, in whose slot w the phase f' begins, and of any other node.
use Prim.Native.Nat.{ℕ, ◌+◌, ◌<◌}
use mathlib.Core.Path.{◌≡◌, refl, sym, ap, ◌∙◌}
use mathlib.Core.Logic.{◌≢◌}
use mathlib.Core.Bool.{Bool, true, false}
use native.Mathlib.Omega.{arith}
use borrow.Author.Tests.{lt-ltb}
use Rattle.laws.proofs.Bools.{clash}
use Rattle.plan.specs.declared.Plan.{Plan}
use Rattle.plan.specs.Tested.{Sound}
use Rattle.run.specs.declared.Mode.{Mode}
use Rattle.run.specs.declared.NodeState.{NodeState}
use Rattle.run.specs.State.{is_about}
use Rattle.run.specs.Moves.{node_sent, node_hearing}
use Rattle.in_step.proofs.Numbers.{live_start}
use Rattle.in_step.proofs.Invariant.{Phase, IfAbout, Case, hears, waits, about, sends, InPhase}
use Rattle.in_step.proofs.OneNode.{unheard, ticks_here}
use Rattle.in_step.proofs.Moment.{Gathered}

-- A node about to send, with nothing pending.
pub record AboutHere (P : Plan) (f : Phase) (y w : ℕ) (a : NodeState) : Type 0 where
  pub quiet : a.pending ≡ false
  pub about : IfAbout P f y w a

pub about_here : {P : Plan} {f : Phase} {y w : ℕ} {a : NodeState} → is_about a.mode ≡ true → InPhase P f y w a → AboutHere P f y w a
about_here {P} {f} {y} {w} {a} e q = go e refl q.here
  where
    go : {m : Mode} {b : Bool} → is_about m ≡ true → a.pending ≡ b → Case P f y w a m b → AboutHere P f y w a
    go e p (hears v) = clash false e refl
    go e p (waits v) = clash false e refl
    go e p (about v) = record { quiet = p; about = v }
    go e p (sends v) = clash false e refl

module _ {P : Plan} (S : Sound P) {f f' : Phase} {y w : ℕ} (hw : w < P.frame.0) (place : f'.p ≡ w) (begins : f'.o ≡ P.guard.0) where
  pub sender_keeps : {a : NodeState} → f'.lead w ≡ P.guard.0 → AboutHere P f y w a → InPhase P f y w a → InPhase P f' 0 w (node_sent a)
  sender_keeps {a} leads v q =
      let h = v.about in
      let here = h.place ∙ sym place in
      let u = ticks_here P f'.p a.clock.0 a.slot.0 (rw place hw) here in
      rw v.quiet
      (record {
        range = record { clock = q.range.clock; slot = q.range.slot; time = q.range.time };
        here =
            sends (record {
              live = live_start (leads ∙ sym begins) (u ∙ h.turn ∙ sym begins) h.zero;
              message = begins;
              mine = sym place;
              place = here;
              low = omega (arith, h.turn);
              high = omega (arith, h.turn, S.guard_tail);
            });
      })

  -- any other node, gathered in w, was waiting there and not in its own slot; it is pending now
  pub hearer_keeps : {w' : ℕ} {a : NodeState} → f'.lead w' ≡ P.guard.0 + 1 → w' ≢ w → w < P.active.0 → w ≢ f.p → Gathered P w a → InPhase P f y w' a → InPhase P f' 0 w' (node_hearing P a)
  hearer_keeps {w'} {a} leads n low ahead v q =
      rw (v.quiet, lt-ltb a.slot.0 P.active.0 (omega (arith, v.place)))
      (record { range = record { clock = q.range.clock; slot = q.range.slot; time = q.range.time }; here = go (unheard q v.quiet) })
    where
      go : {m : Mode} → Case P f y w' a m false → Case P f' 0 w' (record { clock = a.clock; slot = a.slot; time = a.time; mode = a.mode; pending = true }) m true
      go (waits h) =
          hears (record {
            message = begins;
            leads = leads ∙ ap (λ (n : ℕ). n + 1) (sym begins);
            place = v.place ∙ sym place;
            early = v.early;
            time = omega arith;
            other = λ e. n (e ∙ place);
          })
      go (about h) = absurd (n (sym h.place ∙ v.place))
      go (sends h) = absurd (ahead (sym v.place ∙ h.place))
