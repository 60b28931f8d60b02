-- In the pivot, after the message of the sender of p: the fast node has heard it one tick before g, and its tick ends the pivot.
use Prim.Native.Nat.{ℕ, ◌+◌, ◌*◌, ◌≤◌, ◌<◌}
use mathlib.Core.Path.{◌≡◌, refl, sym, ap, ◌∙◌}
use mathlib.Core.Logic.{◌≢◌}
use mathlib.Core.Bool.{true, false}
use native.Mathlib.Nat.{mul-le-mul_right}
use native.Mathlib.Omega.{arith}
use Rattle.laws.specs.Ring.{distance}
use Rattle.laws.proofs.Bools.{clash}
use Rattle.laws.proofs.Same.{at_same}
use Rattle.laws.proofs.Ring.{distance_self}
use Rattle.plan.specs.declared.Plan.{Plan}
use Rattle.plan.specs.Sending.{own}
use Rattle.run.specs.declared.Mode.TheVariants.{Waiting}
use Rattle.run.specs.declared.NodeState.{NodeState}
use Rattle.run.specs.declared.Run.{Run}
use Rattle.run.specs.State.{node, is_about}
use Rattle.run.specs.Moves.{ticked}
use Rattle.run.proofs.Outcomes.{clock_heard, mode_elsewhere, slot_stays}
use Rattle.run.proofs.Nodes.{node_when_ticked, node_still}
use Rattle.run.proofs.TickCases.{ticked_to}
use Rattle.shown.specs.declared.Mark.TheVariants.{In}
use Rattle.shown.specs.declared.Place.{Place}
use Rattle.shown.specs.declared.Parts.{Parts}
use Rattle.shown.specs.Shown.{due_time}
use Rattle.shown.proofs.Play.{OnTime, SendMove, TickMove, DelayMove}
use Rattle.shown.proofs.Roles.{far_of, pivot_in_frame, far_away}
use Rattle.shows_why.proofs.Progress.{Setting}
use Rattle.shows_why.proofs.Stands.{Stands, waits_off, at_place, sending_at}
use Rattle.shows_why.proofs.Rounds.{pivot_count}
use Rattle.shows_why.proofs.FastAndOthers.{FastAndOthers}
use Rattle.shows_why.proofs.AfterPivot.{Slow, AfterPivot}

-- the place in the pivot with the run r
abbrev pub within : Run → Place
within r = record { run = r; mark = In }

pub due_in : (P : Plan) (parts : Parts) (i : ℕ) → due_time P parts In i ≡ P.min.0
unfolding due_time
due_in P parts i = refl

-- the fast node, with j ticks, has heard the message
pub record FastHeard (P : Plan) (parts : Parts) (j : ℕ) (a : NodeState) : Type 0 where
  pub slot : a.slot.0 ≡ parts.p.0
  pub clock : a.clock.0 + 1 ≡ P.guard.0
  pub time : a.time.0 ≡ P.min.0
  pub waits : a.mode ≡ Waiting
  pub heard : a.pending ≡ true
  pub count : j + 1 ≡ pivot_count P parts

-- any other node i, with m ticks, stands at g in p
pub record AtGuard (P : Plan) (parts : Parts) (i m : ℕ) (a : NodeState) : Type 0 where
  pub stands : Stands P parts.p.0 (own P i) P.guard.0 a
  pub time : a.time.0 ≡ 0
  pub quiet : is_about a.mode ≡ false
  pub count : m ≡ pivot_count P parts

abbrev pub AfterMessage : Plan → Parts → Run → (ℕ → ℕ) → Type 0
AfterMessage P parts = FastAndOthers P parts (FastHeard P parts) (λ j x. AtGuard P parts)

module _ {P : Plan} {parts : Parts} {r : Run} (G : Setting P parts r) {n : ℕ → ℕ} (D : AfterMessage P parts r n) where
  open G use {roles as R, room}
  open R use {sound as S}

  abbrev f : ℕ
  f = parts.fast.0

  pub after_message_count : (i : ℕ) → i < P.nodes.0 → n i ≤ pivot_count P parts
  after_message_count i l = at_same (λ k. n k ≤ pivot_count P parts) i f (omega (arith, D.fast.count)) (λ d. omega (arith, (D.others i l d).count))

  pub after_message_on_time : OnTime P parts (within r)
  after_message_on_time i l = rw (due_in P parts i) (at_same (λ k. (node r k).time.0 ≤ P.min.0) i f (omega (arith, D.fast.time)) (λ d. omega (arith, (D.others i l d).time)))

  pub after_message_send : (i : ℕ) → SendMove P parts (within r) i → ⊥
  after_message_send i h = clash (is_about (node r i).mode) h.about (at_same (λ k. is_about (node r k).mode ≡ false) i f (ap is_about D.fast.waits) (λ d. (D.others i h.below d).quiet))

  pub after_message_delay : (d : ℕ) → DelayMove P parts (within r) d → ⊥
  after_message_delay d h = omega (arith, h.early f R.fast_below, due_in P parts f, D.fast.time)

  -- only the fast node ticks
  pub after_message_other : (i : ℕ) → i ≢ f → TickMove P parts (within r) i → ⊥
  after_message_other i d h = omega (arith, h.due, due_in P parts i, (D.others i h.below d).time, S.min_low)

  -- to g + 1 in p, one tick ahead of all others
  pub after_message_fast : AfterPivot P parts (ticked P f r) (λ k. 0)
  after_message_fast =
      let one-slot : 1 * P.ticks.0 ≤ far_of P parts f * P.ticks.0 = mul-le-mul_right P.ticks.0 (far_away R f R.fast_below R.fast_away) in
      record {
        fast = rw at_fast (record {
          stands = record {
            base_in = hp;
            clock_in = omega (arith, S.guard_tail);
            slot_in = hp;
            counts = rw self (omega arith);
            doing = waits_off off;
            hears = λ e. clash false e refl;
          };
          time = omega arith;
          now = λ e. refl;
          silent = refl;
          limit = omega (arith, S.ticks_low);
        });
        others = λ i l d. rw (at_fast, node_still P r f i d) (one i l d);
      }
    where
      hp : parts.p.0 < P.frame.0
      hp = pivot_in_frame R

      off : parts.p.0 ≢ own P f
      off e = R.fast_away (sym e)

      self : distance P.frame.0 parts.p.0 parts.p.0 ≡ 0
      self = distance_self P.frame.0 parts.p.0 hp

      at_fast : node (ticked P f r) f ≡ ticked_to (P.guard.0 + 1) parts.p.0 Waiting
      at_fast =
          let k : (node r f).clock.0 + 1 ≢ P.ticks.0 = omega (arith, D.fast.clock, S.guard_tail) in
          node_when_ticked P r f (omega (arith, R.fast_below))
          ∙ rw (D.fast.heard, D.fast.waits, clock_heard P (node r f).clock.0, slot_stays P (node r f).clock.0 (node r f).slot.0 k, D.fast.slot, mode_elsewhere P (own P f) (node r f).clock.0 parts.p.0 off)

      one : (i : ℕ) → i < P.nodes.0 → i ≢ f → Slow P parts 0 (ticked_to (P.guard.0 + 1) parts.p.0 Waiting) i 0 (node r i)
      one i l d =
          let s = D.others i l d in
          let none : P.guard.0 + 0 ≡ P.guard.0 = omega arith in
          record {
            stands = rw none s.stands;
            time = omega (arith, s.time);
            wall = omega (arith, s.time);
            first = λ e. absurd (omega (arith, S.min_low));
            first_about = λ e. clash false e refl;
            now = λ e. clash (is_about (node r i).mode) e s.quiet;
            alone = λ e. sym (sending_at S s.stands e).0 ∙ (at_place S s.stands parts.p.0 P.guard.0 hp (omega (arith, S.guard_tail)) (rw self (omega arith))).0;
          }
