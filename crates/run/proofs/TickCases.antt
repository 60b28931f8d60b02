-- A tick by cases: what each kind of tick makes of a node, and what is known of the node before it. Whoever reasons of what ticks keep
-- goes by these cases.
use Prim.Native.Nat.{ℕ, ◌+◌, ◌*◌, ◌%◌, ◌<◌}
use mathlib.Core.Path.{◌≡◌, refl}
use mathlib.Core.Logic.{◌≢◌}
use mathlib.Core.Bool.{Bool, true, false, not}
use native.Mathlib.Nat.{lt_of_mul-lt-mul_right}
use native.Mathlib.Decide.{ℕ_discrete}
use native.Mathlib.Omega.{arith}
use Rattle.laws.specs.Ring.{distance}
use Rattle.laws.proofs.Bools.{clash, cond_by, not_so, true_not_false, false_not_true}
use Rattle.laws.proofs.Ring.{distance_next}
use Rattle.plan.specs.declared.Plan.{Plan}
use Rattle.plan.specs.Tested.{Sound}
use Rattle.run.specs.declared.Mode.{Mode}
use Rattle.run.specs.declared.Mode.TheVariants.{Waiting, AboutToSend, Sending}
use Rattle.run.specs.declared.NodeState.{NodeState}
use Rattle.run.specs.State.{is_about, is_sending}
use Rattle.run.specs.Moves.{guard_ends, clock_after, slot_after, mode_after, node_ticked}
use Rattle.run.specs.Reckoning.{ticks_from}
use Rattle.run.proofs.Outcomes.{clock_heard, clock_on, clock_round, mode_turns, mode_elsewhere, mode_waits, mode_ends, mode_sends, slot_moves, slot_stays, slot_sending}

-- A node as a tick leaves it, with the clock c and the slot number s.
abbrev pub ticked_to : (c s : ℕ) → Mode → NodeState
ticked_to c s m = record { clock = record { 0 = c }; slot = record { 0 = s }; time = record { 0 = 0 }; mode = m; pending = false }

-- A node that sends in slot w, with the clock c and the slot number s.
module _ (P : Plan) (w c s : ℕ) where
  -- What no node of a run is like that ticks while the run is in step: about to send; sending at the last clock; pending, but sending or about
  -- to, or at the last clock, or in its own slot.
  abbrev pub Strays : Mode → Bool → Type 0
  Strays Waiting true = c + 1 < P.ticks.0 → s ≡ w
  Strays Waiting false = ⊥
  Strays AboutToSend b = Unit {0}
  Strays Sending true = Unit {0}
  Strays Sending false = c + 1 ≡ P.ticks.0

  -- What a tick makes of it, by its mode and whether a message is pending.
  pub data TickTo : Mode → Bool → NodeState → Type 0 where
    heard : s ≢ w → c + 1 < P.ticks.0 → TickTo Waiting true (ticked_to (P.guard.0 + 1) s Waiting)
    goes_round : c + 1 ≡ P.ticks.0 → TickTo Waiting false (ticked_to 0 ((s + 1) % P.frame.0) Waiting)
    turns_about : s ≡ w → c + 1 ≡ P.guard.0 → TickTo Waiting false (ticked_to (c + 1) s AboutToSend)
    waits_on : c + 1 < P.ticks.0 → (s ≡ w → c + 1 ≢ P.guard.0) → TickTo Waiting false (ticked_to (c + 1) s Waiting)
    sends_on : c + 1 < P.ticks.0 → c + P.tail.0 + 1 ≢ P.ticks.0 → TickTo Sending false (ticked_to (c + 1) s Sending)
    ends : c + P.tail.0 + 1 ≡ P.ticks.0 → TickTo Sending false (ticked_to (c + 1) s Waiting)
    strays : (m : Mode) (b : Bool) → Strays m b → TickTo m b (ticked_to (clock_after P b c) (slot_after P c s m) (mode_after P w c s m))

  abbrev TickOf : Mode → Bool → Type 0
  TickOf m b = TickTo m b (ticked_to (clock_after P b c) (slot_after P c s m) (mode_after P w c s m))

  module _ (S : Sound P) (l : c < P.ticks.0) where
    hears : Dec (c + 1 ≡ P.ticks.0) → Dec (s ≡ w) → TickOf Waiting true
    hears (yes e) d = strays Waiting true (λ h. absurd (omega arith))
    hears (no e) (yes d) = strays Waiting true (λ h. d)
    hears (no e) (no d) = rw (clock_heard P c, slot_stays P c s e, mode_elsewhere P w c s d) (heard d (omega arith))

    waits : Dec (c + 1 ≡ P.ticks.0) → Dec (c + 1 ≡ P.guard.0) → Dec (s ≡ w) → TickOf Waiting false
    waits (yes e) t d = rw (clock_round P c e, slot_moves P c s e, mode_waits P w c s (omega (arith, S.guard_tail))) (goes_round e)
    waits (no e) (yes t) (yes d) = rw (clock_on P c (omega arith), slot_stays P c s e, mode_turns P w c s d t) (turns_about d t)
    waits (no e) (yes t) (no d) = rw (clock_on P c (omega arith), slot_stays P c s e, mode_elsewhere P w c s d) (waits_on (omega arith) (λ q. absurd (d q)))
    waits (no e) (no t) d = rw (clock_on P c (omega arith), slot_stays P c s e, mode_waits P w c s t) (waits_on (omega arith) (λ q. t))

    sends : Dec (c + 1 ≡ P.ticks.0) → Dec (c + P.tail.0 + 1 ≡ P.ticks.0) → TickOf Sending false
    sends (yes e) t = strays Sending false e
    sends (no e) (yes t) = rw (clock_on P c (omega arith), slot_sending P c s, mode_ends P w c s t) (ends t)
    sends (no e) (no t) = rw (clock_on P c (omega arith), slot_sending P c s, mode_sends P w c s t) (sends_on (omega arith) t)

    case_of : (m : Mode) (b : Bool) → TickOf m b
    case_of Waiting true = hears (ℕ_discrete (c + 1) P.ticks.0) (ℕ_discrete s w)
    case_of Waiting false = waits (ℕ_discrete (c + 1) P.ticks.0) (ℕ_discrete (c + 1) P.guard.0) (ℕ_discrete s w)
    case_of AboutToSend b = strays AboutToSend b tt
    case_of Sending true = strays Sending true tt
    case_of Sending false = sends (ℕ_discrete (c + 1) P.ticks.0) (ℕ_discrete (c + P.tail.0 + 1) P.ticks.0)

-- which tick it is
pub tick_of : (P : Plan) (S : Sound P) (w : ℕ) (a : NodeState) → a.clock.0 < P.ticks.0 → TickTo P w a.clock.0 a.slot.0 a.mode a.pending (node_ticked P w a)
tick_of P S w a l = case_of P w a.clock.0 a.slot.0 S l a.mode a.pending

-- who neither sends nor is about to does not send after its tick
pub still_silent : (P : Plan) (w c s : ℕ) (m : Mode) → is_about m ≡ false → is_sending m ≡ false → is_sending (mode_after P w c s m) ≡ false
unfolding mode_after
still_silent P w c s Waiting a e = cond_by (λ (m : Mode). is_sending m ≡ false) (guard_ends P w c s) AboutToSend Waiting (λ t. refl) (λ t. refl)
still_silent P w c s AboutToSend a e = e
still_silent P w c s Sending a e = clash true refl e

pub sending_before : (P : Plan) (w c s : ℕ) (m : Mode) → is_about m ≡ false → is_sending (mode_after P w c s m) ≡ true → is_sending m ≡ true
sending_before P w c s m a e = false_not_true (is_sending m) (not_so (not (is_sending m)) (λ h. clash (is_sending (mode_after P w c s m)) e (still_silent P w c s m a (true_not_false (is_sending m) h))))

-- the tick to the next slot counts one more since slot p began, short of a whole frame
pub counts_round : (P : Plan) (p c s : ℕ) → p < P.frame.0 → s < P.frame.0 → c + 1 ≡ P.ticks.0 → ticks_from P p c s + 1 < P.frame.0 * P.ticks.0
    → ticks_from P p 0 ((s + 1) % P.frame.0) ≡ ticks_from P p c s + 1
counts_round P p c s hp hs e short =
    let d = distance P.frame.0 p s in
    let next : d + 1 < P.frame.0 = lt_of_mul-lt-mul_right P.ticks.0 (omega arith) in
    rw (distance_next P.frame.0 p s hp hs next) (omega arith)
