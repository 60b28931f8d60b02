-- One law for each outcome of a tick: the clock, the mode and the slot number after it.
use Prim.Native.Nat.{ℕ, ◌+◌, ◌%◌, ◌<◌}
use mathlib.Core.Path.{◌≡◌, refl}
use mathlib.Core.Logic.{◌≢◌}
use mathlib.Core.Bool.{Bool, true, false, cond, ◌&&◌}
use native.Mathlib.Nat.{mod-eq_of_lt, mod_self}
use borrow.Author.Tests.{eq-eqb, ne_eqb}
use lib.Dec.{eqb}
use Rattle.plan.specs.declared.Plan.{Plan}
use Rattle.run.specs.declared.Mode.TheVariants.{Waiting, AboutToSend, Sending}
use Rattle.run.specs.Moves.{clock_after, mode_after, slot_after}

module _ (P : Plan) where
  -- the clock

  pub clock_heard : (c : ℕ) → clock_after P true c ≡ P.guard.0 + 1
  unfolding clock_after
  clock_heard c = refl

  pub clock_on : (c : ℕ) → c + 1 < P.ticks.0 → clock_after P false c ≡ c + 1
  unfolding clock_after
  clock_on c h = mod-eq_of_lt h

  pub clock_round : (c : ℕ) → c + 1 ≡ P.ticks.0 → clock_after P false c ≡ 0
  unfolding clock_after
  clock_round c h = rw h (mod_self P.ticks.0)

  -- the mode

  pub mode_turns : (w c s : ℕ) → s ≡ w → c + 1 ≡ P.guard.0 → mode_after P w c s Waiting ≡ AboutToSend
  unfolding mode_after
  mode_turns w c s e h = rw (eq-eqb s w e, eq-eqb (c + 1) P.guard.0 h)

  pub mode_elsewhere : (w c s : ℕ) → s ≢ w → mode_after P w c s Waiting ≡ Waiting
  unfolding mode_after
  mode_elsewhere w c s n = rw (ne_eqb s w n)

  pub mode_waits : (w c s : ℕ) → c + 1 ≢ P.guard.0 → mode_after P w c s Waiting ≡ Waiting
  unfolding mode_after
  mode_waits w c s n = go (eqb s w)
    where
      go : (b : Bool) → cond (b && eqb (c + 1) P.guard.0) AboutToSend Waiting ≡ Waiting
      go true = rw (ne_eqb (c + 1) P.guard.0 n)
      go false = refl

  pub mode_about : (w c s : ℕ) → mode_after P w c s AboutToSend ≡ AboutToSend
  unfolding mode_after
  mode_about w c s = refl

  pub mode_ends : (w c s : ℕ) → c + P.tail.0 + 1 ≡ P.ticks.0 → mode_after P w c s Sending ≡ Waiting
  unfolding mode_after
  mode_ends w c s h = rw (eq-eqb (c + P.tail.0 + 1) P.ticks.0 h)

  pub mode_sends : (w c s : ℕ) → c + P.tail.0 + 1 ≢ P.ticks.0 → mode_after P w c s Sending ≡ Sending
  unfolding mode_after
  mode_sends w c s n = rw (ne_eqb (c + P.tail.0 + 1) P.ticks.0 n)

  -- the slot number

  pub slot_moves : (c s : ℕ) → c + 1 ≡ P.ticks.0 → slot_after P c s Waiting ≡ (s + 1) % P.frame.0
  unfolding slot_after
  slot_moves c s h = rw (eq-eqb (c + 1) P.ticks.0 h)

  pub slot_stays : (c s : ℕ) → c + 1 ≢ P.ticks.0 → slot_after P c s Waiting ≡ s
  unfolding slot_after
  slot_stays c s n = rw (ne_eqb (c + 1) P.ticks.0 n)

  pub slot_about : (c s : ℕ) → slot_after P c s AboutToSend ≡ s
  unfolding slot_after
  slot_about c s = refl

  pub slot_sending : (c s : ℕ) → slot_after P c s Sending ≡ s
  unfolding slot_after
  slot_sending c s = refl
