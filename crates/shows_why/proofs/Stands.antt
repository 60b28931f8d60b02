-- One node by its count of ticks since slot p began: where it stands, and what its mode says of it. A tick counts one more.
use Prim.Native.Nat.{ℕ, suc, ◌+◌, ◌*◌, ◌≤◌, ◌<◌}
use mathlib.Core.Path.{◌≡◌, refl, ◌∙◌}
use mathlib.Core.Logic.{◌≢◌}
use mathlib.Core.Bool.{Bool, true, false, ◌||◌}
use native.Mathlib.Omega.{arith}
use lib.Dec.{ltb}
use Rattle.laws.specs.Ring.{distance}
use Rattle.laws.proofs.Bools.{clash}
use Rattle.laws.proofs.Ring.{distance_same, next_below}
use Rattle.laws.proofs.Digits.{same_digits}
use Rattle.plan.specs.declared.Plan.{Plan}
use Rattle.plan.specs.Tested.{Sound}
use Rattle.run.specs.declared.Mode.{Mode}
use Rattle.run.specs.declared.Mode.TheVariants.{Waiting, AboutToSend, Sending}
use Rattle.run.specs.declared.NodeState.{NodeState}
use Rattle.run.specs.State.{is_about, is_sending}
use Rattle.run.specs.Moves.{node_ticked, node_delayed, node_sent, node_hearing}
use Rattle.run.proofs.TickCases.{ticked_to, Strays, TickTo, heard, goes_round, turns_about, waits_on, sends_on, ends, strays, tick_of, counts_round}

-- what the mode of a node of slot w says of its clock c and slot number s: in its own slot it waits only before g and in the tail
pub data Doing (P : Plan) (w c s : ℕ) : Mode → Type 0 where
  waits : (s ≡ w → P.guard.0 ≤ c → P.ticks.0 ≤ c + P.tail.0) → Doing P w c s Waiting
  about : s ≡ w → c ≡ P.guard.0 → Doing P w c s AboutToSend
  sends : s ≡ w → P.guard.0 ≤ c → c + P.tail.0 < P.ticks.0 → Doing P w c s Sending

-- the node has ticked u times since slot p began
pub record Stands (P : Plan) (p w u : ℕ) (a : NodeState) : Type 0 where
  pub base_in : p < P.frame.0
  pub clock_in : a.clock.0 < P.ticks.0
  pub slot_in : a.slot.0 < P.frame.0
  pub counts : distance P.frame.0 p a.slot.0 * P.ticks.0 + a.clock.0 ≡ u
  pub doing : Doing P w a.clock.0 a.slot.0 a.mode
  pub hears : a.pending ≡ true → (a.slot.0 ≢ w) × (a.clock.0 ≡ P.guard.0)

-- in another slot than its own a node waits whenever it waits
pub waits_off : {P : Plan} {w c s : ℕ} → s ≢ w → Doing P w c s Waiting
waits_off n = waits (λ e. absurd (n e))

module _ {P : Plan} (S : Sound P) {p w : ℕ} where
  pub tick_stands : {u : ℕ} {a : NodeState} → is_about a.mode ≡ false → u + 1 < P.frame.0 * P.ticks.0 → Stands P p w u a → Stands P p w (suc u) (node_ticked P w a)
  tick_stands {u} {a} quiet short h = go (tick_of P S w a h.clock_in) quiet h.doing h.hears
    where
      c : ℕ
      c = a.clock.0

      s : ℕ
      s = a.slot.0

      -- a tick within the slot
      on : (m : Mode) → c + 1 < P.ticks.0 → Doing P w (c + 1) s m → Stands P p w (suc u) (ticked_to (c + 1) s m)
      on m l d = record { base_in = h.base_in; clock_in = l; slot_in = h.slot_in; counts = omega (arith, h.counts); doing = d; hears = λ e. clash false e refl }

      stray : (m : Mode) (b : Bool) → is_about m ≡ false → Doing P w c s m → (b ≡ true → (s ≢ w) × (c ≡ P.guard.0)) → Strays P w c s m b → ⊥
      stray Waiting true q d e z = let x = e refl in x.0 (z (omega (arith, S.guard_tail)))
      stray Waiting false q d e z = z
      stray AboutToSend b q d e z = clash true refl q
      stray Sending true q (sends d l k) e z = (e refl).0 d
      stray Sending false q (sends d l k) e z = omega (arith, S.tail_low)

      go : {m : Mode} {b : Bool} {n : NodeState} → TickTo P w c s m b n → is_about m ≡ false → Doing P w c s m → (b ≡ true → (s ≢ w) × (c ≡ P.guard.0)) → Stands P p w (suc u) n
      go (heard n l) q d e = let z : P.guard.0 + 1 ≡ c + 1 = omega (arith, (e refl).1) in rw z (on Waiting l (waits_off n))
      go (goes_round l) q d e =
          record {
            base_in = h.base_in;
            clock_in = omega (arith, h.clock_in);
            slot_in = next_below P.frame.0 s (omega (arith, h.slot_in));
            counts = omega (arith, counts_round P p c s h.base_in h.slot_in l (omega (arith, h.counts)), h.counts);
            doing = waits (λ d g. absurd (omega (arith, S.guard_low)));
            hears = λ e. clash false e refl;
          }
      go (turns_about d t) q f e = on AboutToSend (omega (arith, S.guard_tail)) (about d t)
      go (waits_on l t) q (waits f) e = on Waiting l (waits (λ d g. let z = t d in let y : P.guard.0 ≤ c = omega arith in omega (arith, f d y)))
      go (sends_on l t) q (sends d g k) e = on Sending l (sends d (omega arith) (omega arith))
      go (ends t) q f e = on Waiting (omega (arith, S.tail_low)) (waits (λ d g. omega arith))
      go (strays m b z) q f e = absurd (stray m b q f e z)

  -- what its count and its mode tell of a node
  module _ {u : ℕ} {a : NodeState} (h : Stands P p w u a) where
    pub at_place : (s e : ℕ) → s < P.frame.0 → e < P.ticks.0 → u ≡ distance P.frame.0 p s * P.ticks.0 + e → (a.slot.0 ≡ s) × (a.clock.0 ≡ e)
    at_place s e hs he q =
        let z = same_digits (distance P.frame.0 p a.slot.0) (distance P.frame.0 p s) P.ticks.0 a.clock.0 e h.clock_in he (h.counts ∙ q) in
        (distance_same P.frame.0 p a.slot.0 s h.base_in h.slot_in hs z.0, z.1)

    -- too few ticks for slot s, or too many
    pub before_slot : (s : ℕ) → u < distance P.frame.0 p s * P.ticks.0 → a.slot.0 ≢ s
    before_slot s l e = absurd (let z : distance P.frame.0 p s * P.ticks.0 + a.clock.0 ≡ u = rw e at h.counts in omega arith)

    pub past_slot : (s : ℕ) → (distance P.frame.0 p s + 1) * P.ticks.0 ≤ u → a.slot.0 ≢ s
    past_slot s l e = absurd (let z : distance P.frame.0 p s * P.ticks.0 + a.clock.0 ≡ u = rw e at h.counts in omega (arith, h.clock_in))

    pub about_at : is_about a.mode ≡ true → (a.slot.0 ≡ w) × (a.clock.0 ≡ P.guard.0)
    about_at = go h.doing
      where
        go : {m : Mode} → Doing P w a.clock.0 a.slot.0 m → is_about m ≡ true → (a.slot.0 ≡ w) × (a.clock.0 ≡ P.guard.0)
        go (waits f) e = clash false e refl
        go (about d q) e = (d, q)
        go (sends d l k) e = clash false e refl

    pub about_count : is_about a.mode ≡ true → u ≡ distance P.frame.0 p w * P.ticks.0 + P.guard.0
    about_count e =
        let z = about_at e in
        let y : distance P.frame.0 p w * P.ticks.0 + a.clock.0 ≡ u = rw z.0 at h.counts in
        omega (arith, z.1)

    pub sending_at : is_sending a.mode ≡ true → (a.slot.0 ≡ w) × (P.guard.0 ≤ a.clock.0) × (a.clock.0 + P.tail.0 < P.ticks.0)
    sending_at = go h.doing
      where
        go : {m : Mode} → Doing P w a.clock.0 a.slot.0 m → is_sending m ≡ true → (a.slot.0 ≡ w) × (P.guard.0 ≤ a.clock.0) × (a.clock.0 + P.tail.0 < P.ticks.0)
        go (waits f) e = clash false e refl
        go (about d q) e = clash false e refl
        go (sends d l k) e = (d, l, k)

    -- a node waits in another slot than its own, and at a clock below g
    waits_unless : (a.slot.0 ≡ w → P.guard.0 ≤ a.clock.0 → ⊥) → a.mode ≡ Waiting
    waits_unless n = go h.doing
      where
        go : {m : Mode} → Doing P w a.clock.0 a.slot.0 m → m ≡ Waiting
        go (waits f) = refl
        go (about d q) = absurd (n d (omega arith))
        go (sends d l k) = absurd (n d l)

    pub waits_away : a.slot.0 ≢ w → a.mode ≡ Waiting
    waits_away n = waits_unless (λ d l. n d)

    pub waits_early : a.clock.0 < P.guard.0 → a.mode ≡ Waiting
    waits_early l = waits_unless (λ d g. omega arith)

    -- in its own slot, from g on and before the tail, it is about to send or sending
    pub busy : a.slot.0 ≡ w → P.guard.0 ≤ a.clock.0 → a.clock.0 + P.tail.0 < P.ticks.0 → is_about a.mode ≡ false → is_sending a.mode ≡ true
    busy d l k = go h.doing
      where
        go : {m : Mode} → Doing P w a.clock.0 a.slot.0 m → is_about m ≡ false → is_sending m ≡ true
        go (waits f) e = absurd (omega (arith, f d l))
        go (about q z) e = clash true refl e
        go (sends q y z) e = refl

    -- so where it has just come to g of its own slot
    pub busy_at_own : w < P.frame.0 → u ≡ distance P.frame.0 p w * P.ticks.0 + P.guard.0 → is_about a.mode ≡ false → is_sending a.mode ≡ true
    busy_at_own hw q =
        let z = at_place w P.guard.0 hw (omega (arith, S.guard_tail)) q in
        busy z.0 (omega (arith, z.1)) (omega (arith, z.1, S.guard_tail))

    -- a delay, a send and a message heard leave it where it stands
    still : (x : ℕ) (m : Mode) (b : Bool) → Doing P w a.clock.0 a.slot.0 m → (b ≡ true → (a.slot.0 ≢ w) × (a.clock.0 ≡ P.guard.0))
        → Stands P p w u (record { clock = a.clock; slot = a.slot; time = record { 0 = x }; mode = m; pending = b })
    still x m b d e = record { base_in = h.base_in; clock_in = h.clock_in; slot_in = h.slot_in; counts = h.counts; doing = d; hears = e }

    pub delay_stands : (d : ℕ) → Stands P p w u (node_delayed d a)
    delay_stands d = still (a.time.0 + d) a.mode a.pending h.doing h.hears

    pub send_stands : is_about a.mode ≡ true → Stands P p w u (node_sent a)
    send_stands e = let z = about_at e in still a.time.0 Sending a.pending (sends z.0 (omega (arith, z.1)) (omega (arith, z.1, S.guard_tail))) h.hears

    pub hear_stands : a.slot.0 ≢ w → a.clock.0 ≡ P.guard.0 → Stands P p w u (node_hearing P a)
    hear_stands n e = still a.time.0 a.mode (a.pending || ltb a.slot.0 P.active.0) h.doing (λ q. (n, e))
