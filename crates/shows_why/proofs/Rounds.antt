-- Before the pivot: rounds in which every node ticks once. In round T a node has ticked T times, or is due and lacks the last tick.
use Prim.Native.Nat.{ℕ, suc, ◌+◌, ◌*◌, ◌≤◌, ◌<◌}
use mathlib.Core.Path.{◌≡◌, refl, sym, ap, ◌∙◌}
use mathlib.Core.Logic.{◌≢◌}
use mathlib.Core.Bool.{true, false, not}
use native.Mathlib.Omega.{arith}
use lib.ListN.{length}
use Rattle.laws.specs.Ring.{distance}
use Rattle.laws.proofs.Bools.{clash, false_not_true, not_so}
use Rattle.laws.proofs.Same.{by_same}
use Rattle.laws.proofs.Ring.{distance_same, from_0}
use Rattle.laws.proofs.Digits.{same_digits}
use Rattle.plan.specs.declared.Plan.{Plan}
use Rattle.plan.specs.Sending.{own}
use Rattle.plan.specs.Tested.{Sound}
use Rattle.plan.proofs.Sound.{own_in_frame}
use Rattle.run.specs.declared.NodeState.{NodeState}
use Rattle.run.specs.declared.Run.{Run}
use Rattle.run.specs.State.{node, is_about}
use Rattle.run.specs.Moves.{node_ticked, node_hearing, delayed, ticked, sent}
use Rattle.run.proofs.Nodes.{node_when_delayed, node_when_ticked, node_still}
use Rattle.run.proofs.EveryNode.{all_delayed, all_sent}
use Rattle.shown.specs.declared.Mark.TheVariants.{Before}
use Rattle.shown.specs.declared.Place.{Place}
use Rattle.shown.specs.declared.Parts.{Parts}
use Rattle.shown.specs.Shown.{due_time, turns, goes_first}
use Rattle.shown.proofs.Play.{OnTime, Quiet, SendMove, TickMove, DelayMove, turn_first}
use Rattle.shows_why.proofs.Progress.{Setting, bump, at_bump, all_counted}
use Rattle.shows_why.proofs.Stands.{Stands, tick_stands, at_place, about_count, delay_stands, send_stands, hear_stands}
use Rattle.shown.proofs.Roles.{slot_fits, Roles, pivot_in_frame}

-- a node in round T with v ticks and the time x
pub data Turned (P : Plan) (T v x : ℕ) : Type 0 where
  done : v ≡ T → x ≡ 0 → Turned P T v x
  due : v + 1 ≡ T → x ≡ P.min.0 → Turned P T v x

pub record InRound (P : Plan) (T w v : ℕ) (a : NodeState) : Type 0 where
  pub stands : Stands P 0 w v a
  pub turned : Turned P T v a.time.0

abbrev pub Round : Plan → ℕ → Run → (ℕ → ℕ) → Type 0
Round P T r n = (i : ℕ) → i < P.nodes.0 → InRound P T (own P i) (n i) (node r i)

-- the ticks up to the pivot
abbrev pub pivot_count : Plan → Parts → ℕ
pivot_count P parts = parts.p.0 * P.ticks.0 + P.guard.0

pub record BeforePivot (P : Plan) (parts : Parts) (r : Run) (n : ℕ → ℕ) : Type 0 where
  pub number : ℕ
  pub before : number < pivot_count P parts
  pub round : Round P number r n
  pub together : (i : ℕ) → i < P.nodes.0 → is_about (node r i).mode ≡ true → (j : ℕ) → j < P.nodes.0 → n j ≡ number

-- the place before the pivot with the run r
abbrev pub earlier : Run → Place
earlier r = record { run = r; mark = Before }

-- a delay makes nobody about to send
pub still_quiet : {P : Plan} {parts : Parts} {r : Run} → Setting P parts r → {d : ℕ} → DelayMove P parts (earlier r) d → (i : ℕ) → i < P.nodes.0 → is_about (node (delayed P d r) i).mode ≡ true → ⊥
still_quiet {P} {r = r} G {d} h i l q =
    clash (is_about (node r i).mode) (sym (ap (λ (x : NodeState). is_about x.mode) (node_when_delayed P r d i l (omega (arith, G.room)))) ∙ q) (h.quiet i l)

module _ {P : Plan} (S : Sound P) where
  -- by its count a node is where it should be
  pub at_count : {w v : ℕ} {a : NodeState} → Stands P 0 w v a → (s e : ℕ) → s < P.frame.0 → e < P.ticks.0 → v ≡ s * P.ticks.0 + e → (a.slot.0 ≡ s) × (a.clock.0 ≡ e)
  at_count h s e hs he q = at_place S h s e hs he (rw (from_0 P.frame.0 s hs) q)

  -- of nodes with one count only one is about to send
  pub about_one : (i j : ℕ) {v : ℕ} {a b : NodeState} → i < P.nodes.0 → j < P.nodes.0 → Stands P 0 (own P i) v a → Stands P 0 (own P j) v b → is_about a.mode ≡ true
      → is_about b.mode ≡ true → i ≡ j
  about_one i j hi hj s t e d =
      let zero_in : 0 < P.frame.0 = omega (arith, S.frame_low) in
      let x = about_count S s e in
      let y = about_count S t d in
      let z = same_digits (distance P.frame.0 0 (own P i)) (distance P.frame.0 0 (own P j)) P.ticks.0 P.guard.0 P.guard.0 (omega (arith, S.guard_tail)) (omega (arith, S.guard_tail)) (sym x ∙ y) in
      S.own_apart i j hi hj (distance_same P.frame.0 0 (own P i) (own P j) zero_in (own_in_frame P S i hi) (own_in_frame P S j hj) z.0)

  pub round_time : {T v x : ℕ} → Turned P T v x → x ≤ P.min.0
  round_time (done e z) = omega arith
  round_time (due e z) = omega arith

  pub round_count : {T v x : ℕ} → Turned P T v x → v ≤ T
  round_count (done e z) = omega arith
  round_count (due e z) = omega arith

  -- a node that is due lacks its tick, and one that isn't has had it
  pub due_lacks : {T v x : ℕ} → Turned P T v x → x ≡ P.min.0 → v + 1 ≡ T
  due_lacks (done e z) h = absurd (omega (arith, S.min_low))
  due_lacks (due e z) h = e

  pub early_done : {T v x : ℕ} → Turned P T v x → x ≢ P.min.0 → (v ≡ T) × (x ≡ 0)
  early_done (done e z) h = (e, z)
  early_done (due e z) h = absurd (h z)

  module _ (T : ℕ) (r : Run) (n : ℕ → ℕ) (room : P.nodes.0 ≤ length r.nodes) (t : Round P T r n) where
    pub round_tick : T < P.frame.0 * P.ticks.0 → (i : ℕ) → i < P.nodes.0 → Quiet P (earlier r) → (node r i).time.0 ≡ P.min.0 → Round P T (ticked P i r) (bump n i)
    round_tick l i hi quiet e =
        let q = due_lacks (t i hi).turned e in
        all_counted P r room (λ k a v. InRound P T (own P k) v a) n i hi
        (record {
          stands = tick_stands S (quiet i hi) (omega arith) (t i hi).stands;
          turned = done (omega arith) refl;
        })
        (λ k h d. t k h)

    -- a round of which everybody had a tick, and the delay to the next
    pub round_delay : ((i : ℕ) → i < P.nodes.0 → (n i ≡ T) × ((node r i).time.0 ≡ 0)) → Round P (T + 1) (delayed P P.min.0 r) n
    round_delay h =
        all_delayed P r room (λ k a. InRound P (T + 1) (own P k) (n k) a) P.min.0
        (λ i l. record {
          stands = delay_stands S (t i l).stands P.min.0;
          turned = due (omega (arith, (h i l).0)) (omega (arith, (h i l).1));
        })

-- where nobody was about to send, only the node that ticked can be
pub about_ticked : (P : Plan) (r : Run) (i k : ℕ) → i < length r.nodes → is_about (node r k).mode ≡ false → is_about (node (ticked P i r) k).mode ≡ true
    → (k ≡ i) × (turns P r i ≡ true)
about_ticked P r i k l q e =
    by_same k i (λ d. (d, sym (ap (λ (a : NodeState). is_about a.mode) (ap (node (ticked P i r)) d ∙ node_when_ticked P r i l)) ∙ e))
    (λ d. clash (is_about (node r k).mode) (sym (ap (λ (a : NodeState). is_about a.mode) (node_still P r i k d)) ∙ e) q)

-- before the pivot all are due at min
pub due_before : (P : Plan) (parts : Parts) (i : ℕ) → due_time P parts Before i ≡ P.min.0
unfolding due_time
due_before P parts i = refl

-- if the node that ticks is one that its tick makes about to send, so is every other that is due
pub turns_last : (P : Plan) (parts : Parts) (r : Run) (i j : ℕ) → TickMove P parts (earlier r) i → turns P r i ≡ true → j < P.nodes.0 → (node r j).time.0 ≡ P.min.0 → turns P r j ≡ true
unfolding goes_first
turns_last P parts r i j h e l d =
    false_not_true (turns P r j) (not_so (not (turns P r j)) (λ n. clash (not (turns P r i)) (turn_first P parts (earlier r) h.turn j l (d ∙ sym (due_before P parts j)) n) (ap not e)))

pub pivot_short : {P : Plan} {parts : Parts} → Roles P parts → pivot_count P parts < P.frame.0 * P.ticks.0
pivot_short {parts = parts} R = slot_fits R.sound parts.p.0 (pivot_in_frame R)

module _ {P : Plan} {parts : Parts} {r : Run} (G : Setting P parts r) {n : ℕ → ℕ} (E : BeforePivot P parts r n) where
  open G use {roles as R, room}
  open R use {sound as S}

  pub before_pivot_on_time : OnTime P parts (earlier r)
  before_pivot_on_time i l = rw (due_before P parts i) (round_time S (E.round i l).turned)

  pub before_pivot_send : (i : ℕ) → SendMove P parts (earlier r) i → BeforePivot P parts (sent P i r) n
  before_pivot_send i h =
      record {
        number = E.number;
        before = E.before;
        round = all_sent P r room (λ k a. InRound P E.number (own P k) (n k) a) i h.below
            (record { stands = send_stands S (E.round i h.below).stands h.about; turned = (E.round i h.below).turned })
            (λ k l d. record { stands = hears k l d; turned = (E.round k l).turned });
        together = λ k l e. E.together i h.below h.about;
      }
    where
      hears : (k : ℕ) → k < P.nodes.0 → k ≢ i → Stands P 0 (own P k) (n k) (node_hearing P (node r k))
      hears k l d =
          let count = about_count S (E.round i h.below).stands h.about in
          let same : n k ≡ n i = E.together i h.below h.about k l ∙ sym (E.together i h.below h.about i h.below) in
          let there = at_place S (E.round k l).stands (own P i) P.guard.0 (own_in_frame P S i h.below) (omega (arith, S.guard_tail)) (same ∙ count) in
          hear_stands S (E.round k l).stands (λ e. d (S.own_apart k i l h.below (sym e ∙ there.0))) there.1

  pub before_pivot_tick : (i : ℕ) → TickMove P parts (earlier r) i → BeforePivot P parts (ticked P i r) (bump n i)
  before_pivot_tick i h =
      record {
        number = E.number;
        before = E.before;
        round = round_tick S E.number r n room E.round short i h.below h.quiet due_now;
        together = λ k l e j hj.
            let turned = (about_ticked P r i k (omega (arith, h.below)) (h.quiet k l) e).1 in
            at_bump (λ k v. v ≡ E.number) n i j (omega (arith, lacks)) (λ d. had turned j hj d (E.round j hj).turned);
      }
    where
      due_now : (node r i).time.0 ≡ P.min.0
      due_now = h.due ∙ due_before P parts i

      short : E.number < P.frame.0 * P.ticks.0
      short = omega (arith, E.before, pivot_short R)

      lacks : n i + 1 ≡ E.number
      lacks = due_lacks S (E.round i h.below).turned due_now

      after : (k : ℕ) → k < P.nodes.0 → n k + 1 ≡ E.number → Stands P 0 (own P k) E.number (node_ticked P (own P k) (node r k))
      after k l e =
          let q : suc (n k) ≡ E.number = omega arith in
          rw q at (tick_stands S (h.quiet k l) (omega (arith, short)) (E.round k l).stands)

      -- another that is due would be about to send after the same count
      had : turns P r i ≡ true → (j : ℕ) → j < P.nodes.0 → j ≢ i → Turned P E.number (n j) (node r j).time.0 → n j ≡ E.number
      had e j l d (done q z) = q
      had e j l d (due q z) =
          absurd (d (about_one S j i l h.below (after j l q) (after i h.below lacks) (turns_last P parts r i j h e l z) e))

  -- a delay is taken when everybody had the round's tick, and lasts min
  pub all_done : (d : ℕ) → DelayMove P parts (earlier r) d → (i : ℕ) → i < P.nodes.0 → (n i ≡ E.number) × ((node r i).time.0 ≡ 0)
  all_done d h i l = early_done S (E.round i l).turned (λ e. absurd (omega (arith, h.early i l, due_before P parts i)))

  pub delay_is_min : (d : ℕ) → DelayMove P parts (earlier r) d → d ≡ P.min.0
  delay_is_min d h = omega (arith, h.to_due, due_before P parts h.to, (all_done d h h.to h.to_below).1)

  -- and the round goes on to the next
  pub round_on : (d : ℕ) → DelayMove P parts (earlier r) d → Round P (E.number + 1) (delayed P d r) n
  round_on d h = rw (delay_is_min d h) (round_delay S E.number r n room E.round (all_done d h))

  pub before_pivot_delay : (d : ℕ) → DelayMove P parts (earlier r) d → E.number + 1 ≢ pivot_count P parts → BeforePivot P parts (delayed P d r) n
  before_pivot_delay d h e =
      record {
        number = E.number + 1;
        before = omega (arith, E.before);
        round = round_on d h;
        together = λ i l q. absurd (still_quiet G h i l q);
      }
