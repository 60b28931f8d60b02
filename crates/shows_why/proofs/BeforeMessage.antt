-- The pivot: the round in which the sender of p sends. Until its message the fast node waits with its tick.
use Prim.Native.Nat.{ℕ, ◌+◌, ◌*◌, ◌-◌, ◌<◌}
use mathlib.Core.Path.{◌≡◌, refl, sym, ap, ◌∙◌}
use mathlib.Core.Logic.{◌≢◌}
use mathlib.Core.Bool.{Bool, true, false, not, ◌&&◌}
use native.Mathlib.Omega.{arith}
use borrow.Author.Tests.{eqb-true, eq-eqb, ne_eqb, lt-ltb}
use lib.Dec.{eqb, ltb}
use Rattle.laws.proofs.Bools.{clash, and_true_left, and_true_right, or_true_right, Either, first_holds, second_holds, not_so}
use Rattle.laws.specs.Ring.{distance}
use Rattle.laws.proofs.Ring.{distance_self, from_0}
use Rattle.plan.specs.declared.Plan.{Plan}
use Rattle.plan.specs.Sending.{own}
use Rattle.plan.proofs.Sound.{own_in_frame}
use Rattle.run.specs.declared.Mode.TheVariants.{Waiting}
use Rattle.run.specs.declared.NodeState.{NodeState}
use Rattle.run.specs.declared.Run.{Run}
use Rattle.run.specs.State.{node, is_about, is_sending, is_waiting}
use Rattle.run.specs.Moves.{delayed, ticked, sent}
use Rattle.run.proofs.Nodes.{node_when_delayed}
use Rattle.run.proofs.EveryNode.{all_ticked}
use Rattle.run.proofs.TickCases.{still_silent}
use Rattle.shown.specs.declared.Parts.{Parts}
use Rattle.shown.specs.Shown.{turns, goes_first, goes_second, pivot_next}
use Rattle.shown.proofs.Play.{OnTime, SendMove, TickMove, DelayMove, turn_first, turn_second}
use Rattle.shows_why.proofs.Progress.{Setting, bump, bump_other, at_bump}
use Rattle.shows_why.proofs.Stands.{Stands, tick_stands, busy_at_own, about_at, waits_away, waits_early, send_stands, hear_stands}
use Rattle.shown.proofs.Roles.{pivot_in_frame, sender_not_fast}
use Rattle.shows_why.proofs.Rounds.{earlier, pivot_count, Turned, done, due, Round, BeforePivot, still_quiet, at_count, round_time, due_lacks, early_done, round_tick, about_ticked, pivot_short, all_done, round_on}
use Rattle.shows_why.proofs.FastAndOthers.{other_sent}
use Rattle.shows_why.proofs.AfterMessage.{within, due_in, FastHeard, AtGuard, AfterMessage}

-- the round of the pivot, the fast node still due, the sender of p not yet sending
pub record BeforeMessage (P : Plan) (parts : Parts) (r : Run) (n : ℕ → ℕ) : Type 0 where
  pub round : Round P (pivot_count P parts) r n
  pub fast : n parts.fast.0 + 1 ≡ pivot_count P parts
  pub silent : is_sending (node r parts.sender.0).mode ≡ false
  pub together : (i : ℕ) → i < P.nodes.0 → is_about (node r i).mode ≡ true → (j : ℕ) → j < P.nodes.0 → j ≢ parts.fast.0 → n j ≡ pivot_count P parts

-- the delay before the pivot

module _ {P : Plan} {parts : Parts} {r : Run} (G : Setting P parts r) {n : ℕ → ℕ} (E : BeforePivot P parts r n) (d : ℕ) (h : DelayMove P parts (earlier r) d) where
  open G use {roles as R, room}
  open R use {sound as S}

  abbrev a : ℕ
  a = parts.sender.0

  sender_count : n a ≡ E.number
  sender_count = (all_done G E d h a R.sender_below).0

  -- where the next round is the pivot, the sender of p waits in p with clock g − 1
  sender_at : E.number + 1 ≡ pivot_count P parts → ((node r a).slot.0 ≡ parts.p.0) × ((node r a).clock.0 ≡ P.guard.0 - 1)
  sender_at e = at_count S (E.round a R.sender_below).stands parts.p.0 (P.guard.0 - 1) (pivot_in_frame R) (omega (arith, S.guard_tail)) (omega (arith, sender_count, S.guard_low))

  sender_waits : E.number + 1 ≡ pivot_count P parts → (node r a).mode ≡ Waiting
  sender_waits e = waits_early S (E.round a R.sender_below).stands (omega (arith, (sender_at e).1, S.guard_low))

  pub pivot_is : E.number + 1 ≡ pivot_count P parts → pivot_next P parts r ≡ true
  pivot_is e =
      rw (sender_waits e, eq-eqb (node r a).slot.0 parts.p.0 (sender_at e).0, eq-eqb ((node r a).clock.0 + 1) P.guard.0 (omega (arith, (sender_at e).1, S.guard_low)))

  pub pivot_not : E.number + 1 ≢ pivot_count P parts → pivot_next P parts r ≡ false
  pivot_not e = not_so (pivot_next P parts r) next
    where
      here : Bool
      here = eqb (node r a).slot.0 parts.p.0

      now : Bool
      now = eqb ((node r a).clock.0 + 1) P.guard.0

      next : pivot_next P parts r ≡ true → ⊥
      next t =
          let both = and_true_right (is_waiting (node r a).mode) (here && now) t in
          let s = eqb-true (node r a).slot.0 parts.p.0 (and_true_left here now both) in
          let k = eqb-true ((node r a).clock.0 + 1) P.guard.0 (and_true_right here now both) in
          let z = rw (s, from_0 P.frame.0 parts.p.0 (pivot_in_frame R)) at (E.round a R.sender_below).stands.counts in
          e (omega (arith, sender_count))

  pub pivot_begins : E.number + 1 ≡ pivot_count P parts → BeforeMessage P parts (delayed P d r) n
  pivot_begins e =
      record {
        round = rw (← e) (round_on G E d h);
        fast = omega (arith, (all_done G E d h parts.fast.0 R.fast_below).0);
        silent = rw (node_when_delayed P r d a R.sender_below (omega (arith, R.sender_below)), sender_waits e);
        together = λ i l q. absurd (still_quiet G h i l q);
      }

-- the turns in the pivot

module _ {P : Plan} {parts : Parts} {r : Run} {i : ℕ} (h : TickMove P parts (within r) i) where
  due_now : (node r i).time.0 ≡ P.min.0
  due_now = h.due ∙ due_in P parts i

  -- the fast node ticks when no other is due
  fast_goes_last : i ≡ parts.fast.0 → (j : ℕ) → j < P.nodes.0 → j ≢ parts.fast.0 → (node r j).time.0 ≢ P.min.0
  unfolding goes_first goes_second
  fast_goes_last e j l n d = absurd (go (turn_second P parts (within r) h.turn j l (d ∙ sym (due_in P parts j)) (ap not (ne_eqb j parts.fast.0 n))))
    where
      not_fast : Bool
      not_fast = not (eqb i parts.fast.0)

      go : Either (not_fast && not (eqb i parts.sender.0)) not_fast → ⊥
      go (first_holds t) = clash not_fast (and_true_left not_fast (not (eqb i parts.sender.0)) t) (ap not (eq-eqb i parts.fast.0 e))
      go (second_holds t) = clash not_fast t (ap not (eq-eqb i parts.fast.0 e))

  -- the sender of p ticks when none but the fast node is due
  sender_goes_second : i ≡ parts.sender.0 → (j : ℕ) → j < P.nodes.0 → j ≢ parts.fast.0 → j ≢ parts.sender.0 → (node r j).time.0 ≢ P.min.0
  unfolding goes_first
  sender_goes_second e j l n s d =
      let first = turn_first P parts (within r) h.turn j l (d ∙ sym (due_in P parts j)) (rw (ne_eqb j parts.fast.0 n, ne_eqb j parts.sender.0 s)) in
      clash (not (eqb i parts.sender.0)) (and_true_right (not (eqb i parts.fast.0)) (not (eqb i parts.sender.0)) first) (ap not (eq-eqb i parts.sender.0 e))

-- before the message

module _ {P : Plan} {parts : Parts} {r : Run} (G : Setting P parts r) {n : ℕ → ℕ} (E : BeforeMessage P parts r n) where
  open G use {roles as R, room}
  open R use {sound as S}

  abbrev f : ℕ
  f = parts.fast.0

  hp : parts.p.0 < P.frame.0
  hp = pivot_in_frame R

  pub before_message_on_time : OnTime P parts (within r)
  before_message_on_time i l = rw (due_in P parts i) (round_time S (E.round i l).turned)

  fast_time : (node r f).time.0 ≡ P.min.0
  fast_time = go (E.round f R.fast_below).turned
    where
      go : Turned P (pivot_count P parts) (n f) (node r f).time.0 → (node r f).time.0 ≡ P.min.0
      go (done e z) = absurd (omega (arith, E.fast))
      go (due e z) = z

  fast_at : ((node r f).slot.0 ≡ parts.p.0) × ((node r f).clock.0 ≡ P.guard.0 - 1)
  fast_at = at_count S (E.round f R.fast_below).stands parts.p.0 (P.guard.0 - 1) hp (omega (arith, S.guard_tail)) (omega (arith, E.fast, S.guard_low))

  -- a node with the pivot's count stands at g in p
  at_pivot : {w v : ℕ} {x : NodeState} → Stands P 0 w v x → v ≡ pivot_count P parts → (x.slot.0 ≡ parts.p.0) × (x.clock.0 ≡ P.guard.0)
  at_pivot t e = at_count S t parts.p.0 P.guard.0 hp (omega (arith, S.guard_tail)) e

  pub before_message_delay : (d : ℕ) → DelayMove P parts (within r) d → ⊥
  before_message_delay d h = omega (arith, h.early f R.fast_below, due_in P parts f, fast_time)

  -- the fast node does not tick yet: the sender of p would have had its tick and be sending
  pub not_fast : TickMove P parts (within r) f → ⊥
  not_fast h =
      let a = parts.sender.0 in
      let t = E.round a R.sender_below in
      let had = (early_done S t.turned (fast_goes_last h refl a R.sender_below (sender_not_fast R))).0 in
      let there : n a ≡ distance P.frame.0 0 (own P a) * P.ticks.0 + P.guard.0 = rw (R.sender_own, from_0 P.frame.0 parts.p.0 hp) had in
      clash (is_sending (node r a).mode) (busy_at_own S t.stands (own_in_frame P S a R.sender_below) there (h.quiet a R.sender_below)) E.silent

  pub before_message_tick : (i : ℕ) → i ≢ f → TickMove P parts (within r) i → BeforeMessage P parts (ticked P i r) (bump n i)
  before_message_tick i not_f h =
      record {
        round = round_tick S (pivot_count P parts) r n room E.round (pivot_short R) i h.below h.quiet (due_now h);
        fast = rw (bump_other n i f (λ e. not_f (sym e))) E.fast;
        silent = all_ticked P r room (λ k x. k ≡ parts.sender.0 → is_sending x.mode ≡ false) i h.below
            (λ e. still_silent P (own P i) (node r i).clock.0 (node r i).slot.0 (node r i).mode (h.quiet i h.below) (rw e E.silent))
            (λ k l d e. rw e E.silent) parts.sender.0 R.sender_below refl;
        together = λ k l e j hj.
            let sends = is_sender (about_ticked P r i k (omega (arith, h.below)) (h.quiet k l) e).1 in
            at_bump (λ k v. k ≢ f → v ≡ pivot_count P parts) n i j (λ d. omega (arith, lacks))
            (λ q d. (early_done S (E.round j hj).turned (sender_goes_second h sends j hj d (λ y. q (y ∙ sym sends)))).0);
      }
    where
      lacks : n i + 1 ≡ pivot_count P parts
      lacks = due_lacks S (E.round i h.below).turned (due_now h)

      -- who is about to send after the pivot's count sends in p
      is_sender : turns P r i ≡ true → i ≡ parts.sender.0
      is_sender e =
          let t = tick_stands S (h.quiet i h.below) (omega (arith, lacks, pivot_short R)) (E.round i h.below).stands in
          S.own_apart i parts.sender.0 h.below R.sender_below (sym (about_at S t e).0 ∙ (at_pivot t (omega (arith, lacks))).0 ∙ sym R.sender_own)

  -- the message of the sender of p

  rebase : {w v : ℕ} {x : NodeState} → v ≡ pivot_count P parts → Stands P 0 w v x → Stands P parts.p.0 w P.guard.0 x
  rebase e t =
      let at = at_pivot t e in
      record {
        base_in = hp;
        clock_in = t.clock_in;
        slot_in = t.slot_in;
        counts = rw (at.0, distance_self P.frame.0 parts.p.0 hp) (omega (arith, at.1));
        doing = t.doing;
        hears = t.hears;
      }

  resting : {v x : ℕ} → v ≡ pivot_count P parts → Turned P (pivot_count P parts) v x → x ≡ 0
  resting e (done q z) = z
  resting e (due q z) = absurd (omega arith)

  pub before_message_send : (i : ℕ) → SendMove P parts (within r) i → AfterMessage P parts (sent P i r) n
  before_message_send i h =
      other_sent G (FastHeard P parts) (λ j x. AtGuard P parts) n i h.below not_f
      (record {
        slot = fast_at.0;
        clock = omega (arith, fast_at.1, S.guard_low);
        time = fast_time;
        waits = waits_early S (E.round f R.fast_below).stands (omega (arith, fast_at.1, S.guard_low));
        heard = or_true_right (node r f).pending (ltb (node r f).slot.0 P.active.0) (lt-ltb (node r f).slot.0 P.active.0 (rw (fast_at.0, ← R.sender_own) (S.own_active parts.sender.0 R.sender_below)));
        count = E.fast;
      })
      (record { stands = rebase (full i h.below not_f) (send_stands S t h.about); time = resting (full i h.below not_f) (E.round i h.below).turned; quiet = refl; count = full i h.below not_f })
      (λ k l e d.
      let s = (E.round k l).stands in
      let there = at_pivot s (full k l d) in
      let off : (node r k).slot.0 ≢ own P k = λ q. e (S.own_apart k i l h.below (sym q ∙ there.0 ∙ sym own_p)) in
      record { stands = rebase (full k l d) (hear_stands S s off there.1); time = resting (full k l d) (E.round k l).turned; quiet = rw (waits_away S s off); count = full k l d })
    where
      full : (k : ℕ) → k < P.nodes.0 → k ≢ f → n k ≡ pivot_count P parts
      full = E.together i h.below h.about

      t : Stands P 0 (own P i) (n i) (node r i)
      t = (E.round i h.below).stands

      not_f : i ≢ f
      not_f e = absurd (let z : (node r f).clock.0 ≡ P.guard.0 = rw e at (about_at S t h.about).1 in omega (arith, fast_at.1, S.guard_low))

      own_p : own P i ≡ parts.p.0
      own_p = sym (about_at S t h.about).0 ∙ (at_pivot t (full i h.below not_f)).0
