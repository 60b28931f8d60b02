-- The pivot: all but the fast node and the sender of p tick in number order, the sender of p ticks and sends, the fast node ticks.
use Prim.Native.Nat.{ℕ, suc, ◌+◌, ◌*◌, ◌<◌}
use mathlib.Core.Path.{◌≡◌, refl, sym, ap, ◌∙◌}
use mathlib.Core.Logic.{◌≢◌}
use mathlib.Core.Bool.{Bool, true, false, cond, not, ◌||◌, or-true}
use mathlib.Core.List.{[], ◌∷◌}
use native.Mathlib.Decide.{ℕ_discrete}
use native.Mathlib.Omega.{arith}
use borrow.Author.Tests.{eqb-false, eq-eqb, ne_eqb, le-leb, lt-leb}
use lib.Dec.{eqb, leb}
use Rattle.std.specs.Prelude.{None, Ok}
use Rattle.laws.specs.Ring.{distance}
use Rattle.laws.proofs.Bools.{clash, not_so, and_true_left, and_true_right, true_not_false}
use Rattle.laws.proofs.Ring.{from_0}
use Rattle.plan.specs.declared.Plan.{Plan}
use Rattle.plan.specs.Sending.{own}
use Rattle.plan.specs.Tested.{plan_refusal, Sound}
use Rattle.plan.proofs.Sound.{own_in_frame}
use Rattle.run.specs.declared.Run.{Run}
use Rattle.run.specs.declared.Step.{Step}
use Rattle.run.specs.declared.Step.TheVariants.{Delay, TickOf, SendOf}
use Rattle.run.specs.State.{node, is_about, is_sending, in_range}
use Rattle.run.specs.Moves.{delayed, ticked, sent}
use Rattle.run.proofs.Outcomes.{mode_elsewhere}
use Rattle.run.proofs.Nodes.{node_when_ticked, node_still}
use Rattle.shown.specs.declared.Mark.TheVariants.{In, After}
use Rattle.shown.specs.declared.Place.{Place}
use Rattle.shown.specs.declared.Parts.{Parts}
use Rattle.shown.specs.Shown.{turns, goes_first, goes_second, next_step, mark_after, given_by, given_of}
use Rattle.shown.proofs.Play.{Quiet, Due}
use Rattle.shows_why.proofs.Progress.{setting, Kept, bump, bump_same, bump_other, all_counted}
use Rattle.run.proofs.EveryNode.{all_delayed}
use Rattle.shows_why.proofs.Stands.{busy_at_own}
use Rattle.shown.proofs.Roles.{Roles, pivot_in_frame, sender_not_fast}
use Rattle.shows_why.proofs.AfterPivot.{later}
use Rattle.shows_why.proofs.Rounds.{earlier, pivot_count, due_lacks, about_ticked}
use Rattle.shows_why.proofs.AfterMessage.{within, AfterMessage, due_in, after_message_on_time}
use Rattle.shows_why.proofs.BeforeMessage.{BeforeMessage, pivot_is, pivot_begins, before_message_on_time, before_message_tick, before_message_send}
use Rattle.shown_rounds.specs.Rounds.{ticks, ticks_and_sends, in_order, neither, pivot_round}
use Rattle.shown_rounds.proofs.Next.{next_send, next_first, next_second, next_third}
use Rattle.shown_rounds.proofs.Plays.{Leads, leads_then, leads_nowhere, Taken, takes_then, takes}
use Rattle.shown_rounds.proofs.InOrder.{from_self, from_next, from_other, goes_in_order}
use Rattle.shown_rounds.proofs.Together.{round_in_step, dawn_in_step}
use Rattle.shown_rounds.proofs.Before.{Rest, rest_number, waits_min}

-- in the pivot, before the message: these are still due
record Waits (P : Plan) (c : Parts) (due : ℕ → Bool) (r : Run) : Type 0 where
  counts : ℕ → ℕ
  kept : Kept P r
  eve : BeforeMessage P c r counts
  quiet : Quiet P (within r)
  times : (k : ℕ) → k < P.nodes.0 → (node r k).time.0 ≡ cond (due k) P.min.0 0

-- after the message
record Spoken (P : Plan) (c : Parts) (r : Run) : Type 0 where
  counts : ℕ → ℕ
  kept : Kept P r
  dawn : AfterMessage P c r counts

-- who is due when node i's turn comes
abbrev due_from : Parts → ℕ → ℕ → Bool
due_from c i k = not (neither c k) || leb i k

-- the pivot's end: everybody has just ticked, and nobody is about to send
pub record Ticked (P : Plan) (r : Run) : Type 0 where
  pub kept : Kept P r
  pub quiet : Quiet P (later r)
  pub times : (k : ℕ) → k < P.nodes.0 → (node r k).time.0 ≡ 0

module _ {P : Plan} {c : Parts} (o : Sound P) (R : Roles P c) (plain : plan_refusal P ≡ None) (by_parts : (q : Place) → in_range P q.run ≡ true → given_of P q ≡ Ok (given_by P c q)) where
  abbrev f : ℕ
  f = c.fast.0

  abbrev a : ℕ
  a = c.sender.0

  not_neither_sender : neither c a ≡ false
  not_neither_sender = rw (eq-eqb a a refl, ne_eqb a f (sender_not_fast R))

  takes_eve : (r : Run) (n : ℕ → ℕ) (s : Step) → Kept P r → BeforeMessage P c r n → next_step P c (within r) ≡ s → Taken P c (within r) s
  takes_eve r n s k E = takes P c o plain by_parts (within r) s k (before_message_on_time (setting R k) E) (round_in_step o (pivot_count P c) r n E.round)

  due_same : (due due' : ℕ → Bool) (r : Run) → ((k : ℕ) → k < P.nodes.0 → due' k ≡ due k) → Waits P c due r → Waits P c due' r
  due_same due due' r e s = record { counts = s.counts; kept = s.kept; eve = s.eve; quiet = s.quiet; times = λ k l. rw (e k l) (s.times k l) }

  module _ (due : ℕ → Bool) (r : Run) (s : Waits P c due r) where
    -- at min a node is one of those that are still due
    still : (k : ℕ) → k < P.nodes.0 → Due P c (within r) k → due k ≡ true
    still k l e = go (due k) refl
      where
        go : (b : Bool) → due k ≡ b → due k ≡ true
        go true q = q
        go false q = absurd (omega (arith, o.min_low, due_in P c k, rw q at (s.times k l)))

    due_holds : (k : ℕ) → k < P.nodes.0 → due k ≡ true → Due P c (within r) k
    due_holds k l e = (rw e at (s.times k l)) ∙ sym (due_in P c k)

    ticks_on : (i : ℕ) → i < P.nodes.0 → (due' : ℕ → Bool) → due' i ≡ false → ((k : ℕ) → k ≢ i → due' k ≡ due k)
        → (k : ℕ) → k < P.nodes.0 → (node (ticked P i r) k).time.0 ≡ cond (due' k) P.min.0 0
    ticks_on i below due' q same =
        all_counted P r s.kept.room (λ k a v. a.time.0 ≡ cond (due' k) P.min.0 0) s.counts i below (rw q) (λ k l d. rw (same k d) (s.times k l))

  -- the first pass

  acts : (i : ℕ) (r : Run) → i < P.nodes.0 → neither c i ≡ true → Waits P c (due_from c i) r → Leads P (within r) (ticks i) In (Waits P c (due_from c (suc i)))
  unfolding goes_first mark_after
  acts i r below t s =
      takes_then P c (within r) (TickOf (record { 0 = i })) [] In (Waits P c (due_from c (suc i))) taken
      (rw (ne_eqb i f not_fast) (record {
        to = ticked P i r;
        plays = refl;
        holds = record {
          counts = bump s.counts i;
          kept = taken.kept;
          eve = eve;
          quiet = λ k l. not_so (is_about (node (ticked P i r) k).mode) (quiet k l);
          times = ticks_on (due_from c i) r s i below (due_from c (suc i)) (rw (t, from_next i)) (λ k d. rw (from_other i k d));
        };
      }))
    where
      not_fast : i ≢ f
      not_fast = eqb-false i f (true_not_false (eqb i f) (and_true_left (not (eqb i f)) (not (eqb i a)) t))

      not_sender : i ≢ a
      not_sender = eqb-false i a (true_not_false (eqb i a) (and_true_right (not (eqb i f)) (not (eqb i a)) t))

      lower : (k : ℕ) → k < i → Due P c (within r) k → neither c k ≡ false
      lower k l e = not_so (neither c k) (λ y. clash (due_from c i k) (still (due_from c i) r s k (omega (arith, below)) e) (rw (y, lt-leb i k l)))

      taken : Taken P c (within r) (TickOf (record { 0 = i }))
      taken =
          takes_eve r s.counts (TickOf (record { 0 = i })) s.kept s.eve
          (next_first P c (within r) i below s.quiet (due_holds (due_from c i) r s i below (rw (t, from_self i))) t lower)

      eve : BeforeMessage P c (ticked P i r) (bump s.counts i)
      eve = before_message_tick (setting R s.kept) s.eve i not_fast taken.move

      -- who was about to send would have the sender of p done with its tick
      quiet : (k : ℕ) → k < P.nodes.0 → is_about (node (ticked P i r) k).mode ≡ true → ⊥
      quiet k l e =
          let full : s.counts a ≡ pivot_count P c = rw (bump_other s.counts i a (λ y. not_sender (sym y))) at (eve.together k l e a R.sender_below (sender_not_fast R)) in
          let due_now : (node r a).time.0 ≡ P.min.0 = due_holds (due_from c i) r s a R.sender_below (rw not_neither_sender) ∙ due_in P c a in
          omega (arith, due_lacks o (s.eve.round a R.sender_below).turned due_now)

  skips : (i : ℕ) (r : Run) → i < P.nodes.0 → neither c i ≡ false → Waits P c (due_from c i) r → Waits P c (due_from c (suc i)) r
  skips i r below t = due_same (due_from c i) (due_from c (suc i)) r (λ k l. go k (ℕ_discrete k i))
    where
      go : (k : ℕ) → Dec (k ≡ i) → due_from c (suc i) k ≡ due_from c i k
      go k (yes e) = rw (e, t)
      go k (no d) = rw (from_other i k d)

  pass : (r : Run) → Waits P c (λ k. true) r → Leads P (within r) (in_order P (neither c) ticks) In (Waits P c (λ k. not (neither c k)))
  pass r s =
      let z = goes_in_order P (Leads P) (leads_nowhere P) (λ q a b m k J K. leads_then P) (neither c) ticks In (λ i. Waits P c (due_from c i)) acts skips P.nodes.0 0 (omega arith) r (due_same (λ k. true) (due_from c 0) r (λ k l. at_first k) s) in
      record { to = z.to; plays = z.plays; holds = due_same (due_from c P.nodes.0) (λ k. not (neither c k)) z.to (λ k l. at_last k l (neither c k) refl) z.holds }
    where
      at_first : (k : ℕ) → due_from c 0 k ≡ true
      at_first k = rw (le-leb 0 k (omega arith)) (or-true (not (neither c k)))

      at_last : (k : ℕ) → k < P.nodes.0 → (b : Bool) → neither c k ≡ b → not (neither c k) ≡ due_from c P.nodes.0 k
      at_last k l true e = rw (e, lt-leb P.nodes.0 k l)
      at_last k l false e = rw e

  -- the sender of p and the fast node

  -- after the message only the fast node is due
  module _ (r : Run) (n : ℕ → ℕ) (kept : Kept P r) (D : AfterMessage P c r n) where
    only_fast : (k : ℕ) → k < P.nodes.0 → Due P c (within r) k → k ≡ f
    only_fast k l e = go (ℕ_discrete k f)
      where
        go : Dec (k ≡ f) → k ≡ f
        go (yes q) = q
        go (no d) = absurd (omega (arith, (D.others k l d).time, due_in P c k, o.min_low))

    quiet_dawn : Quiet P (within r)
    quiet_dawn k l = go (ℕ_discrete k f)
      where
        go : Dec (k ≡ f) → is_about (node r k).mode ≡ false
        go (yes e) = rw e (ap is_about D.fast.waits)
        go (no d) = (D.others k l d).quiet

    -- the fast node is not in its own slot
    fast_silent : turns P r f ≡ false
    fast_silent = rw (D.fast.waits, D.fast.slot, mode_elsewhere P (own P f) (node r f).clock.0 c.p.0 (λ e. R.fast_away (sym e)))

    fast_ticks : Leads P (within r) (ticks f) After (Ticked P)
    unfolding goes_first goes_second mark_after
    fast_ticks =
        takes_then P c (within r) (TickOf (record { 0 = f })) [] After (Ticked P) taken
        (rw (eq-eqb f f refl) (record {
          to = ticked P f r;
          plays = refl;
          holds = record {
            kept = taken.kept;
            quiet = λ k l. not_so (is_about (node (ticked P f r) k).mode) (λ e. clash (turns P r f) (about_ticked P r f k (omega (arith, R.fast_below, kept.room)) (quiet_dawn k l) e).1 fast_silent);
            times = λ k l. ticked_now k l (ℕ_discrete k f);
          };
        }))
      where
        taken : Taken P c (within r) (TickOf (record { 0 = f }))
        taken =
            takes P c o plain by_parts (within r) (TickOf (record { 0 = f })) kept (after_message_on_time (setting R kept) D) (dawn_in_step o R D)
            (next_third P c (within r) f R.fast_below quiet_dawn (D.fast.time ∙ sym (due_in P c f))
            (λ k l e. rw (eq-eqb k f (only_fast k l e))) (λ k l e. rw (eq-eqb k f (only_fast k l e)))
            (λ k l e. omega (arith, only_fast k (omega (arith, R.fast_below)) e)))

        ticked_now : (k : ℕ) → k < P.nodes.0 → Dec (k ≡ f) → (node (ticked P f r) k).time.0 ≡ 0
        ticked_now k l (yes e) = rw (e, node_when_ticked P r f (omega (arith, R.fast_below, kept.room)))
        ticked_now k l (no d) = rw (node_still P r f k d) (D.others k l d).time

  module _ (r : Run) (s : Waits P c (λ k. not (neither c k)) r) where
    -- only the fast node and the sender of p are due
    two_due : (k : ℕ) → k < P.nodes.0 → Due P c (within r) k → neither c k ≡ false
    two_due k l e = true_not_false (neither c k) (still (λ k. not (neither c k)) r s k l e)

    sender_due : Due P c (within r) a
    sender_due = due_holds (λ k. not (neither c k)) r s a R.sender_below (rw not_neither_sender)

    ticking : Taken P c (within r) (TickOf (record { 0 = a }))
    unfolding goes_first goes_second
    ticking =
        takes_eve r s.counts (TickOf (record { 0 = a })) s.kept s.eve
        (next_second P c (within r) a R.sender_below s.quiet sender_due two_due (rw (ne_eqb a f (sender_not_fast R))) lower)
      where
        lower : (k : ℕ) → k < a → Due P c (within r) k → not (eqb k f) ≡ false
        lower k l e = not_so (not (eqb k f)) (λ y. clash (neither c k) (rw (y, ne_eqb k a (omega arith))) (two_due k (omega (arith, R.sender_below)) e))

    eve_after : BeforeMessage P c (ticked P a r) (bump s.counts a)
    eve_after = before_message_tick (setting R s.kept) s.eve a (sender_not_fast R) ticking.move

    -- its tick, the pivot's, makes the sender of p about to send
    sender_about : is_about (node (ticked P a r) a).mode ≡ true
    sender_about = go (is_about (node (ticked P a r) a).mode) refl
      where
        full : bump s.counts a a ≡ distance P.frame.0 0 (own P a) * P.ticks.0 + P.guard.0
        full =
            let count = due_lacks o (s.eve.round a R.sender_below).turned (sender_due ∙ due_in P c a) in
            rw (bump_same s.counts a, R.sender_own, from_0 P.frame.0 c.p.0 (pivot_in_frame R)) (omega arith)

        go : (b : Bool) → is_about (node (ticked P a r) a).mode ≡ b → is_about (node (ticked P a r) a).mode ≡ true
        go true e = e
        go false e = clash (is_sending (node (ticked P a r) a).mode) (busy_at_own o (eve_after.round a R.sender_below).stands (own_in_frame P o a R.sender_below) full e) eve_after.silent

    sending : Taken P c (within (ticked P a r)) (SendOf (record { 0 = a }))
    sending =
        takes_eve (ticked P a r) (bump s.counts a) (SendOf (record { 0 = a })) ticking.kept eve_after
        (next_send P c (within (ticked P a r)) a R.sender_below sender_about lower)
      where
        lower : (k : ℕ) → k < a → is_about (node (ticked P a r) k).mode ≡ false
        lower k l =
            not_so (is_about (node (ticked P a r) k).mode)
            (λ e. omega (arith, (about_ticked P r a k (omega (arith, R.sender_below, s.kept.room)) (s.quiet k (omega (arith, R.sender_below))) e).0))

    sender_sends : Leads P (within r) (ticks_and_sends a) In (Spoken P c)
    unfolding mark_after
    sender_sends =
        takes_then P c (within r) (TickOf (record { 0 = a })) (SendOf (record { 0 = a }) ∷ []) In (Spoken P c) ticking
        (rw (ne_eqb a f (sender_not_fast R)) (takes_then P c (within (ticked P a r)) (SendOf (record { 0 = a })) [] In (Spoken P c) sending (record {
          to = sent P a (ticked P a r);
          plays = refl;
          holds = record { counts = bump s.counts a; kept = sending.kept; dawn = before_message_send (setting R ticking.kept) eve_after a sending.move };
        })))

  -- the whole pivot
  pub round_of_pivot : (T : ℕ) (r : Run) → Rest P c T r → T + 1 ≡ pivot_count P c → Leads P (earlier r) (pivot_round P c) After (Ticked P)
  unfolding pivot_round mark_after
  round_of_pivot T r s e =
      takes_then P c (earlier r) (Delay P.min) _ After (Ticked P) wait
      (rw (pivot_is (setting R s.kept) s.early P.min.0 wait.move now)
      (leads_then P (leads_then P (pass (delayed P P.min.0 r) begun) sender_sends) (λ r m. fast_ticks r m.counts m.kept m.dawn)))
    where
      wait : Taken P c (earlier r) (Delay P.min)
      wait = waits_min o R plain by_parts T r s

      now : s.early.number + 1 ≡ pivot_count P c
      now = omega (arith, rest_number o R plain by_parts T r s)

      begun : Waits P c (λ k. true) (delayed P P.min.0 r)
      begun =
          record {
            counts = s.counts;
            kept = wait.kept;
            eve = pivot_begins (setting R s.kept) s.early P.min.0 wait.move now;
            quiet = all_delayed P r s.kept.room (λ k a. is_about a.mode ≡ false) P.min.0 s.quiet;
            times = all_delayed P r s.kept.room (λ k a. a.time.0 ≡ P.min.0) P.min.0 (λ k l. omega (arith, (s.nodes k l).time));
          }
