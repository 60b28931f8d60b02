-- The shown run is the rounds before the pivot, the pivot and the moments after it: round after round from a fresh run.
use Prim.Native.Nat.{ℕ, zero, suc, ◌+◌, ◌-◌, ◌≤◌, ◌<◌}
use mathlib.Core.Path.{◌≡◌, refl, ◌∙◌}
use mathlib.Core.Logic.{◌≢◌}
use mathlib.Core.Bool.{Bool, true, false, cond, ◌&&◌}
use mathlib.Core.List.{◌++◌}
use native.Mathlib.Nat.{zero-mod}
use native.Mathlib.Omega.{arith}
use lib.Dec.{eqb}
use lib.ListN.{length, length-append}
use Rattle.std.specs.Prelude.{None, Ok}
use Rattle.plan.specs.declared.Plan.{Plan}
use Rattle.plan.specs.Sending.{own}
use Rattle.plan.specs.Tested.{plan_refusal, Sound}
use Rattle.plan.proofs.Sound.{sound}
use Rattle.run.specs.declared.Mode.{Mode}
use Rattle.run.specs.declared.Mode.TheVariants.{Waiting, AboutToSend, Sending}
use Rattle.run.specs.declared.Run.{Run}
use Rattle.run.specs.State.{fresh_run, node, is_about, is_waiting, in_range}
use Rattle.run.specs.Moves.{guard_ends, mode_after}
use Rattle.run.specs.Steps.{run_after}
use Rattle.run.proofs.Nodes.{node_fresh, room_fresh}
use Rattle.run.proofs.Ranges.{fresh_range}
use Rattle.shown.specs.declared.Mark.TheVariants.{Before, After}
use Rattle.shown.specs.declared.Place.{Place}
use Rattle.shown.specs.declared.Parts.{Parts}
use Rattle.shown.specs.Shown.{fresh_place, due_time, turns, pivot_next, given_by, given_of}
use Rattle.shown.proofs.Roles.{Roles, Failure}
use Rattle.shows_why.proofs.Progress.{setting}
use Rattle.shows_why.proofs.Rounds.{earlier, pivot_count}
use Rattle.shows_why.proofs.BeforeMessage.{pivot_is, pivot_not}
use Rattle.shown.proofs.Casting.{cast}
use Rattle.shown.proofs.Giving.{given_is}
use Rattle.shows_why.proofs.Why.{fresh_before_pivot}
use Rattle.shown_rounds.specs.Rounds.{round_before, rounds_before, after_rounds, through_pivot}
use Rattle.shown_rounds.specs.Moments.{moments}
use Rattle.shown_rounds.specs.ByRounds.{told, pivot_end, ByRounds, ShownByRounds}
use Rattle.shown_rounds.proofs.Plays.{Leads, leads_run, leads_after, leads_then, plays_shown, plays_place}
use Rattle.shown_rounds.proofs.Stops.{Goes, arrives, goes_on, shows}
use Rattle.shown_rounds.proofs.Before.{Rest, rest_number, waits_min, round_goes_before}
use Rattle.shown_rounds.proofs.Pivot.{Ticked, round_of_pivot}
use Rattle.shown_rounds.proofs.AtMoment.{Calm, Anywhere, moments_act, moments_long}

-- the tick of the sender of p makes it about to send where it waits in p with clock g − 1
turns_is : (P : Plan) (c : Parts) → Roles P c → (r : Run) → is_about (node r c.sender.0).mode ≡ false → turns P r c.sender.0 ≡ pivot_next P c r
unfolding mode_after
turns_is P c R r = go (node r c.sender.0).clock.0 (node r c.sender.0).slot.0 (node r c.sender.0).mode
  where
    begins : (b : Bool) → is_about (cond b AboutToSend Waiting) ≡ (true && b)
    begins true = refl
    begins false = refl

    ends : (b : Bool) → is_about (cond b Waiting Sending) ≡ false
    ends true = refl
    ends false = refl

    go : (k s : ℕ) (m : Mode) → is_about m ≡ false → is_about (mode_after P (own P c.sender.0) k s m) ≡ (is_waiting m && guard_ends P c.p.0 k s)
    go k s Waiting e = rw R.sender_own (begins (guard_ends P c.p.0 k s))
    go k s AboutToSend e = e
    go k s Sending e = ends (eqb (k + P.tail.0 + 1) P.ticks.0)

module _ {P : Plan} {c : Parts} (o : Sound P) (R : Roles P c) (F : Failure P c) (plain : plan_refusal P ≡ None) (by_parts : (q : Place) → in_range P q.run ≡ true → given_of P q ≡ Ok (given_by P c q)) where
  fresh_rest : Rest P c 0 fresh_run
  fresh_rest =
      record {
        counts = λ k. 0;
        kept = record { room = omega (arith, room_fresh, o.nodes_high); range = fresh_range P o };
        early = fresh_before_pivot o c;
        quiet = λ k l. rw (node_fresh k (omega (arith, o.nodes_high)));
        nodes = λ k l. rw (node_fresh k (omega (arith, o.nodes_high))) (record { time = refl; count = refl });
      }

  -- one round, and more from the run that it leaves
  round_and : (k T U : ℕ) (r : Run) → T + 1 ≢ pivot_count P c → Rest P c T r → ((r : Run) → Rest P c (T + 1) r → Leads P (earlier r) (rounds_before P k r) Before (Rest P c U))
      → Leads P (earlier r) (round_before P r ++ rounds_before P k (run_after P r (round_before P r))) Before (Rest P c U)
  round_and k T U r n s more =
      let z = round_goes_before o R plain by_parts T r s n in
      rw (leads_run P z) (leads_after P z (more z.to z.holds))

  -- k rounds
  rounds_on : (k T U : ℕ) (r : Run) → T + k ≡ U → U < pivot_count P c → Rest P c T r → Leads P (earlier r) (rounds_before P k r) Before (Rest P c U)
  unfolding rounds_before
  rounds_on zero T U r e l s = let z : T ≡ U = omega arith in record { to = r; plays = refl; holds = rw z at s }
  rounds_on (suc k) T U r e l s = round_and k T U r (omega arith) s (λ r. rounds_on k (T + 1) U r (omega arith) l)

  -- the rounds before the pivot from a fresh run
  before : (k : ℕ) → k < pivot_count P c → Leads P (earlier fresh_run) (rounds_before P k fresh_run) Before (Rest P c k)
  before k l = rounds_on k 0 k fresh_run (omega arith) l fresh_rest

  rest_after : (k : ℕ) → k < pivot_count P c → Rest P c k (after_rounds P k)
  rest_after k l = let z = before k l in rw (leads_run P z) z.holds

  -- the round after k is the pivot, or not yet
  pivot_now : (k : ℕ) → k + 1 ≡ pivot_count P c → turns P (after_rounds P k) c.sender.0 ≡ true
  pivot_now k e =
      let s = rest_after k (omega arith) in
      turns_is P c R (after_rounds P k) (s.quiet c.sender.0 R.sender_below)
      ∙ pivot_is (setting R s.kept) s.early P.min.0 (waits_min o R plain by_parts k (after_rounds P k) s).move (omega (arith, rest_number o R plain by_parts k (after_rounds P k) s))

  pivot_later : (k : ℕ) → k + 1 < pivot_count P c → turns P (after_rounds P k) c.sender.0 ≡ false
  pivot_later k l =
      let s = rest_after k (omega arith) in
      turns_is P c R (after_rounds P k) (s.quiet c.sender.0 R.sender_below)
      ∙ pivot_not (setting R s.kept) s.early P.min.0 (waits_min o R plain by_parts k (after_rounds P k) s).move (λ e. absurd (omega (arith, rest_number o R plain by_parts k (after_rounds P k) s)))

  through : (k : ℕ) → k + 1 ≡ pivot_count P c → Leads P (earlier fresh_run) (through_pivot P c k) After (Ticked P)
  through k e = leads_then P (before k (omega arith)) (λ r s. round_of_pivot o R plain by_parts k r s e)

  -- the pivot's end is 0 after it
  calm : (r : Run) → Ticked P r → Calm P c 0 r
  calm r t = record { kept = t.kept; quiet = t.quiet; times = λ k l. rw (zero-mod (due_time P c After k)) (t.times k l) }

  by_rounds : ByRounds P c
  unfolding fresh_place
  by_rounds =
      record {
        rounds = k;
        now = pivot_now k full;
        not_before = λ j l. pivot_later j (omega (arith, full));
        count = full;
        through = plays_shown P (through_pivot P c k) fresh_place end z.plays;
        run = rw (at_end, leads_run P z);
        mark = rw at_end;
        times = rw at_end z.holds.times;
        whole = λ n. shows P c o plain by_parts fresh_place (told P c k n) After Anywhere (goes n) n (long n);
      }
    where
      k : ℕ
      k = pivot_count P c - 1

      full : k + 1 ≡ pivot_count P c
      full = omega (arith, o.guard_low)

      z : Leads P (earlier fresh_run) (through_pivot P c k) After (Ticked P)
      z = through k full

      end : Place
      end = record { run = z.to; mark = After }

      at_end : pivot_end P c k ≡ end
      at_end = plays_place P (through_pivot P c k) fresh_place end z.plays

      after : Run
      after = run_after P fresh_run (through_pivot P c k)

      goes : (n : ℕ) → Goes P fresh_place (told P c k n) After Anywhere
      goes n = goes_on P fresh_place (through_pivot P c k) (moments P c n 0 after) After After (Ticked P) Anywhere (arrives z) (λ r e t. rw e (moments_act o R plain by_parts n 0 r (calm r t)))

      long : (n : ℕ) → n ≤ length (told P c k n)
      long n = omega (arith, length-append (through_pivot P c k) (moments P c n 0 after), moments_long P c n 0 after)

pub shown_by_rounds : (P : Plan) → ShownByRounds P
shown_by_rounds P plain rule v = let z = cast P (sound P plain) rule v in by_rounds (sound P plain) z.roles z.failure plain (given_is P rule plain v)
