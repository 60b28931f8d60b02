-- Demand 3, second half: the run shown for a failed rule is legal, ends, and ends out of step.
use Prim.Native.Nat.{ℕ, ◌+◌, ◌*◌, ◌≤◌, ◌<◌}
use mathlib.Core.Path.{◌≡◌, refl}
use mathlib.Core.Bool.{false}
use native.Mathlib.Nat.{mul-le-mul_right}
use native.Mathlib.Omega.{arith}
use borrow.Author.Tests.{eq-eqb, ne_eqb}
use Rattle.laws.proofs.Bools.{clash}
use Rattle.laws.proofs.Same.{by_same}
use Rattle.laws.proofs.Ring.{from_0}
use Rattle.plan.specs.declared.Plan.{Plan}
use Rattle.plan.specs.Tested.{Sound}
use Rattle.plan.proofs.Sound.{sound}
use Rattle.run.specs.declared.Run.{Run}
use Rattle.run.specs.declared.Step.{Step}
use Rattle.run.specs.declared.Step.TheVariants.{Delay, TickOf, SendOf}
use Rattle.run.specs.State.{fresh_run}
use Rattle.run.specs.Moves.{moved, ticked}
use Rattle.run.proofs.Nodes.{node_fresh, room_fresh}
use Rattle.run.proofs.Ranges.{fresh_range}
use Rattle.shown.specs.declared.Mark.{Mark}
use Rattle.shown.specs.declared.Mark.TheVariants.{Before, In, After}
use Rattle.shown.specs.declared.Parts.{Parts}
use Rattle.shown.specs.Parts.{parts_for}
use Rattle.shown.specs.Shown.{fresh_place, mark_after}
use Rattle.shows_why.specs.Ends.{ShowsWhy}
use Rattle.shown.proofs.Play.{OnTime, Move}
use Rattle.shown.proofs.Giving.{given_is}
use Rattle.shown.proofs.Roles.{Failure, one, two, three, pivot_in_frame}
use Rattle.shows_why.proofs.Progress.{bump, bump_same, bump_other, at_bump, counted, Unless, over, on, Setting, setting, left_most, ends_from}
use Rattle.shows_why.proofs.Stands.{waits}
use Rattle.shows_why.proofs.Rounds.{earlier, pivot_count, done, BeforePivot, round_count, pivot_short, before_pivot_on_time, before_pivot_send, before_pivot_tick, before_pivot_delay}
use Rattle.shows_why.proofs.AfterPivot.{later}
use Rattle.shows_why.proofs.ByRule.{Besides, Ending, nobody_sent, ending_short, ending_on_time, ending_keeps}
use Rattle.shows_why.proofs.AfterMessage.{within, AfterMessage, after_message_count, after_message_on_time, after_message_send, after_message_delay, after_message_other, after_message_fast}
use Rattle.shows_why.proofs.BeforeMessage.{BeforeMessage, pivot_is, pivot_not, pivot_begins, before_message_on_time, before_message_delay, not_fast, before_message_tick, before_message_send}
use Rattle.shown.proofs.Casting.{cast}

-- in the pivot: before the message or after it
pub data Pivot (P : Plan) (parts : Parts) (r : Run) (n : ℕ → ℕ) : Type 0 where
  unsent : BeforeMessage P parts r n → Pivot P parts r n
  heard : AfterMessage P parts r n → Pivot P parts r n

-- after the pivot, with each node's ticks since
pub record Since (P : Plan) (parts : Parts) (F : Failure P parts) (r : Run) (n : ℕ → ℕ) : Type 0 where
  pub ticks : ℕ → ℕ
  pub state : Ending P parts F r ticks
  pub counts : (k : ℕ) → k < P.nodes.0 → n k ≡ pivot_count P parts + ticks k

-- what every place of the shown run is like, by its mark; n counts each node's ticks
abbrev pub ByMark : (P : Plan) (parts : Parts) → Failure P parts → Mark → Run → (ℕ → ℕ) → Type 0
ByMark P parts F Before r n = BeforePivot P parts r n
ByMark P parts F In r n = Pivot P parts r n
ByMark P parts F After r n = Since P parts F r n

module _ {P : Plan} {parts : Parts} {r : Run} (G : Setting P parts r) (F : Failure P parts) (n : ℕ → ℕ) where
  open G use {roles as R, room}
  open R use {sound as S}

  abbrev f : ℕ
  f = parts.fast.0

  -- a place after a step, unless out of step
  abbrev Then : Mark → Step → Type 0
  Then k s = Unless P (record { run = moved P r s; mark = mark_after P parts r k s }) (ByMark P parts F (mark_after P parts r k s) (moved P r s) (counted s n))

  before_keeps : BeforePivot P parts r n → (s : Step) → Move P parts (earlier r) s → Then Before s
  unfolding mark_after
  before_keeps E (Delay d) h =
      by_same (E.number + 1) (pivot_count P parts) (λ e. rw (pivot_is G E d.0 h e) (on (unsent (pivot_begins G E d.0 h e))))
      (λ e. rw (pivot_not G E d.0 h e) (on (before_pivot_delay G E d.0 h e)))
  before_keeps E (TickOf i) h = on (before_pivot_tick G E i.0 h)
  before_keeps E (SendOf i) h = on (before_pivot_send G E i.0 h)

  begins : (H : Failure P parts) → Besides P parts H (λ k. 0)
  begins (one H) = tt
  begins (two b H) = omega arith
  begins (three H) = omega (arith, S.guard_tail)

  since : AfterMessage P parts r n → Since P parts F (ticked P f r) (bump n f)
  since D =
      record {
        ticks = λ k. 0;
        state = nobody_sent (after_message_fast G D) (begins F);
        counts = λ k l. at_bump (λ k v. v ≡ pivot_count P parts + 0) n f k (omega (arith, D.fast.count)) (λ d. omega (arith, (D.others k l d).count));
      }

  pivot_keeps : Pivot P parts r n → (s : Step) → Move P parts (within r) s → Then In s
  unfolding mark_after
  pivot_keeps (unsent E) (Delay d) h = absurd (before_message_delay G E d.0 h)
  pivot_keeps (heard D) (Delay d) h = absurd (after_message_delay G D d.0 h)
  pivot_keeps (unsent E) (TickOf i) h =
      by_same i.0 f (λ e. absurd (not_fast G E (rw e at h))) (λ d. rw (ne_eqb i.0 f d) (on (unsent (before_message_tick G E i.0 d h))))
  pivot_keeps (heard D) (TickOf i) h = by_same i.0 f (λ e. rw (eq-eqb i.0 f e, e) (on (since D))) (λ d. absurd (after_message_other G D i.0 d h))
  pivot_keeps (unsent E) (SendOf i) h = on (heard (before_message_send G E i.0 h))
  pivot_keeps (heard D) (SendOf i) h = absurd (after_message_send G D i.0 h)

  after_keeps : Since P parts F r n → (s : Step) → Move P parts (later r) s → Then After s
  unfolding mark_after
  after_keeps v s h = go (ending_keeps G v.state s h)
    where
      counts : (s : Step) (k : ℕ) → k < P.nodes.0 → counted s n k ≡ pivot_count P parts + counted s v.ticks k
      counts (Delay d) k l = v.counts k l
      counts (TickOf i) k l =
          by_same k i.0 (λ e. rw (← e, bump_same n k, bump_same v.ticks k) (omega (arith, v.counts k l)))
          (λ d. rw (bump_other n i.0 k d, bump_other v.ticks i.0 k d) (v.counts k l))
      counts (SendOf i) k l = v.counts k l

      go : Unless P (later (moved P r s)) (Ending P parts F (moved P r s) (counted s v.ticks)) → Unless P (later (moved P r s)) (Since P parts F (moved P r s) (counted s n))
      go (over e) = over e
      go (on u) = on (record { ticks = counted s v.ticks; state = u; counts = counts s })

  mark_keeps : (k : Mark) → ByMark P parts F k r n → (s : Step) → Move P parts (record { run = r; mark = k }) s → Then k s
  mark_keeps Before v = before_keeps v
  mark_keeps In v = pivot_keeps v
  mark_keeps After v = after_keeps v

  mark_on_time : (k : Mark) → ByMark P parts F k r n → OnTime P parts (record { run = r; mark = k })
  mark_on_time Before E = before_pivot_on_time G E
  mark_on_time In (unsent E) = before_message_on_time G E
  mark_on_time In (heard D) = after_message_on_time G D
  mark_on_time After v = ending_on_time G v.state

  -- no node comes to two frames' ticks
  mark_short : (k : Mark) → ByMark P parts F k r n → (i : ℕ) → i < P.nodes.0 → n i < 2 * P.frame.0 * P.ticks.0
  mark_short k v i l =
      let frame : parts.p.0 * P.ticks.0 ≤ P.frame.0 * P.ticks.0 = mul-le-mul_right P.ticks.0 (omega (arith, pivot_in_frame R)) in
      go k v frame
    where
      go : (k : Mark) → ByMark P parts F k r n → parts.p.0 * P.ticks.0 ≤ P.frame.0 * P.ticks.0 → n i < 2 * P.frame.0 * P.ticks.0
      go Before E q = omega (arith, round_count S (E.round i l).turned, E.before, pivot_short R)
      go In (unsent E) q = omega (arith, round_count S (E.round i l).turned, pivot_short R)
      go In (heard D) q = omega (arith, after_message_count G D i l, pivot_short R)
      go After v q = omega (arith, v.counts i l, ending_short G v.state i l)

-- a fresh run is in round 0, of which everybody had the tick
pub fresh_before_pivot : {P : Plan} (S : Sound P) (parts : Parts) → BeforePivot P parts fresh_run (λ k. 0)
fresh_before_pivot {P} S parts =
    record {
      number = 0;
      before = omega (arith, S.guard_low);
      round = λ i l. rw (node_fresh i (omega (arith, S.nodes_high))) (record {
        stands = record {
          base_in = omega (arith, S.frame_low);
          clock_in = omega (arith, S.ticks_low);
          slot_in = omega (arith, S.frame_low);
          counts = rw (from_0 P.frame.0 0 (omega (arith, S.frame_low))) (omega arith);
          doing = waits (λ e g. absurd (omega (arith, S.guard_low)));
          hears = λ e. clash false e refl;
        };
        turned = done refl refl;
      });
      together = λ i l e j h. refl;
    }

pub shows_why : (P : Plan) → ShowsWhy P
unfolding fresh_place
shows_why P plain rule v =
    let z = cast P (sound P plain) rule v in
    let S = z.roles.sound in
    let r = ends_from P (parts_for P rule) S plain (given_is P rule plain v) (λ q n. ByMark P (parts_for P rule) z.failure q.mark q.run n) (2 * P.frame.0 * P.ticks.0)
    (λ q n k v. mark_short (setting z.roles k) z.failure n q.mark v) (λ q n k v. mark_on_time (setting z.roles k) z.failure n q.mark v)
    (λ q n s k v h. mark_keeps (setting z.roles k) z.failure n q.mark v s h) fresh_place (λ k. 0)
    (record { room = omega (arith, room_fresh, S.nodes_high); range = fresh_range P S }) (fresh_before_pivot S (parts_for P rule)) in
    record {
      count = r.count;
      exact = r.exact;
      legal = r.legal;
      reached = r.reached;
      out = r.out;
      finished = r.finished;
      no_more = r.no_more;
      few = omega (arith, r.few, left_most P (2 * P.frame.0 * P.ticks.0) (λ k. 0));
    }
