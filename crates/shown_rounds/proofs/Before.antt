-- A round before the pivot: first those tick whom the tick doesn't make about to send, then each of the others ticks and sends.
use Prim.Native.Nat.{ℕ, suc, ◌+◌, ◌<◌}
use mathlib.Core.Path.{◌≡◌, refl, sym, ap, ◌∙◌}
use mathlib.Core.Logic.{◌≢◌}
use mathlib.Core.Bool.{Bool, true, false, not, ◌&&◌, ◌||◌, or-true}
use mathlib.Core.List.{[], ◌∷◌}
use native.Mathlib.Decide.{ℕ_discrete}
use native.Mathlib.Omega.{arith}
use borrow.Author.Tests.{le-leb, lt-leb}
use lib.Dec.{leb}
use Rattle.std.specs.Prelude.{None, Ok}
use Rattle.laws.proofs.Bools.{clash, not_so, true_not_false, false_not_true, and_true_left, and_true_right}
use Rattle.plan.specs.declared.Plan.{Plan}
use Rattle.plan.specs.declared.Time.{Time}
use Rattle.plan.specs.Sending.{own}
use Rattle.plan.specs.Tested.{plan_refusal, Sound}
use Rattle.run.specs.declared.NodeState.{NodeState}
use Rattle.run.specs.declared.Run.{Run}
use Rattle.run.specs.declared.Step.{Step}
use Rattle.run.specs.declared.Step.TheVariants.{Delay, TickOf, SendOf}
use Rattle.run.specs.State.{node, is_about, in_range}
use Rattle.run.specs.Moves.{mode_after, node_sent, node_hearing, delayed, ticked, sent}
use Rattle.run.proofs.Nodes.{node_when_ticked}
use Rattle.shown.specs.declared.Mark.TheVariants.{Before}
use Rattle.shown.specs.declared.Place.{Place}
use Rattle.shown.specs.declared.Parts.{Parts}
use Rattle.shown.specs.Shown.{turns, goes_first, goes_second, next_step, mark_after, time_to_due, given_by, given_of}
use Rattle.shown.proofs.Play.{Quiet}
use Rattle.shows_why.proofs.Progress.{setting, Kept, bump, all_counted}
use Rattle.run.proofs.EveryNode.{all_delayed, all_sent}
use Rattle.shown.proofs.Roles.{Roles}
use Rattle.shows_why.proofs.Rounds.{earlier, pivot_count, BeforePivot, due_before, early_done, about_ticked, before_pivot_on_time, before_pivot_send, before_pivot_tick, before_pivot_delay, delay_is_min}
use Rattle.shows_why.proofs.BeforeMessage.{pivot_not}
use Rattle.shown_rounds.specs.Rounds.{ticks, ticks_and_sends, in_order, round_before}
use Rattle.shown_rounds.proofs.Next.{next_wait, next_send, next_first, next_second}
use Rattle.shown_rounds.proofs.Plays.{Leads, leads_then, leads_nowhere, Taken, takes_then, takes}
use Rattle.shown_rounds.proofs.InOrder.{from_self, from_next, from_other, goes_in_order}
use Rattle.shown_rounds.proofs.Together.{round_in_step}

-- a node that has had the tick of round T
pub record Had (T : ℕ) (a : NodeState) (v : ℕ) : Type 0 where
  pub time : a.time.0 ≡ 0
  pub count : v ≡ T

-- node k still lacks it; b says whether that tick will make it about to send
pub record Lacks (P : Plan) (T : ℕ) (b : Bool) (k : ℕ) (a : NodeState) (v : ℕ) : Type 0 where
  pub time : a.time.0 ≡ P.min.0
  pub count : v + 1 ≡ T
  pub turning : is_about (mode_after P (own P k) a.clock.0 a.slot.0 a.mode) ≡ b

abbrev pub OfRound : Plan → ℕ → Bool → (due : Bool) → ℕ → NodeState → ℕ → Type 0
OfRound P T b true k a v = Lacks P T b k a v
OfRound P T b false k a v = Had T a v

-- between the rounds: everybody has ticked T times
pub record Rest (P : Plan) (c : Parts) (T : ℕ) (r : Run) : Type 0 where
  pub counts : ℕ → ℕ
  pub kept : Kept P r
  pub early : BeforePivot P c r counts
  pub quiet : Quiet P (earlier r)
  pub nodes : (k : ℕ) → k < P.nodes.0 → Had T (node r k) (counts k)

-- in round T, which began on the run r: these are still due
pub record Stage (P : Plan) (c : Parts) (T : ℕ) (r : Run) (due : ℕ → Bool) (now : Run) : Type 0 where
  pub counts : ℕ → ℕ
  pub kept : Kept P now
  pub early : BeforePivot P c now counts
  pub quiet : Quiet P (earlier now)
  pub nodes : (k : ℕ) → k < P.nodes.0 → OfRound P T (turns P r k) (due k) k (node now k) (counts k)

-- who is still due in the first pass and in the second, when node i's turn comes
abbrev due_first : Plan → Run → ℕ → ℕ → Bool
due_first P r i k = turns P r k || leb i k

abbrev due_second : Plan → Run → ℕ → ℕ → Bool
due_second P r i k = turns P r k && leb i k

module _ {P : Plan} {c : Parts} (o : Sound P) (R : Roles P c) (plain : plan_refusal P ≡ None) (by_parts : (q : Place) → in_range P q.run ≡ true → given_of P q ≡ Ok (given_by P c q)) where
  had_early : (T : ℕ) (a : NodeState) (v : ℕ) → Had T a v → a.time.0 ≢ P.min.0
  had_early T a v h = omega (arith, h.time, o.min_low)

  hears : (T : ℕ) (b due : Bool) (k : ℕ) (a : NodeState) (v : ℕ) → OfRound P T b due k a v → OfRound P T b due k (node_hearing P a) v
  hears T b true k a v h = record { time = h.time; count = h.count; turning = h.turning }
  hears T b false k a v h = record { time = h.time; count = h.count }

  -- before the pivot a step that is next is taken
  takes_early : (r : Run) (n : ℕ → ℕ) (s : Step) → Kept P r → BeforePivot P c r n → next_step P c (earlier r) ≡ s → Taken P c (earlier r) s
  takes_early r n s k E = takes P c o plain by_parts (earlier r) s k (before_pivot_on_time (setting R k) E) (round_in_step o E.number r n E.round)

  module _ (T : ℕ) (r : Run) where
    -- others are due than before, but the same of the nodes
    due_same : (due due' : ℕ → Bool) (now : Run) → ((k : ℕ) → k < P.nodes.0 → due' k ≡ due k) → Stage P c T r due now → Stage P c T r due' now
    due_same due due' now e s =
        record { counts = s.counts; kept = s.kept; early = s.early; quiet = s.quiet; nodes = λ k l. rw (e k l) (s.nodes k l) }

    module _ (due : ℕ → Bool) (now : Run) (s : Stage P c T r due now) where
      -- who is due lacks its tick
      lacks : (k : ℕ) → k < P.nodes.0 → (node now k).time.0 ≡ P.min.0 → (due k ≡ true) × Lacks P T (turns P r k) k (node now k) (s.counts k)
      lacks k l e = go (due k) refl
        where
          go : (d : Bool) → due k ≡ d → (due k ≡ true) × Lacks P T (turns P r k) k (node now k) (s.counts k)
          go true q = (q, rw q at (s.nodes k l))
          go false q = absurd (had_early T (node now k) (s.counts k) (rw q at (s.nodes k l)) e)

      module _ (i : ℕ) (below : i < P.nodes.0) (e : due i ≡ true) where
        mine : Lacks P T (turns P r i) i (node now i) (s.counts i)
        mine = rw e at (s.nodes i below)

        -- the nodes after node i's tick
        ticks_on : (due' : ℕ → Bool) → due' i ≡ false → ((k : ℕ) → k ≢ i → due' k ≡ due k)
            → (k : ℕ) → k < P.nodes.0 → OfRound P T (turns P r k) (due' k) k (node (ticked P i now) k) (bump s.counts i k)
        ticks_on due' q same =
            all_counted P now s.kept.room (λ k a v. OfRound P T (turns P r k) (due' k) k a v) s.counts i below
            (rw q (record { time = refl; count = omega (arith, mine.count) }))
            (λ k l d. rw (same k d) (s.nodes k l))

    -- the first pass

    acts_first : (i : ℕ) (now : Run) → i < P.nodes.0 → not (turns P r i) ≡ true → Stage P c T r (due_first P r i) now
        → Leads P (earlier now) (ticks i) Before (Stage P c T r (due_first P r (suc i)))
    unfolding goes_first mark_after
    acts_first i now below f s =
        takes_then P c (earlier now) (TickOf (record { 0 = i })) [] Before (Stage P c T r (due_first P r (suc i))) taken (record {
          to = ticked P i now;
          plays = refl;
          holds = record {
            counts = bump s.counts i;
            kept = taken.kept;
            early = before_pivot_tick (setting R s.kept) s.early i taken.move;
            quiet = λ k l. not_so (is_about (node (ticked P i now) k).mode) (λ e. clash (turns P now i) (about_ticked P now i k (omega (arith, below, s.kept.room)) (s.quiet k l) e).1 (own_turn.turning ∙ silent));
            nodes = ticks_on (due_first P r i) now s i below due_holds (due_first P r (suc i)) (rw (silent, from_next i)) (λ k d. rw (from_other i k d));
          };
        })
      where
        silent : turns P r i ≡ false
        silent = true_not_false (turns P r i) f

        due_holds : due_first P r i i ≡ true
        due_holds = rw (silent, from_self i)

        own_turn : Lacks P T (turns P r i) i (node now i) (s.counts i)
        own_turn = mine (due_first P r i) now s i below due_holds

        -- a lower node that is still due is one that the tick makes about to send
        lower : (k : ℕ) → k < i → (node now k).time.0 ≡ P.min.0 → not (turns P now k) ≡ false
        lower k l e = go (turns P r k) refl
          where
            still : (due_first P r i k ≡ true) × Lacks P T (turns P r k) k (node now k) (s.counts k)
            still = lacks (due_first P r i) now s k (omega (arith, below)) e

            go : (b : Bool) → turns P r k ≡ b → not (turns P now k) ≡ false
            go true q = ap not (still.1.turning ∙ q)
            go false q = clash (due_first P r i k) still.0 (rw (q, lt-leb i k l))

        taken : Taken P c (earlier now) (TickOf (record { 0 = i }))
        taken =
            takes_early now s.counts (TickOf (record { 0 = i })) s.kept s.early
            (next_first P c (earlier now) i below s.quiet (own_turn.time ∙ sym (due_before P c i)) (ap not (own_turn.turning ∙ silent)) (λ k l e. lower k l (e ∙ due_before P c k)))

    skips_first : (i : ℕ) (now : Run) → i < P.nodes.0 → not (turns P r i) ≡ false → Stage P c T r (due_first P r i) now → Stage P c T r (due_first P r (suc i)) now
    skips_first i now below f = due_same (due_first P r i) (due_first P r (suc i)) now (λ k l. go k (ℕ_discrete k i))
      where
        go : (k : ℕ) → Dec (k ≡ i) → due_first P r (suc i) k ≡ due_first P r i k
        go k (yes e) = rw (e, false_not_true (turns P r i) f)
        go k (no d) = rw (from_other i k d)

    first_pass : (now : Run) → Stage P c T r (λ k. true) now → Leads P (earlier now) (in_order P (λ i. not (turns P r i)) ticks) Before (Stage P c T r (turns P r))
    first_pass now s =
        let z = goes_in_order P (Leads P) (leads_nowhere P) (λ q a b m k J K. leads_then P) (λ i. not (turns P r i)) ticks Before (λ i. Stage P c T r (due_first P r i)) acts_first skips_first P.nodes.0 0 (omega arith) now (due_same (λ k. true) (due_first P r 0) now (λ k l. at_first k) s) in
        record { to = z.to; plays = z.plays; holds = due_same (due_first P r P.nodes.0) (turns P r) z.to (λ k l. at_last k l (turns P r k) refl) z.holds }
      where
        at_first : (k : ℕ) → due_first P r 0 k ≡ true
        at_first k = rw (le-leb 0 k (omega arith)) (or-true (turns P r k))

        at_last : (k : ℕ) → k < P.nodes.0 → (b : Bool) → turns P r k ≡ b → turns P r k ≡ due_first P r P.nodes.0 k
        at_last k l true e = rw e
        at_last k l false e = rw (e, lt-leb P.nodes.0 k l)

    -- the second pass

    acts_second : (i : ℕ) (now : Run) → i < P.nodes.0 → turns P r i ≡ true → Stage P c T r (due_second P r i) now
        → Leads P (earlier now) (ticks_and_sends i) Before (Stage P c T r (due_second P r (suc i)))
    unfolding goes_first goes_second mark_after
    acts_second i now below f s =
        takes_then P c (earlier now) (TickOf (record { 0 = i })) (SendOf (record { 0 = i }) ∷ []) Before (Stage P c T r (due_second P r (suc i))) taken
        (takes_then P c (earlier (ticked P i now)) (SendOf (record { 0 = i })) [] Before (Stage P c T r (due_second P r (suc i))) sends (record {
          to = sent P i (ticked P i now);
          plays = refl;
          holds = record {
            counts = bump s.counts i;
            kept = sends.kept;
            early = before_pivot_send (setting R taken.kept) early i sends.move;
            quiet = all_sent P (ticked P i now) taken.kept.room (λ k a. is_about a.mode ≡ false) i below refl (λ k l d. others k l d);
            nodes = all_sent P (ticked P i now) taken.kept.room (λ k a. OfRound P T (turns P r k) (due_second P r (suc i) k) k a (bump s.counts i k)) i below
                (sent_node (due_second P r (suc i) i) (rw (f, from_next i)) (nodes i below))
                (λ k l d. hears T (turns P r k) (due_second P r (suc i) k) k (node (ticked P i now) k) (bump s.counts i k) (nodes k l));
          };
        }))
      where
        due_holds : due_second P r i i ≡ true
        due_holds = rw (f, from_self i)

        own_turn : Lacks P T (turns P r i) i (node now i) (s.counts i)
        own_turn = mine (due_second P r i) now s i below due_holds

        -- who is still due is one that the tick makes about to send, and none of them is lower
        still : (k : ℕ) → k < P.nodes.0 → (node now k).time.0 ≡ P.min.0 → (turns P r k ≡ true) × (leb i k ≡ true) × (turns P now k ≡ turns P r k)
        still k l e =
            let z = lacks (due_second P r i) now s k l e in
            (and_true_left (turns P r k) (leb i k) z.0, and_true_right (turns P r k) (leb i k) z.0, z.1.turning)

        taken : Taken P c (earlier now) (TickOf (record { 0 = i }))
        taken =
            takes_early now s.counts (TickOf (record { 0 = i })) s.kept s.early
            (next_second P c (earlier now) i below s.quiet (own_turn.time ∙ sym (due_before P c i))
            (λ k l e. let z = still k l (e ∙ due_before P c k) in ap not (z.2 ∙ z.0)) refl
            (λ k l e. clash (leb i k) (still k (omega (arith, below)) (e ∙ due_before P c k)).1 (lt-leb i k l)))

        early : BeforePivot P c (ticked P i now) (bump s.counts i)
        early = before_pivot_tick (setting R s.kept) s.early i taken.move

        about : is_about (node (ticked P i now) i).mode ≡ true
        about = ap (λ (a : NodeState). is_about a.mode) (node_when_ticked P now i (omega (arith, below, s.kept.room))) ∙ own_turn.turning ∙ f

        others : (k : ℕ) → k < P.nodes.0 → k ≢ i → is_about (node (ticked P i now) k).mode ≡ false
        others k l d = not_so (is_about (node (ticked P i now) k).mode) (λ e. d (about_ticked P now i k (omega (arith, below, s.kept.room)) (s.quiet k l) e).0)

        sends : Taken P c (earlier (ticked P i now)) (SendOf (record { 0 = i }))
        sends =
            takes_early (ticked P i now) (bump s.counts i) (SendOf (record { 0 = i })) taken.kept early
            (next_send P c (earlier (ticked P i now)) i below about (λ k l. others k (omega (arith, below)) (omega arith)))

        nodes : (k : ℕ) → k < P.nodes.0 → OfRound P T (turns P r k) (due_second P r (suc i) k) k (node (ticked P i now) k) (bump s.counts i k)
        nodes = ticks_on (due_second P r i) now s i below due_holds (due_second P r (suc i)) (rw (f, from_next i)) (λ k d. rw (from_other i k d))

        sent_node : (d : Bool) → d ≡ false → OfRound P T (turns P r i) d i (node (ticked P i now) i) (bump s.counts i i) → OfRound P T (turns P r i) d i (node_sent (node (ticked P i now) i)) (bump s.counts i i)
        sent_node true e h = clash true refl e
        sent_node false e h = record { time = h.time; count = h.count }

    skips_second : (i : ℕ) (now : Run) → i < P.nodes.0 → turns P r i ≡ false → Stage P c T r (due_second P r i) now → Stage P c T r (due_second P r (suc i)) now
    skips_second i now below f = due_same (due_second P r i) (due_second P r (suc i)) now (λ k l. go k (ℕ_discrete k i))
      where
        go : (k : ℕ) → Dec (k ≡ i) → due_second P r (suc i) k ≡ due_second P r i k
        go k (yes e) = rw (e, f)
        go k (no d) = rw (from_other i k d)

    second_pass : (now : Run) → Stage P c T r (turns P r) now → Leads P (earlier now) (in_order P (turns P r) ticks_and_sends) Before (Rest P c T)
    second_pass now s =
        let z = goes_in_order P (Leads P) (leads_nowhere P) (λ q a b m k J K. leads_then P) (turns P r) ticks_and_sends Before (λ i. Stage P c T r (due_second P r i)) acts_second skips_second P.nodes.0 0 (omega arith) now (due_same (turns P r) (due_second P r 0) now (λ k l. at_first k) s) in
        record { to = z.to; plays = z.plays; holds = rest z.to z.holds }
      where
        at_first : (k : ℕ) → due_second P r 0 k ≡ turns P r k
        at_first k = rw (le-leb 0 k (omega arith)) (only (turns P r k))
          where
            only : (b : Bool) → (b && true) ≡ b
            only true = refl
            only false = refl

        rest : (now : Run) → Stage P c T r (due_second P r P.nodes.0) now → Rest P c T now
        rest now s = record { counts = s.counts; kept = s.kept; early = s.early; quiet = s.quiet; nodes = λ k l. had k l (turns P r k) refl }
          where
            had : (k : ℕ) → k < P.nodes.0 → (b : Bool) → turns P r k ≡ b → Had T (node now k) (s.counts k)
            had k l true e = rw (e, lt-leb P.nodes.0 k l) at (s.nodes k l)
            had k l false e = rw e at (s.nodes k l)

  -- the whole round

  module _ (T : ℕ) (r : Run) (s : Rest P c T r) where
    pub rest_number : s.early.number ≡ T
    rest_number =
        let zero_in : 0 < P.nodes.0 = omega (arith, o.nodes_low) in
        let h = s.nodes 0 zero_in in
        omega (arith, h.count, (early_done o (s.early.round 0 zero_in).turned (had_early T (node r 0) (s.counts 0) h)).0)

    -- a round begins with a delay of min
    pub waits_min : Taken P c (earlier r) (Delay P.min)
    waits_min =
        let next = next_wait P c (earlier r) s.quiet (λ k l e. had_early T (node r k) (s.counts k) (s.nodes k l) (e ∙ due_before P c k)) in
        let d : Time = record { 0 = time_to_due P c (earlier r) } in
        let first = takes_early r s.counts (Delay d) s.kept s.early next in
        takes_early r s.counts (Delay P.min) s.kept s.early
        (next ∙ ap (λ (n : ℕ). Delay (record { 0 = n })) (delay_is_min (setting R s.kept) s.early (time_to_due P c (earlier r)) first.move))

    pub round_goes_before : T + 1 ≢ pivot_count P c → Leads P (earlier r) (round_before P r) Before (Rest P c (T + 1))
    unfolding round_before mark_after
    round_goes_before n =
        takes_then P c (earlier r) (Delay P.min) _ Before (Rest P c (T + 1)) waits_min
        (rw (pivot_not (setting R s.kept) s.early P.min.0 waits_min.move other)
        (leads_then P (first_pass (T + 1) r (delayed P P.min.0 r) begun) (second_pass (T + 1) r)))
      where
        other : s.early.number + 1 ≢ pivot_count P c
        other e = n (omega (arith, rest_number))

        begun : Stage P c (T + 1) r (λ k. true) (delayed P P.min.0 r)
        begun =
            record {
              counts = s.counts;
              kept = waits_min.kept;
              early = before_pivot_delay (setting R s.kept) s.early P.min.0 waits_min.move other;
              quiet = all_delayed P r s.kept.room (λ k a. is_about a.mode ≡ false) P.min.0 s.quiet;
              nodes = all_delayed P r s.kept.room (λ k a. Lacks P (T + 1) (turns P r k) k a (s.counts k)) P.min.0
                  (λ k l. record { time = omega (arith, (s.nodes k l).time); count = omega (arith, (s.nodes k l).count); turning = refl });
            }
