-- After the pivot: y after it, every node's time since tick is what is left of y over its due time, and the next moment is the nearest.
use Prim.Native.Nat.{ℕ, zero, suc, ◌+◌, ◌-◌, ◌%◌, ◌≤◌, ◌<◌}
use mathlib.Core.Path.{◌≡◌, refl, sym, ap, ◌∙◌}
use mathlib.Core.Logic.{◌≢◌}
use mathlib.Core.Bool.{Bool, true, false, cond, not, ◌&&◌, and-false}
use mathlib.Core.List.{[], ◌∷◌, ◌++◌}
use native.Mathlib.Nat.{mod-lt, mod-eq_of_lt, mod_self, mod-add-mod}
use native.Mathlib.Decide.{ℕ_discrete}
use native.Mathlib.Omega.{arith}
use borrow.Author.Tests.{eqb-true, eqb-false, eq-eqb, ne_eqb, le-leb, lt-leb}
use lib.Dec.{eqb, leb}
use lib.ListN.{length, length-append}
use Rattle.std.specs.Prelude.{None, Ok}
use Rattle.laws.proofs.Bools.{clash, not_so, and_true_left, and_true_right, true_not_false}
use Rattle.laws.proofs.Belows.{Reached, least_under, least_reached}
use Rattle.plan.specs.declared.Plan.{Plan}
use Rattle.plan.specs.Sending.{own}
use Rattle.plan.specs.Tested.{plan_refusal, Sound}
use Rattle.run.specs.declared.NodeState.{NodeState}
use Rattle.run.specs.declared.Run.{Run}
use Rattle.run.specs.declared.Step.TheVariants.{Delay, TickOf, SendOf}
use Rattle.run.specs.State.{node, is_about, in_range}
use Rattle.run.specs.Moves.{mode_after, node_delayed, node_hearing, delayed, ticked, sent}
use Rattle.run.specs.Steps.{run_after}
use Rattle.run.proofs.Nodes.{node_when_ticked}
use Rattle.shown.specs.declared.Mark.TheVariants.{After}
use Rattle.shown.specs.declared.Place.{Place}
use Rattle.shown.specs.declared.Parts.{Parts}
use Rattle.shown.specs.Shown.{due_time, turns, goes_first, goes_second, time_to_due, next_step, mark_after, given_by, given_of}
use Rattle.shown.proofs.Play.{Quiet, OnTime, Due, due_low}
use Rattle.shows_why.proofs.Progress.{Kept, all_counted}
use Rattle.run.proofs.EveryNode.{all_delayed, all_sent}
use Rattle.shown.proofs.Roles.{Roles}
use Rattle.shows_why.proofs.Rounds.{about_ticked}
use Rattle.shows_why.proofs.AfterPivot.{later, due_fast, due_slow}
use Rattle.shown_rounds.specs.Rounds.{ticks, ticks_and_sends, in_order}
use Rattle.shown_rounds.specs.Moments.{to_nearest, acts, at_moment, next_moment, moments}
use Rattle.shown_rounds.proofs.Next.{next_wait, next_send, next_first, next_second}
use Rattle.shown_rounds.proofs.Plays.{Taken}
use Rattle.shown_rounds.proofs.InOrder.{from_self, from_next, from_other, goes_in_order}
use Rattle.shown_rounds.proofs.Stops.{Goes, goes_nowhere, goes_to, goes_on, goes_by}

-- node k is due at y, a moment of its own; b says whether its tick will make it about to send
record Owes (P : Plan) (c : Parts) (y : ℕ) (b : Bool) (k : ℕ) (a : NodeState) : Type 0 where
  time : a.time.0 ≡ due_time P c After k
  moment : y % due_time P c After k ≡ 0
  turning : is_about (mode_after P (own P k) a.clock.0 a.slot.0 a.mode) ≡ b

abbrev AtTime : Plan → Parts → ℕ → Bool → (due : Bool) → ℕ → NodeState → Type 0
AtTime P c y b true k a = Owes P c y b k a
AtTime P c y b false k a = a.time.0 ≡ y % due_time P c After k

-- between the moments, y after the pivot
pub record Calm (P : Plan) (c : Parts) (y : ℕ) (r : Run) : Type 0 where
  pub kept : Kept P r
  pub quiet : Quiet P (later r)
  pub times : (k : ℕ) → k < P.nodes.0 → (node r k).time.0 ≡ y % due_time P c After k

-- at the moment y, which began on the run r: these are still due
record Moment (P : Plan) (c : Parts) (y : ℕ) (r : Run) (due : ℕ → Bool) (now : Run) : Type 0 where
  kept : Kept P now
  quiet : Quiet P (later now)
  nodes : (k : ℕ) → k < P.nodes.0 → AtTime P c y (turns P r k) (due k) k (node now k)

-- wherever a run comes to
abbrev pub Anywhere : Run → Type 0
Anywhere r = Unit {0}

module _ {P : Plan} {c : Parts} (o : Sound P) (R : Roles P c) (plain : plan_refusal P ≡ None) (by_parts : (q : Place) → in_range P q.run ≡ true → given_of P q ≡ Ok (given_by P c q)) where
  abbrev f : ℕ
  f = c.fast.0

  left_below : (y k : ℕ) → y % due_time P c After k < due_time P c After k
  left_below y k = mod-lt y (omega (arith, due_low P c o After k, o.min_low))

  hears : (y : ℕ) (b due : Bool) (k : ℕ) (a : NodeState) → AtTime P c y b due k a → AtTime P c y b due k (node_hearing P a)
  hears y b true k a h = record { time = h.time; moment = h.moment; turning = h.turning }
  hears y b false k a h = h

  module _ (y : ℕ) (r : Run) where
    due_same : (due due' : ℕ → Bool) (now : Run) → ((k : ℕ) → k < P.nodes.0 → due' k ≡ due k) → Moment P c y r due now → Moment P c y r due' now
    due_same due due' now e s = record { kept = s.kept; quiet = s.quiet; nodes = λ k l. rw (e k l) (s.nodes k l) }

    module _ (due : ℕ → Bool) (now : Run) (nodes : (k : ℕ) → k < P.nodes.0 → AtTime P c y (turns P r k) (due k) k (node now k)) where
      timely : OnTime P c (later now)
      timely k l = go (due k) (nodes k l)
        where
          go : (d : Bool) → AtTime P c y (turns P r k) d k (node now k) → (node now k).time.0 ≤ due_time P c After k
          go true h = omega (arith, h.time)
          go false h = omega (arith, h, left_below y k)

      -- who is due is one of those
      still : (k : ℕ) → k < P.nodes.0 → Due P c (later now) k → due k ≡ true
      still k l e = go (due k) refl
        where
          go : (d : Bool) → due k ≡ d → due k ≡ true
          go true q = q
          go false q = absurd (let z : (node now k).time.0 ≡ y % due_time P c After k = rw q at (nodes k l) in omega (arith, left_below y k))

    -- a node that is due and whose turn it is
    module _ (due due' : ℕ → Bool) (now : Run) (s : Moment P c y r due now) (i : ℕ) (below : i < P.nodes.0) (e : due i ≡ true) (e' : due' i ≡ false) (same : (k : ℕ) → k ≢ i → due' k ≡ due k)
        (next : next_step P c (later now) ≡ TickOf (record { 0 = i })) where
      mine : Owes P c y (turns P r i) i (node now i)
      mine = rw e at (s.nodes i below)

      nodes_after : (k : ℕ) → k < P.nodes.0 → AtTime P c y (turns P r k) (due' k) k (node (ticked P i now) k)
      nodes_after =
          all_counted P now s.kept.room (λ k a v. AtTime P c y (turns P r k) (due' k) k a) (λ k. 0) i below
          (rw e' (sym mine.moment))
          (λ k l d. rw (same k d) (s.nodes k l))

      about_after : (k : ℕ) → k < P.nodes.0 → is_about (node (ticked P i now) k).mode ≡ true → (k ≡ i) × (turns P now i ≡ true)
      about_after k l = about_ticked P now i k (omega (arith, below, s.kept.room)) (s.quiet k l)

      one_acts : Goes P (later now) (acts P r i) After (Moment P c y r due')
      unfolding mark_after
      one_acts = go (turns P r i) refl
        where
          J : Run → Type 0
          J = Moment P c y r due'

          sends : turns P r i ≡ true → Taken P c (later now) (TickOf (record { 0 = i })) → Goes P (later (ticked P i now)) (SendOf (record { 0 = i }) ∷ []) After J
          sends b d =
              goes_by P c o plain by_parts (later (ticked P i now)) (SendOf (record { 0 = i })) [] After J d.kept (timely due' (ticked P i now) nodes_after)
              (next_send P c (later (ticked P i now)) i below about (λ k l. others k (omega (arith, below)) (omega arith)))
              (λ d'. goes_nowhere P (sent P i (ticked P i now)) After J (record {
                kept = d'.kept;
                quiet = all_sent P (ticked P i now) d.kept.room (λ k a. is_about a.mode ≡ false) i below refl others;
                nodes = all_sent P (ticked P i now) d.kept.room (λ k a. AtTime P c y (turns P r k) (due' k) k a) i below
                    (rw e' (rw e' at (nodes_after i below)))
                    (λ k l n. hears y (turns P r k) (due' k) k (node (ticked P i now) k) (nodes_after k l));
              }))
            where
              about : is_about (node (ticked P i now) i).mode ≡ true
              about = ap (λ (a : NodeState). is_about a.mode) (node_when_ticked P now i (omega (arith, below, s.kept.room))) ∙ mine.turning ∙ b

              others : (k : ℕ) → k < P.nodes.0 → k ≢ i → is_about (node (ticked P i now) k).mode ≡ false
              others k l n = not_so (is_about (node (ticked P i now) k).mode) (λ x. n (about_after k l x).0)

          go : (b : Bool) → turns P r i ≡ b → Goes P (later now) (cond b (ticks_and_sends i) (ticks i)) After J
          go true b = goes_by P c o plain by_parts (later now) (TickOf (record { 0 = i })) (SendOf (record { 0 = i }) ∷ []) After J s.kept (timely due now s.nodes) next (sends b)
          go false b =
              goes_by P c o plain by_parts (later now) (TickOf (record { 0 = i })) [] After J s.kept (timely due now s.nodes) next
              (λ d. goes_nowhere P (ticked P i now) After J (record {
                kept = d.kept;
                quiet = λ k l. not_so (is_about (node (ticked P i now) k).mode) (λ x. clash (turns P now i) (about_after k l x).1 (mine.turning ∙ b));
                nodes = nodes_after;
              }))

    -- the fast node

    -- who is due at y: whose moment it is; all but the fast node of these; the others from i on
    abbrev is_due_now : ℕ → Bool
    is_due_now k = eqb (y % due_time P c After k) 0

    abbrev due_others : ℕ → Bool
    due_others k = not (eqb k f) && is_due_now k

    abbrev due_from : ℕ → ℕ → Bool
    due_from i k = not (eqb k f) && leb i k

    fast_acts : (now : Run) → Moment P c y r is_due_now now → Goes P (later now) (cond (eqb (y % P.min.0) 0) (acts P r f) []) After (Moment P c y r due_others)
    unfolding goes_first
    fast_acts now s = go (eqb (y % P.min.0) 0) refl
      where
        go : (b : Bool) → eqb (y % P.min.0) 0 ≡ b → Goes P (later now) (cond b (acts P r f) []) After (Moment P c y r due_others)
        go true e =
            let due_holds : is_due_now f ≡ true = rw (due_fast P c) e in
            let owes : Owes P c y (turns P r f) f (node now f) = rw due_holds at (s.nodes f R.fast_below) in
            one_acts is_due_now due_others now s f R.fast_below due_holds (rw (eq-eqb f f refl)) (λ k d. rw (ne_eqb k f d))
            (next_first P c (later now) f R.fast_below s.quiet owes.time (eq-eqb f f refl) (λ k l d. ne_eqb k f (omega arith)))
        go false e = goes_nowhere P now After (Moment P c y r due_others) (due_same is_due_now due_others now (λ k l. at k (ℕ_discrete k f)) s)
          where
            at : (k : ℕ) → Dec (k ≡ f) → due_others k ≡ is_due_now k
            at k (yes q) = rw (q, eq-eqb f f refl, due_fast P c, e)
            at k (no d) = rw (ne_eqb k f d)

    -- the others

    acts_from : (i : ℕ) (now : Run) → i < P.nodes.0 → not (eqb i f) ≡ true → Moment P c y r (due_from i) now → Goes P (later now) (acts P r i) After (Moment P c y r (due_from (suc i)))
    unfolding goes_first goes_second
    acts_from i now below t s =
        let due_holds : due_from i i ≡ true = rw (t, from_self i) in
        let owes : Owes P c y (turns P r i) i (node now i) = rw due_holds at (s.nodes i below) in
        let among : (k : ℕ) → k < P.nodes.0 → Due P c (later now) k → due_from i k ≡ true = still (due_from i) now s.nodes in
        one_acts (due_from i) (due_from (suc i)) now s i below due_holds (rw (t, from_next i)) (λ k d. rw (from_other i k d))
        (next_second P c (later now) i below s.quiet owes.time (λ k l d. true_not_false (eqb k f) (and_true_left (not (eqb k f)) (leb i k) (among k l d))) refl
        (λ k l d. clash (leb i k) (and_true_right (not (eqb k f)) (leb i k) (among k (omega (arith, below)) d)) (lt-leb i k l)))

    skips_from : (i : ℕ) (now : Run) → i < P.nodes.0 → not (eqb i f) ≡ false → Moment P c y r (due_from i) now → Moment P c y r (due_from (suc i)) now
    skips_from i now below t = due_same (due_from i) (due_from (suc i)) now (λ k l. go k (ℕ_discrete k i))
      where
        go : (k : ℕ) → Dec (k ≡ i) → due_from (suc i) k ≡ due_from i k
        go k (yes e) = rw (e, t)
        go k (no d) = rw (from_other i k d)

    -- nobody is due any more
    calm : (due : ℕ → Bool) (now : Run) → ((k : ℕ) → k < P.nodes.0 → due k ≡ false) → Moment P c y r due now → Calm P c y now
    calm due now e s = record { kept = s.kept; quiet = s.quiet; times = λ k l. rw (e k l) at (s.nodes k l) }

    others_act : (now : Run) → Moment P c y r due_others now → Goes P (later now) (cond (eqb (y % P.max.0) 0) (in_order P (λ i. not (eqb i f)) (acts P r)) []) After (Calm P c y)
    others_act now s = go (eqb (y % P.max.0) 0) refl
      where
        done : (k : ℕ) → k < P.nodes.0 → due_from P.nodes.0 k ≡ false
        done k l = rw (lt-leb P.nodes.0 k l) (and-false (not (eqb k f)))

        all : eqb (y % P.max.0) 0 ≡ true → (k : ℕ) → Dec (k ≡ f) → due_from 0 k ≡ due_others k
        all e k (yes q) = rw (q, eq-eqb f f refl)
        all e k (no d) = rw (ne_eqb k f d, due_slow P c k d, e, le-leb 0 k (omega arith))

        none : eqb (y % P.max.0) 0 ≡ false → (k : ℕ) → Dec (k ≡ f) → due_others k ≡ false
        none e k (yes q) = rw (q, eq-eqb f f refl)
        none e k (no d) = rw (ne_eqb k f d, due_slow P c k d, e)

        go : (b : Bool) → eqb (y % P.max.0) 0 ≡ b → Goes P (later now) (cond b (in_order P (λ i. not (eqb i f)) (acts P r)) []) After (Calm P c y)
        go true e =
            goes_to P (goes_in_order P (Goes P) (goes_nowhere P) (λ q a b m k J K h more. goes_on P q a b m k J K h (λ r x. more r)) (λ i. not (eqb i f)) (acts P r) After (λ i. Moment P c y r (due_from i)) acts_from skips_from P.nodes.0 0 (omega arith) now
            (due_same due_others (due_from 0) now (λ k l. all e k (ℕ_discrete k f)) s)) (λ now. calm (due_from P.nodes.0) now done)
        go false e = goes_nowhere P now After (Calm P c y) (calm due_others now (λ k l. none e k (ℕ_discrete k f)) s)

  -- the nearest moment

  -- y and a delay of d
  data Onward (y d e : ℕ) : Type 0 where
    reaches : y % e + d ≡ e → (y + d) % e ≡ 0 → Onward y d e
    short : y % e + d < e → (y + d) % e ≡ y % e + d → Onward y d e

  onward : (y d e : ℕ) → y % e + d ≤ e → Onward y d e
  onward y d e l = go (ℕ_discrete (y % e + d) e)
    where
      go : Dec (y % e + d ≡ e) → Onward y d e
      go (yes q) = reaches q (sym (mod-add-mod y e d) ∙ ap (λ (n : ℕ). n % e) q ∙ mod_self e)
      go (no n) = let m : y % e + d < e = omega arith in short m (sym (mod-add-mod y e d) ∙ mod-eq_of_lt m)

  module _ (y : ℕ) (r : Run) (s : Calm P c y r) where
    abbrev d : ℕ
    d = to_nearest P y

    -- no moment is nearer
    fast_left : y % P.min.0 < P.min.0
    fast_left = mod-lt y (omega (arith, o.min_low))

    slow_left : y % P.max.0 < P.max.0
    slow_left = mod-lt y (omega (arith, o.min_low, o.min_max))

    some : 1 ≤ d
    some = omega (arith, fast_left, slow_left)

    within : (k : ℕ) → y % due_time P c After k + d ≤ due_time P c After k
    within k = go (ℕ_discrete k f)
      where
        go : Dec (k ≡ f) → y % due_time P c After k + d ≤ due_time P c After k
        go (yes e) = rw (e, due_fast P c) (omega (arith, fast_left))
        go (no n) = rw (due_slow P c k n) (omega (arith, slow_left))

    left : ℕ → ℕ
    left k = due_time P c After k - (node r k).time.0

    left_fast : left f ≡ P.min.0 - y % P.min.0
    unfolding left
    left_fast = rw (s.times f R.fast_below, due_fast P c)

    left_slow : (k : ℕ) → k < P.nodes.0 → k ≢ f → left k ≡ P.max.0 - y % P.max.0
    unfolding left
    left_slow k l n = rw (s.times k l, due_slow P c k n)

    -- another node than the fast one
    slow : (k : ℕ) × (k < P.nodes.0) × (k ≢ f)
    slow = go (ℕ_discrete f 0)
      where
        go : Dec (f ≡ 0) → (k : ℕ) × (k < P.nodes.0) × (k ≢ f)
        go (yes e) = (1, omega (arith, o.nodes_low), omega arith)
        go (no n) = (0, omega (arith, o.nodes_low), λ e. n (sym e))

    nearest_is_reached : time_to_due P c (later r) ≡ d
    unfolding left
    nearest_is_reached = go (ℕ_discrete least.at f)
      where
        high : left f ≤ P.max.0
        high = omega (arith, left_fast, o.min_max)

        least : Reached P.nodes.0 left (time_to_due P c (later r))
        least = least_reached P.max.0 P.nodes.0 left f R.fast_below high

        under_fast : time_to_due P c (later r) ≤ P.min.0 - y % P.min.0
        under_fast = omega (arith, left_fast, least_under P.max.0 P.nodes.0 left f R.fast_below)

        under_slow : time_to_due P c (later r) ≤ P.max.0 - y % P.max.0
        under_slow = omega (arith, left_slow slow.0 slow.1 slow.2, least_under P.max.0 P.nodes.0 left slow.0 slow.1)

        go : Dec (least.at ≡ f) → time_to_due P c (later r) ≡ d
        go (yes e) = let z : left least.at ≡ left f = ap left e in omega (arith, least.value, left_fast, under_slow)
        go (no n) = omega (arith, least.value, left_slow least.at least.below n, under_fast)

    waits : next_step P c (later r) ≡ Delay (record { 0 = d })
    waits =
        next_wait P c (later r) s.quiet (λ k l e. omega (arith, s.times k l, left_below y k))
        ∙ ap (λ (n : ℕ). Delay (record { 0 = n })) nearest_is_reached

    begun : Taken P c (later r) (Delay (record { 0 = d })) → Moment P c (y + d) r (is_due_now (y + d) r) (delayed P d r)
    begun t =
        record {
          kept = t.kept;
          quiet = all_delayed P r s.kept.room (λ k a. is_about a.mode ≡ false) d s.quiet;
          nodes = all_delayed P r s.kept.room (λ k a. AtTime P c (y + d) (turns P r k) (is_due_now (y + d) r k) k a) d (λ k l. at k l (is_due_now (y + d) r k) refl (onward y d (due_time P c After k) (within k)));
        }
      where
        at : (k : ℕ) → k < P.nodes.0 → (b : Bool) → is_due_now (y + d) r k ≡ b → Onward y d (due_time P c After k) → AtTime P c (y + d) (turns P r k) b k (node_delayed d (node r k))
        at k l true e (reaches q z) = record { time = omega (arith, s.times k l); moment = z; turning = refl }
        at k l true e (short q z) = absurd (omega (arith, eqb-true ((y + d) % due_time P c After k) 0 e, some))
        at k l false e (reaches q z) = absurd (eqb-false ((y + d) % due_time P c After k) 0 e z)
        at k l false e (short q z) = omega (arith, s.times k l)

    moment_acts : Goes P (later r) (next_moment P c r y) After (Calm P c (y + d))
    unfolding next_moment at_moment mark_after
    moment_acts =
        goes_by P c o plain by_parts (later r) (Delay (record { 0 = d })) _ After (Calm P c (y + d)) s.kept (λ k l. omega (arith, s.times k l, left_below y k)) waits
        (λ t. goes_on P (later (delayed P d r)) (cond (eqb ((y + d) % P.min.0) 0) (acts P r f) []) _ After After (Moment P c (y + d) r (due_others (y + d) r)) (Calm P c (y + d))
        (fast_acts (y + d) r (delayed P d r) (begun t)) (λ now e. others_act (y + d) r now))

  -- k moments

  moment_and : (k y : ℕ) (r : Run) → Calm P c y r → ((r : Run) → Calm P c (y + to_nearest P y) r → Goes P (later r) (moments P c k (y + to_nearest P y) r) After Anywhere)
      → Goes P (later r) (next_moment P c r y ++ moments P c k (y + to_nearest P y) (run_after P r (next_moment P c r y))) After Anywhere
  moment_and k y r s more =
      goes_on P (later r) (next_moment P c r y) (moments P c k (y + to_nearest P y) (run_after P r (next_moment P c r y))) After After (Calm P c (y + to_nearest P y)) Anywhere (moment_acts y r s) (λ now e h. rw e (more now h))

  pub moments_act : (k y : ℕ) (r : Run) → Calm P c y r → Goes P (later r) (moments P c k y r) After Anywhere
  unfolding moments
  moments_act zero y r s = goes_nowhere P r After Anywhere tt
  moments_act (suc k) y r s = moment_and k y r s (λ r h. moments_act k (y + to_nearest P y) r h)

-- each moment has a step or more
pub moments_long : (P : Plan) (c : Parts) (k y : ℕ) (r : Run) → k ≤ length (moments P c k y r)
unfolding moments next_moment
moments_long P c zero y r = omega arith
moments_long P c (suc k) y r =
    let first = at_moment P c r (y + to_nearest P y) in
    let rest = moments P c k (y + to_nearest P y) (run_after P r (next_moment P c r y)) in
    omega (arith, length-append first rest, moments_long P c k (y + to_nearest P y) (run_after P r (next_moment P c r y)))
