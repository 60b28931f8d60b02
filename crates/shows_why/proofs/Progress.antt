-- Whatever every step keeps or leaves out of step, and whatever bounds each node's ticks, leads the shown run out of step.
-- Each tick uses up one of a node's ticks, each send makes one node fewer about to send, and after a delay somebody is due.
use Prim.Native.Nat.{ℕ, zero, suc, ◌+◌, ◌*◌, ◌-◌, ◌≤◌, ◌<◌}
use mathlib.Core.Path.{◌≡◌, refl, sym, ap, ◌∙◌}
use mathlib.Core.Logic.{◌≢◌}
use mathlib.Core.Bool.{Bool, true, false, cond}
use mathlib.Core.List.{List, [], ◌∷◌}
use native.Mathlib.Nat.{not-suc-le-zero, zero-add, suc-add}
use native.Mathlib.Omega.{arith}
use borrow.Author.Tests.{eq-eqb, ne_eqb}
use lib.Dec.{eqb}
use lib.ListN.{length}
use Rattle.std.specs.Prelude.{Option, None, Some, Result, Ok}
use Rattle.std.specs.Result.{result_unwrap_or}
use Rattle.laws.specs.Below.{any_below}
use Rattle.laws.proofs.Bools.{cond_by}
use Rattle.laws.proofs.Same.{at_same}
use Rattle.laws.proofs.Belows.{any_found, any_never}
use Rattle.laws.proofs.Sums.{sum_below, sum_same, sum_but_one, sum_within}
use Rattle.plan.specs.declared.Plan.{Plan}
use Rattle.plan.specs.declared.Time.{Time}
use Rattle.plan.specs.declared.refusal.Refusal.{Refusal}
use Rattle.plan.specs.Sending.{own}
use Rattle.plan.specs.Tested.{plan_refusal, Sound}
use Rattle.run.specs.declared.NodeState.{NodeState}
use Rattle.run.specs.declared.Run.{Run}
use Rattle.run.specs.declared.Step.{Step}
use Rattle.run.specs.declared.Step.TheVariants.{Delay, TickOf, SendOf}
use Rattle.run.specs.State.{node, is_about, in_range, is_out_of_step}
use Rattle.run.specs.Moves.{moved, node_ticked, ticked, delayed, sent}
use Rattle.run.specs.Steps.{Legal, run_after}
use Rattle.run.proofs.Nodes.{room_moved, node_when_delayed, node_when_ticked, node_still, node_sender, node_when_hearing}
use Rattle.run.proofs.EveryNode.{all_ticked}
use Rattle.run.proofs.Legal.{StepLegal, step_legal, step_done}
use Rattle.run.proofs.Ranges.{step_keeps_range}
use Rattle.shown.specs.declared.Mark.{Mark}
use Rattle.shown.specs.declared.Mark.TheVariants.{Before, In, After}
use Rattle.shown.specs.declared.Place.{Place}
use Rattle.shown.specs.declared.Parts.{Parts}
use Rattle.shown.specs.declared.Given.{Given}
use Rattle.shown.specs.Shown.{due_time, is_due, pivot_next, next_step, mark_after, place_after, given_by, given_of, place_given, place_at, shown_steps}
use Rattle.shows_why.specs.Ends.{ticks_in}
use Rattle.shown.proofs.Play.{OnTime, DelayMove, Move, on_time, next_move, move_legal}
use Rattle.shown.proofs.Roles.{Roles}
use Rattle.shown.proofs.Giving.{given_stops, given_takes}

-- the shown run from q is legal and ends out of step, with at most n ticks
pub record EndsFrom (P : Plan) (q : Place) (n : ℕ) : Type 0 where
  pub count : ℕ
  pub exact : length (shown_steps P count q) ≡ count
  pub legal : Legal P q.run (shown_steps P count q)
  pub reached : run_after P q.run (shown_steps P count q) ≡ (place_at P count q).run
  pub out : is_out_of_step P (place_at P count q).run ≡ true
  pub finished : given_of P (place_at P count q) ≡ Ok None
  pub no_more : (more : ℕ) → shown_steps P (count + more) q ≡ shown_steps P count q
  pub few : ticks_in (shown_steps P count q) ≤ n

-- one more tick of node i counted
pub bump : (ℕ → ℕ) → ℕ → ℕ → ℕ
bump n i k = cond (eqb k i) (suc (n k)) (n k)

pub bump_same : (n : ℕ → ℕ) (i : ℕ) → bump n i i ≡ suc (n i)
unfolding bump
bump_same n i = rw (eq-eqb i i refl)

pub bump_other : (n : ℕ → ℕ) (i k : ℕ) → k ≢ i → bump n i k ≡ n k
unfolding bump
bump_other n i k d = rw (ne_eqb k i d)

-- what holds of node k with its ticks counted, after a tick of node i
pub at_bump : (A : ℕ → ℕ → Type 0) (n : ℕ → ℕ) (i k : ℕ) → A i (suc (n i)) → (k ≢ i → A k (n k)) → A k (bump n i k)
at_bump A n i k now h = at_same (λ k. A k (bump n i k)) k i (rw (bump_same n i) now) (λ d. rw (bump_other n i k d) (h d))

-- what holds of every node, each with its ticks counted, after a tick of node i
pub all_counted : (P : Plan) (r : Run) → P.nodes.0 ≤ length r.nodes → (A : ℕ → NodeState → ℕ → Type 0) (n : ℕ → ℕ) (i : ℕ) → i < P.nodes.0
    → A i (node_ticked P (own P i) (node r i)) (suc (n i)) → ((k : ℕ) → k < P.nodes.0 → k ≢ i → A k (node r k) (n k))
    → (k : ℕ) → k < P.nodes.0 → A k (node (ticked P i r) k) (bump n i k)
all_counted P r room A n i below now h =
    all_ticked P r room (λ k a. A k a (bump n i k)) i below (rw (bump_same n i) now) (λ k l d. rw (bump_other n i k d) (h k l d))

-- the ticks counted after a step
abbrev pub counted : Step → (ℕ → ℕ) → ℕ → ℕ
counted (Delay d) n = n
counted (TickOf i) n = bump n i.0
counted (SendOf i) n = n

-- a bound on ticks with a step in front
abbrev pub spent : Step → ℕ → ℕ
spent (Delay d) n = n
spent (TickOf i) n = suc n
spent (SendOf i) n = n

-- out of step, or as promised
pub data Unless (P : Plan) (q : Place) (A : Type 0) : Type 0 where
  over : is_out_of_step P q.run ≡ true → Unless P q A
  on : A → Unless P q A

-- a run that passes test 10, with a place for every node
pub record Kept (P : Plan) (r : Run) : Type 0 where
  pub room : P.nodes.0 ≤ length r.nodes
  pub range : in_range P r ≡ true

-- what every proof about a place of the shown run assumes: the roles, and a place for every node
pub record Setting (P : Plan) (parts : Parts) (r : Run) : Type 0 where
  pub roles : Roles P parts
  pub room : P.nodes.0 ≤ length r.nodes

pub setting : {P : Plan} {parts : Parts} {r : Run} → Roles P parts → Kept P r → Setting P parts r
setting R k = record { roles = R; room = k.room }

-- what falls: the ticks that are left of at most B for each node, four times, twice the nodes that are about to send, and one where nobody is due
module _ (P : Plan) (B : ℕ) where
  pub left : (ℕ → ℕ) → ℕ
  left n = sum_below P.nodes.0 (λ k. B - n k)

  weight : NodeState → ℕ → ℕ
  weight a m = 4 * (B - m) + cond (is_about a.mode) 2 0

  weights : Run → (ℕ → ℕ) → ℕ
  weights r n = sum_below P.nodes.0 (λ k. weight (node r k) (n k))

  pub left_most : (n : ℕ → ℕ) → left n ≤ P.nodes.0 * B
  unfolding left
  left_most n = sum_within P.nodes.0 B (λ k. B - n k) (λ k l. omega arith)

  left_falls : (n : ℕ → ℕ) (i : ℕ) → i < P.nodes.0 → n i < B → left n ≡ suc (left (bump n i))
  unfolding left
  left_falls n i l h =
      omega (arith, bump_same n i, sum_but_one P.nodes.0 i (λ k. B - n k) (λ k. B - bump n i k) l (λ k m d. rw (bump_other n i k d)))

  module _ (r : Run) (n : ℕ → ℕ) (room : P.nodes.0 ≤ length r.nodes) where
    tick_falls : (i : ℕ) → i < P.nodes.0 → n i < B → weights (ticked P i r) (bump n i) + 2 ≤ weights r n
    unfolding weights weight
    tick_falls i l h =
        let a : ℕ → ℕ = λ k. weight (node r k) (n k) in
        let b : ℕ → ℕ = λ k. weight (node (ticked P i r) k) (bump n i k) in
        let same : sum_below P.nodes.0 b + a i ≡ sum_below P.nodes.0 a + b i = sum_but_one P.nodes.0 i a b l (λ k m d. rw (node_still P r i k d, bump_other n i k d)) in
        let at : b i ≡ weight (node_ticked P (own P i) (node r i)) (suc (n i)) = rw (node_when_ticked P r i (omega arith), bump_same n i) in
        omega (arith, cond_by (λ (x : ℕ). x ≤ 2) (is_about (node_ticked P (own P i) (node r i)).mode) 2 0 (λ e. omega arith) (λ e. omega arith))

    send_falls : (i : ℕ) → i < P.nodes.0 → is_about (node r i).mode ≡ true → weights (sent P i r) n + 2 ≤ weights r n
    unfolding weights weight
    send_falls i l h =
        let a : ℕ → ℕ = λ k. weight (node r k) (n k) in
        let b : ℕ → ℕ = λ k. weight (node (sent P i r) k) (n k) in
        let same : sum_below P.nodes.0 b + a i ≡ sum_below P.nodes.0 a + b i = sum_but_one P.nodes.0 i a b l (λ k m d. rw (node_when_hearing P r i k m (omega arith) d)) in
        let after : b i ≡ 4 * (B - n i) + 0 = rw (node_sender P r i l (omega arith)) in
        let before : a i ≡ 4 * (B - n i) + 2 = rw h in
        omega arith

    delay_keeps : (d : ℕ) → weights (delayed P d r) n ≡ weights r n
    unfolding weights weight
    delay_keeps d = sum_same P.nodes.0 (λ k. weight (node r k) (n k)) (λ k. weight (node (delayed P d r) k) (n k)) (λ k l. rw (node_when_delayed P r d k l (omega arith)))

-- a delay changes nobody's due time
pub due_delayed : (P : Plan) (parts : Parts) (r : Run) (k : Mark) (d : Time) (i : ℕ) → due_time P parts (mark_after P parts r k (Delay d)) i ≡ due_time P parts k i
unfolding due_time mark_after
due_delayed P parts r Before d i = cond_by (λ (k : Mark). due_time P parts k i ≡ P.min.0) (pivot_next P parts r) In Before (λ e. refl) (λ e. refl)
due_delayed P parts r In d i = refl
due_delayed P parts r After d i = refl

module _ (P : Plan) (parts : Parts) where
  idle : Place → ℕ
  idle q = cond (any_below P.nodes.0 (is_due P parts q)) 0 1

  idle_most : (q : Place) → idle q ≤ 1
  unfolding idle
  idle_most q = cond_by (λ (x : ℕ). x ≤ 1) (any_below P.nodes.0 (is_due P parts q)) 0 1 (λ e. omega arith) (λ e. omega arith)

  -- a delay is taken where nobody is due, and leads to where somebody is
  delay_due : (q : Place) (d : Time) → P.nodes.0 ≤ length q.run.nodes → DelayMove P parts q d.0 → idle (place_after P parts q (Delay d)) < idle q
  unfolding idle
  delay_due q d room m =
      let due = due_delayed P parts q.run q.mark d m.to in
      let time = ap (λ (a : NodeState). a.time.0) (node_when_delayed P q.run d.0 m.to m.to_below (omega (arith, m.to_below))) in
      let after = any_found P.nodes.0 m.to (is_due P parts (place_after P parts q (Delay d))) m.to_below (eq-eqb _ _ (time ∙ m.to_due ∙ sym due)) in
      let before = any_never P.nodes.0 (is_due P parts q) (λ i l. ne_eqb (node q.run i).time.0 (due_time P parts q.mark i) (omega (arith, m.early i l))) in
      rw (after, before) (omega arith)

module _ (P : Plan) (parts : Parts) (S : Sound P) (plain : plan_refusal P ≡ None) (by_parts : (q : Place) → in_range P q.run ≡ true → given_of P q ≡ Ok (given_by P parts q)) where
  stop : (q : Place) (n : ℕ) → Kept P q.run → is_out_of_step P q.run ≡ true → EndsFrom P q n
  stop q n k e =
      let given : given_of P q ≡ Ok None = by_parts q k.range ∙ ap Ok (given_stops P parts q e) in
      record { count = 0; exact = refl; legal = tt; reached = refl; out = e; finished = given; no_more = none given; few = omega arith }
    where
      nothing : given_of P q ≡ Ok None → (more : ℕ) → shown_steps P more q ≡ []
      nothing g zero = refl
      nothing g (suc more) = rw g

      none : given_of P q ≡ Ok None → (more : ℕ) → shown_steps P (0 + more) q ≡ []
      none g more = rw zero-add (nothing g more)

  take : (q : Place) (s : Step) (n : ℕ) → OnTime P parts q → next_step P parts q ≡ s → StepLegal P q.run s → EndsFrom P (place_after P parts q s) n → EndsFrom P q (spent s n)
  take q s n t e l r =
      let number = step_legal P q.run s l in
      let given : given_of P q ≡ Ok (Some (record { step = s; place = place_after P parts q s })) = by_parts q l.range ∙ ap Ok (given_takes P parts q s e l.together (on_time P parts S q t) number) in
      let done = step_done P q.run s plain number in
      let steps : shown_steps P (suc r.count) q ≡ s ∷ shown_steps P r.count (place_after P parts q s) = rw given in
      let place : place_at P (suc r.count) q ≡ place_at P r.count (place_after P parts q s) = ap (λ (g : Result (Option Given) Refusal). place_at P r.count (place_given g q)) given in
      record {
        count = suc r.count;
        exact = rw given (ap suc r.exact);
        legal = rw (given, done) (refl, r.legal);
        reached = ap (λ (l : List Step). run_after P q.run l) steps ∙ ap (λ (a : Result Run Refusal). run_after P (result_unwrap_or a q.run) (shown_steps P r.count (place_after P parts q s))) done ∙ r.reached ∙ ap (λ (p : Place). p.run) (sym place);
        out = ap (λ (p : Place). is_out_of_step P p.run) place ∙ r.out;
        finished = ap (given_of P) place ∙ r.finished;
        no_more = λ more. rw (suc-add, given) (ap (λ (l : List Step). s ∷ l) (r.no_more more));
        few = rw given (few_more s (shown_steps P r.count (place_after P parts q s)) n r.few);
      }
    where
      few_more : (s : Step) (l : List Step) (n : ℕ) → ticks_in l ≤ n → ticks_in (s ∷ l) ≤ spent s n
      few_more (Delay d) l n h = h
      few_more (TickOf i) l n h = omega arith
      few_more (SendOf i) l n h = h

  pub kept_after : (q : Place) (s : Step) → Kept P q.run → StepLegal P q.run s → Kept P (moved P q.run s)
  kept_after q s k l = record { room = omega (arith, room_moved P q.run s, k.room); range = step_keeps_range P S q.run s k.room l }

  module _ (I : Place → (ℕ → ℕ) → Type 0) (B : ℕ) (short : (q : Place) (n : ℕ → ℕ) → Kept P q.run → I q n → (k : ℕ) → k < P.nodes.0 → n k < B)
      (timely : (q : Place) (n : ℕ → ℕ) → Kept P q.run → I q n → OnTime P parts q)
      (keep : (q : Place) (n : ℕ → ℕ) (s : Step) → Kept P q.run → I q n → Move P parts q s → Unless P (place_after P parts q s) (I (place_after P parts q s) (counted s n))) where
    weighs : Place → (ℕ → ℕ) → ℕ
    weighs q n = weights P B q.run n + idle P parts q

    module _ (q : Place) (n : ℕ → ℕ) (k : Kept P q.run) (v : I q n) where
      left_after : (s : Step) → Move P parts q s → left P B n ≡ spent s (left P B (counted s n))
      left_after (Delay d) m = refl
      left_after (TickOf i) m = left_falls P B n i.0 m.below (short q n k v i.0 m.below)
      left_after (SendOf i) m = refl

      falls : (s : Step) → Move P parts q s → weighs (place_after P parts q s) (counted s n) < weighs q n
      unfolding weighs
      falls (Delay d) m = omega (arith, delay_keeps P B q.run n k.room d.0, delay_due P parts q d k.room m)
      falls (TickOf i) m = omega (arith, tick_falls P B q.run n k.room i.0 m.below (short q n k v i.0 m.below), idle_most P parts (place_after P parts q (TickOf i)))
      falls (SendOf i) m = omega (arith, send_falls P B q.run n k.room i.0 m.below m.about, idle_most P parts (place_after P parts q (SendOf i)))

    abbrev Rest : ℕ → Type 0
    Rest w = (q : Place) (n : ℕ → ℕ) → Kept P q.run → weighs q n < w → Unless P q (I q n) → EndsFrom P q (left P B n)

    goes_on : (w : ℕ) → Rest w → Rest (suc w)
    goes_on w rest q n k h (over e) = stop q (left P B n) k e
    goes_on w rest q n k h (on v) = go (is_out_of_step P q.run) refl
      where
        move : (s : Step) → is_out_of_step P q.run ≡ false → next_step P parts q ≡ s → Move P parts q s → EndsFrom P q (left P B n)
        move s t e m =
            let l = move_legal P parts S q s k.range t m in
            rw (left_after q n k v s m)
            (take q s (left P B (counted s n)) (timely q n k v) e l (rest (place_after P parts q s) (counted s n) (kept_after q s k l) (omega (arith, falls q n k v s m)) (keep q n s k v m)))

        go : (b : Bool) → is_out_of_step P q.run ≡ b → EndsFrom P q (left P B n)
        go true e = stop q (left P B n) k e
        go false e = move (next_step P parts q) e refl (next_move P parts S q (timely q n k v))

    ends : (w : ℕ) → Rest w
    ends zero q n k h v = absurd (not-suc-le-zero h)
    ends (suc w) q n k h v = goes_on w (ends w) q n k h v

    pub ends_from : (q : Place) (n : ℕ → ℕ) → Kept P q.run → I q n → EndsFrom P q (left P B n)
    ends_from q n k v = ends (suc (weighs q n)) q n k (omega arith) (on v)
