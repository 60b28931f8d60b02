-- The lowest sending node decides whether a run is out of step: where every node is in its slot, nobody is elsewhere for any other sender.
use Prim.Native.Nat.{ℕ, ◌≤◌, ◌<◌}
use mathlib.Core.Path.{◌≡◌, refl, sym, ap, ◌∙◌}
use mathlib.Core.Logic.{◌≢◌}
use mathlib.Core.Bool.{Bool, true, false, cond, not, and-false}
use native.Mathlib.Omega.{arith}
use borrow.Author.Tests.{ltb-true, ltb-false, eqb-true, eq-eqb, ne_eqb}
use lib.Dec.{eqb, ltb}
use lib.ListN.{length}
use Rattle.std.specs.Prelude.{Option, None, Some, is_some}
use Rattle.laws.specs.Below.{any_below, first_below}
use Rattle.laws.proofs.Bools.{and_both, false_not_true}
use Rattle.laws.proofs.Belows.{any_found, any_never, Found, found, none, first_found, first_at}
use Rattle.plan.specs.declared.Plan.{Plan}
use Rattle.plan.specs.declared.Node.{Node}
use Rattle.plan.specs.Sending.{own}
use Rattle.run.specs.declared.Run.{Run}
use Rattle.run.specs.declared.Apart.{Apart}
use Rattle.run.specs.State.{node, is_sending, lowest, elsewhere, sends_apart, is_out_of_step, sender_apart, apart_tested}
use Rattle.run.specs.Moves.{node_ticked, ticked, sent}
use Rattle.run.proofs.Nodes.{node_when_ticked, node_still, node_sender, node_when_hearing}

-- the lowest node that passes, where one does; and where none does
pub record Lowest (N : ℕ) (f : ℕ → Bool) (i : ℕ) : Type 0 where
  pub below : i < N
  pub passes : f i ≡ true
  pub before : (k : ℕ) → k < i → f k ≡ false
  pub first : first_below N f ≡ i

pub lowest_some : (N : ℕ) (f : ℕ → Bool) (i : Node) → lowest N f ≡ Some i → Lowest N f i.0
unfolding lowest
lowest_some N f i e = go (first_found N f) (ltb (first_below N f) N) refl refl e
  where
    go : {k : ℕ} → Found N f k → (b : Bool) → ltb k N ≡ b → first_below N f ≡ k → cond b (Some (record { 0 = k })) None ≡ Some i → Lowest N f i.0
    go {k} (found a b c) true l z q = let same : k ≡ i.0 = cc in let it : Lowest N f k = record { below = a; passes = b; before = c; first = z } in rw same at it
    go {k} (none a b) true l z q = absurd (omega (arith, ltb-true k N l))
    go w false l z q = cc

pub lowest_below : (N : ℕ) (f : ℕ → Bool) (i : Node) → lowest N f ≡ Some i → i.0 < N
lowest_below N f i e = (lowest_some N f i e).below

pub lowest_none : (N : ℕ) (f : ℕ → Bool) → lowest N f ≡ None → (k : ℕ) → k < N → f k ≡ false
unfolding lowest
lowest_none N f e = go (first_found N f) (ltb (first_below N f) N) refl e
  where
    go : {k : ℕ} → Found N f k → (b : Bool) → ltb k N ≡ b → ◌≡◌ {A = Option Node} (cond b (Some (record { 0 = k })) None) None → (j : ℕ) → j < N → f j ≡ false
    go (none a b) c l q = b
    go w true l q = cc
    go {k} (found a b c) false l q = absurd (omega (arith, ltb-false k N l))

module _ (P : Plan) (r : Run) where
  -- node i is sending
  abbrev pub sending : ℕ → Bool
  sending i = is_sending (node r i).mode

  pub out_of_step_told : is_out_of_step P r ≡ is_some (apart_tested P r)
  unfolding apart_tested
  out_of_step_told = told (is_out_of_step P r) (record { sending = record { 0 = sender_apart P r }; elsewhere = record { 0 = first_below P.nodes.0 (elsewhere r (sender_apart P r)) } })
    where
      told : (b : Bool) (a : Apart) → b ≡ is_some (cond b (Some a) None)
      told true a = refl
      told false a = refl

  in_step : is_out_of_step P r ≡ false → apart_tested P r ≡ None
  unfolding apart_tested
  in_step h = rw h

  not_apart_silent : (i : ℕ) → sending i ≡ false → sends_apart P r i ≡ false
  unfolding sends_apart
  not_apart_silent i h = rw h

  -- nobody is sending
  pub in_step_silent : lowest P.nodes.0 sending ≡ None → apart_tested P r ≡ None
  unfolding is_out_of_step
  in_step_silent h = in_step (any_never P.nodes.0 (sends_apart P r) (λ i l. not_apart_silent i (lowest_none P.nodes.0 sending h i l)))

  -- every node is in the slot of node i
  pub in_step_together : (i : ℕ) → lowest P.nodes.0 (elsewhere r i) ≡ None → apart_tested P r ≡ None
  unfolding is_out_of_step sends_apart
  in_step_together i h = in_step (any_never P.nodes.0 (sends_apart P r) alone)
    where
      slot : (j : ℕ) → j < P.nodes.0 → (node r j).slot.0 ≡ (node r i).slot.0
      slot j m = eqb-true (node r j).slot.0 (node r i).slot.0 (false_not_true (eqb (node r j).slot.0 (node r i).slot.0) (lowest_none P.nodes.0 (elsewhere r i) h j m))

      nobody : (k : ℕ) → k < P.nodes.0 → any_below P.nodes.0 (elsewhere r k) ≡ false
      nobody k l = any_never P.nodes.0 (elsewhere r k) (λ j m. ap not (eq-eqb (node r j).slot.0 (node r k).slot.0 (slot j m ∙ sym (slot k l))))

      alone : (k : ℕ) → k < P.nodes.0 → sends_apart P r k ≡ false
      alone k l = rw (nobody k l) (and-false (sending k))

  -- i is the lowest sending node, j the lowest node elsewhere
  pub out_lowest :
      (i j : Node) → lowest P.nodes.0 sending ≡ Some i → lowest P.nodes.0 (elsewhere r i.0) ≡ Some j
      → apart_tested P r ≡ Some (record { sending = i; elsewhere = j })
  unfolding is_out_of_step sends_apart apart_tested
  out_lowest i j p q =
      let a = lowest_some P.nodes.0 sending i p in
      let b = lowest_some P.nodes.0 (elsewhere r i.0) j q in
      let yes : sends_apart P r i.0 ≡ true = and_both (sending i.0) (any_below P.nodes.0 (elsewhere r i.0)) a.passes (any_found P.nodes.0 j.0 (elsewhere r i.0) b.below b.passes) in
      let sender : sender_apart P r ≡ i.0 = first_at P.nodes.0 i.0 (sends_apart P r) a.below (λ k n. not_apart_silent k (a.before k n)) yes in
      rw (any_found P.nodes.0 i.0 (sends_apart P r) a.below yes, sender, b.first)

-- a node that sends and a node in another slot: out of step
pub out_is : (P : Plan) (r : Run) (i j : ℕ) → i < P.nodes.0 → j < P.nodes.0 → is_sending (node r i).mode ≡ true → (node r j).slot.0 ≢ (node r i).slot.0 → is_out_of_step P r ≡ true
unfolding is_out_of_step sends_apart
out_is P r i j hi hj s n =
    any_found P.nodes.0 i (sends_apart P r) hi
    (and_both (is_sending (node r i).mode) (any_below P.nodes.0 (elsewhere r i)) s (any_found P.nodes.0 j (elsewhere r i) hj (ap not (ne_eqb (node r j).slot.0 (node r i).slot.0 n))))

-- a send while another node is in another slot, and a tick to another slot than a sending node's
module _ (P : Plan) (r : Run) (room : P.nodes.0 ≤ length r.nodes) (i j : ℕ) (hi : i < P.nodes.0) (hj : j < P.nodes.0) (n : j ≢ i) where
  pub send_apart : (node r j).slot.0 ≢ (node r i).slot.0 → is_out_of_step P (sent P i r) ≡ true
  send_apart d =
      out_is P (sent P i r) i j hi hj (rw (node_sender P r i hi (omega arith)))
      (rw (node_sender P r i hi (omega arith), node_when_hearing P r i j hj (omega arith) n) d)

  pub tick_apart : is_sending (node r j).mode ≡ true → (node_ticked P (own P i) (node r i)).slot.0 ≢ (node r j).slot.0 → is_out_of_step P (ticked P i r) ≡ true
  tick_apart s d =
      out_is P (ticked P i r) j i hj hi (rw (node_still P r i j n) s)
      (rw (node_still P r i j n, node_when_ticked P r i (omega arith)) d)
