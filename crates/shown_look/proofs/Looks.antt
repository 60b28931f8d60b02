-- One node more in a look round, from the highest down: it is the lowest so far, if it passes.
use Prim.Native.Nat.{ℕ, suc, ◌+◌, ◌-◌, ◌≤◌, ◌<◌}
use mathlib.Core.Path.{◌≡◌, refl, ap, ◌∙◌}
use mathlib.Core.Bool.{Bool, true, false, cond, ◌&&◌}
use native.Mathlib.Decide.{ℕ_discrete}
use native.Mathlib.Omega.{arith}
use borrow.Author.Tests.{lt-ltb, le-ltb}
use lib.Dec.{ltb}
use Rattle.std.specs.Prelude.{Option, None, Some}
use Rattle.laws.specs.Below.{first_from}
use Rattle.laws.proofs.Belows.{any_found, any_never, first_is_none}
use Rattle.plan.specs.declared.Plan.{Plan}
use Rattle.plan.specs.declared.Node.{Node}
use Rattle.plan.specs.declared.Time.{Time}
use Rattle.run.specs.declared.Step.{Step}
use Rattle.run.specs.declared.Step.TheVariants.{Delay, TickOf, SendOf}
use Rattle.run.specs.State.{node, is_about, is_sending, sends_apart, is_out_of_step}
use Rattle.shown.specs.declared.Parts.{Parts}
use Rattle.shown.specs.declared.Place.{Place}
use Rattle.shown_look.specs.declared.Seen.{Seen}
use Rattle.shown.specs.Shown.{due_time, is_due, past_due, goes_first, goes_second, time_to_due, next_step}
use Rattle.shown_look.specs.Looking.{lowest_from, seen_from, looked_of}

pub first_earlier : (n i : ℕ) (f : ℕ → Bool) → i < n → cond (f i) i (first_from f (n - (i + 1)) (i + 1)) ≡ first_from f (n - i) i
unfolding first_from
first_earlier n i f l = go (f i) refl
  where
    q : n - i ≡ suc (n - (i + 1))
    q = omega arith

    s : suc i ≡ i + 1
    s = omega arith

    go : (b : Bool) → f i ≡ b → cond b i (first_from f (n - (i + 1)) (i + 1)) ≡ first_from f (n - i) i
    go true e = rw (q, first_from, e)
    go false e = rw (q, first_from, e, s)

-- what holds of i and of every node after it
pub from_earlier : (F : ℕ → Type 0) (n i : ℕ) → F i → ((k : ℕ) → i + 1 ≤ k → k < n → F k) → (k : ℕ) → i ≤ k → k < n → F k
from_earlier F n i h more k l m = go (ℕ_discrete k i)
  where
    go : Dec (k ≡ i) → F k
    go (yes e) = rw e h
    go (no e) = more k (omega arith) m

pub first_nothing : (n : ℕ) (f : ℕ → Bool) → n ≡ first_from f (n - n) n
unfolding first_from
first_nothing n f = let q : n - n ≡ 0 = omega arith in rw q

pub lowest_with : (P : Plan) (i found result : Node) (b : Bool) (f : ℕ → Bool) → i.0 < P.nodes.0 → b ≡ f i.0 → found ≡ lowest_from P (i.0 + 1) f → result ≡ cond b i found
    → result ≡ lowest_from P i.0 f
lowest_with P i found result b f l e d r = r ∙ rw (e, d) (go (f i.0) refl) ∙ λ j. record { 0 = first_earlier P.nodes.0 i.0 f l j }
  where
    go : (b : Bool) → f i.0 ≡ b → cond b i (lowest_from P (i.0 + 1) f) ≡ record { 0 = cond b i.0 (first_from f (P.nodes.0 - (i.0 + 1)) (i.0 + 1)) }
    go true e = refl
    go false e = refl

module _ (P : Plan) (c : Parts) (q : Place) where
  -- of no node nothing is seen
  pub seen_nothing : record { about = P.nodes; first = P.nodes; second = P.nodes; due = P.nodes; sending = P.nodes } ≡ seen_from P c q P.nodes.0
  unfolding seen_from
  seen_nothing = λ j. record {
    about = nobody (λ k. is_about (node q.run k).mode) j;
    first = nobody (λ k. is_due P c q k && goes_first P c q.run q.mark k) j;
    second = nobody (λ k. is_due P c q k && goes_second c q.mark k) j;
    due = nobody (is_due P c q) j;
    sending = nobody (λ k. is_sending (node q.run k).mode) j;
  }
    where
      nobody : (f : ℕ → Bool) → P.nodes ≡ lowest_from P P.nodes.0 f
      nobody f = λ j. record { 0 = first_nothing P.nodes.0 f j }

  pub late_looked : (i : ℕ) → i < P.nodes.0 → due_time P c q.mark i < (node q.run i).time.0 → None ≡ looked_of P c q
  unfolding looked_of past_due
  late_looked i l h = rw (any_found P.nodes.0 i (λ k. ltb (due_time P c q.mark k) (node q.run k).time.0) l (lt-ltb (due_time P c q.mark i) (node q.run i).time.0 h))

  pub on_time_looked : ((i : ℕ) → i < P.nodes.0 → (node q.run i).time.0 ≤ due_time P c q.mark i) → Some (seen_from P c q 0) ≡ looked_of P c q
  unfolding looked_of past_due
  on_time_looked h = rw (any_never P.nodes.0 (λ k. ltb (due_time P c q.mark k) (node q.run k).time.0) (λ i l. le-ltb (due_time P c q.mark i) (node q.run i).time.0 (h i l)))

-- where nobody was seen sending, the run is not out of step
pub silent_in_step : (P : Plan) (c : Parts) (q : Place) (seen : Seen) → seen ≡ seen_from P c q 0 → P.nodes.0 ≤ seen.sending.0 → is_out_of_step P q.run ≡ false
unfolding seen_from is_out_of_step sends_apart
silent_in_step P c q seen e n = any_never P.nodes.0 (sends_apart P q.run) (λ i l. rw (first_is_none P.nodes.0 (λ k. is_sending (node q.run k).mode) none i l))
  where
    lowest : seen.sending.0 ≡ first_from (λ k. is_sending (node q.run k).mode) (P.nodes.0 - 0) 0
    lowest = ap (λ (x : Seen). x.sending.0) e

    none : ltb (first_from (λ k. is_sending (node q.run k).mode) P.nodes.0 0) P.nodes.0 ≡ false
    none = let z : P.nodes.0 - 0 ≡ P.nodes.0 = omega arith in le-ltb _ _ (rw (lowest, z) at n)

-- the step that was seen, where `wait` is the time to the first due moment
abbrev pub chosen : Plan → Seen → Time → Step
chosen P seen wait =
    cond (ltb seen.about.0 P.nodes.0) (SendOf seen.about)
    (cond (ltb seen.first.0 P.nodes.0) (TickOf seen.first)
    (cond (ltb seen.second.0 P.nodes.0) (TickOf seen.second)
    (cond (ltb seen.due.0 P.nodes.0) (TickOf seen.due) (Delay wait))))

pub chosen_next : (P : Plan) (c : Parts) (q : Place) (seen : Seen) → seen ≡ seen_from P c q 0 → chosen P seen (record { 0 = time_to_due P c q }) ≡ next_step P c q
unfolding seen_from next_step
chosen_next P c q seen e = let z : P.nodes.0 - 0 ≡ P.nodes.0 = omega arith in rw e (rw z)

-- what a look round tells
module _ (P : Plan) (parts : Parts) (q : Place) where
  pub looked_late : None ≡ looked_of P parts q → past_due P parts q ≡ true
  unfolding looked_of
  looked_late e = go (past_due P parts q) refl e
    where
      go : (b : Bool) → past_due P parts q ≡ b → ◌≡◌ {A = Option Seen} None (cond b None (Some (seen_from P parts q 0))) → past_due P parts q ≡ true
      go true h z = h
      go false h z = cc

  pub looked_on_time : (seen : Seen) → Some seen ≡ looked_of P parts q → (past_due P parts q ≡ false) × (seen ≡ seen_from P parts q 0)
  unfolding looked_of
  looked_on_time seen e = go (past_due P parts q) refl e
    where
      go : (b : Bool) → past_due P parts q ≡ b → Some seen ≡ cond b None (Some (seen_from P parts q 0)) → (past_due P parts q ≡ false) × (seen ≡ seen_from P parts q 0)
      go true h z = cc
      go false h z = (h, cc)
