-- Which node the next step of the shown run is of: the lowest of those whose turn it is.
use Prim.Native.Nat.{ℕ, ◌<◌}
use mathlib.Core.Path.{◌≡◌}
use mathlib.Core.Bool.{Bool, true, false, ◌&&◌}
use native.Mathlib.Omega.{arith}
use borrow.Author.Tests.{eq-eqb, lt-ltb, le-ltb}
use lib.Dec.{ltb}
use Rattle.laws.proofs.Bools.{not_so, and_both, and_true_left, and_true_right, clash}
use Rattle.laws.proofs.Belows.{first_at, first_none}
use Rattle.plan.specs.declared.Plan.{Plan}
use Rattle.run.specs.declared.Step.TheVariants.{Delay, TickOf, SendOf}
use Rattle.run.specs.State.{node, is_about}
use Rattle.shown.specs.declared.Place.{Place}
use Rattle.shown.specs.declared.Parts.{Parts}
use Rattle.shown.specs.Shown.{due_time, is_due, goes_first, goes_second, lowest_about, lowest_first, lowest_second, lowest_due, time_to_due, next_step}
use Rattle.shown.proofs.Play.{Quiet, Due, due_is, NoneFirst, NoneSecond}

module _ (P : Plan) (c : Parts) (q : Place) where
  -- nobody is due
  abbrev pub NoneDue : Type 0
  NoneDue = (k : ℕ) → k < P.nodes.0 → Due P c q k → ⊥

  due_holds : (k : ℕ) → Due P c q k → is_due P c q k ≡ true
  due_holds k e = eq-eqb (node q.run k).time.0 (due_time P c q.mark k) e

  not_both : (f : ℕ → Bool) (k : ℕ) → (Due P c q k → f k ≡ false) → (is_due P c q k && f k) ≡ false
  not_both f k h = not_so (is_due P c q k && f k) (λ e. clash (f k) (and_true_right (is_due P c q k) (f k) e) (h (due_is P c q k (and_true_left (is_due P c q k) (f k) e))))

  past : (k : ℕ) → k ≡ P.nodes.0 → ltb k P.nodes.0 ≡ false
  past k e = le-ltb k P.nodes.0 (omega arith)

  -- nobody is about to send; nobody due goes first, or second; nobody is due
  none_about : Quiet P q → ltb (lowest_about P q) P.nodes.0 ≡ false
  none_about a = past (lowest_about P q) (first_none P.nodes.0 (λ k. is_about (node q.run k).mode) a)

  none_first : NoneFirst P c q → ltb (lowest_first P c q) P.nodes.0 ≡ false
  none_first h = past (lowest_first P c q) (first_none P.nodes.0 (λ k. is_due P c q k && goes_first P c q.run q.mark k) (λ k l. not_both (goes_first P c q.run q.mark) k (h k l)))

  none_second : NoneSecond P c q → ltb (lowest_second P c q) P.nodes.0 ≡ false
  none_second h = past (lowest_second P c q) (first_none P.nodes.0 (λ k. is_due P c q k && goes_second c q.mark k) (λ k l. not_both (goes_second c q.mark) k (h k l)))

  none_due : NoneDue → ltb (lowest_due P c q) P.nodes.0 ≡ false
  none_due h = past (lowest_due P c q) (first_none P.nodes.0 (is_due P c q) (λ k l. not_so (is_due P c q k) (λ e. h k l (due_is P c q k e))))

  pub next_wait : Quiet P q → NoneDue → next_step P c q ≡ Delay (record { 0 = time_to_due P c q })
  unfolding next_step
  next_wait a d = rw (none_about a, none_first (λ k l e. absurd (d k l e)), none_second (λ k l e. absurd (d k l e)), none_due d)

  -- node i's turn
  module _ (i : ℕ) (below : i < P.nodes.0) where
    pub next_send : is_about (node q.run i).mode ≡ true → ((k : ℕ) → k < i → is_about (node q.run k).mode ≡ false) → next_step P c q ≡ SendOf (record { 0 = i })
    unfolding next_step
    next_send e h =
        let z : lowest_about P q ≡ i = first_at P.nodes.0 i (λ k. is_about (node q.run k).mode) below h e in
        rw (z, lt-ltb i P.nodes.0 below)

    module _ (a : Quiet P q) (d : Due P c q i) where
      pub next_first : goes_first P c q.run q.mark i ≡ true → ((k : ℕ) → k < i → Due P c q k → goes_first P c q.run q.mark k ≡ false) → next_step P c q ≡ TickOf (record { 0 = i })
      unfolding next_step
      next_first e h =
          let z : lowest_first P c q ≡ i = first_at P.nodes.0 i (λ k. is_due P c q k && goes_first P c q.run q.mark k) below (λ k l. not_both (goes_first P c q.run q.mark) k (h k l)) (and_both (is_due P c q i) (goes_first P c q.run q.mark i) (due_holds i d) e) in
          rw (none_about a, z, lt-ltb i P.nodes.0 below)

      module _ (n : NoneFirst P c q) where
        pub next_second : goes_second c q.mark i ≡ true → ((k : ℕ) → k < i → Due P c q k → goes_second c q.mark k ≡ false) → next_step P c q ≡ TickOf (record { 0 = i })
        unfolding next_step
        next_second e h =
            let z : lowest_second P c q ≡ i = first_at P.nodes.0 i (λ k. is_due P c q k && goes_second c q.mark k) below (λ k l. not_both (goes_second c q.mark) k (h k l)) (and_both (is_due P c q i) (goes_second c q.mark i) (due_holds i d) e) in
            rw (none_about a, none_first n, z, lt-ltb i P.nodes.0 below)

        pub next_third : NoneSecond P c q → ((k : ℕ) → k < i → Due P c q k → ⊥) → next_step P c q ≡ TickOf (record { 0 = i })
        unfolding next_step
        next_third m h =
            let z : lowest_due P c q ≡ i = first_at P.nodes.0 i (is_due P c q) below (λ k l. not_so (is_due P c q k) (λ e. h k l (due_is P c q k e))) (due_holds i d) in
            rw (none_about a, none_first n, none_second m, z, lt-ltb i P.nodes.0 below)
