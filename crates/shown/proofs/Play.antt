-- Which step of the shown run is next, and why: where no time is past due, it is legal.
use Prim.Native.Nat.{ℕ, ◌+◌, ◌-◌, ◌≤◌, ◌<◌}
use mathlib.Core.Path.{◌≡◌}
use mathlib.Core.Bool.{Bool, true, false, cond, ◌&&◌}
use native.Mathlib.Omega.{arith}
use borrow.Author.Tests.{ltb-true, ltb-false, eqb-true, eqb-false, le-ltb, eq-eqb}
use lib.Dec.{eqb, ltb}
use Rattle.std.specs.Prelude.{None}
use Rattle.laws.specs.Below.{first_below}
use Rattle.laws.proofs.Bools.{clash, and_true_left, and_true_right, Either, first_holds, second_holds, cond_by}
use Rattle.laws.proofs.Belows.{any_not, any_never, least_under, least_reached, first_is, first_is_none}
use Rattle.plan.specs.declared.Plan.{Plan}
use Rattle.plan.specs.declared.Node.{Node}
use Rattle.plan.specs.Tested.{Sound}
use Rattle.run.specs.declared.Step.{Step}
use Rattle.run.specs.declared.Step.TheVariants.{Delay, TickOf, SendOf}
use Rattle.run.specs.State.{node, is_about, in_range, is_out_of_step}
use Rattle.run.specs.Steps.{step_refusal}
use Rattle.run.proofs.Legal.{StepLegal, KindLegal, step_legal}
use Rattle.shown.specs.declared.Mark.{Mark}
use Rattle.shown.specs.declared.Mark.TheVariants.{Before, In, After}
use Rattle.shown.specs.declared.Place.{Place}
use Rattle.shown.specs.declared.Parts.{Parts}
use Rattle.shown.specs.Shown.{due_time, is_due, past_due, goes_first, goes_second, time_to_due, next_step}

-- nobody is about to send
abbrev pub Quiet : Plan → Place → Type 0
Quiet P q = (i : ℕ) → i < P.nodes.0 → is_about (node q.run i).mode ≡ false

module _ (P : Plan) (parts : Parts) (q : Place) where
  -- no time is past due
  abbrev pub OnTime : Type 0
  OnTime = (i : ℕ) → i < P.nodes.0 → (node q.run i).time.0 ≤ due_time P parts q.mark i

  -- node i is due
  abbrev pub Due : ℕ → Type 0
  Due i = (node q.run i).time.0 ≡ due_time P parts q.mark i

  pub due_is : (i : ℕ) → is_due P parts q i ≡ true → Due i
  due_is i e = eqb-true (node q.run i).time.0 (due_time P parts q.mark i) e

  -- nobody who is due goes first, or next
  abbrev pub NoneFirst : Type 0
  NoneFirst = (j : ℕ) → j < P.nodes.0 → Due j → goes_first P parts q.run q.mark j ≡ false

  abbrev pub NoneSecond : Type 0
  NoneSecond = (j : ℕ) → j < P.nodes.0 → Due j → goes_second parts q.mark j ≡ false

  -- why node i ticks and none of the others that are due
  pub data Turn (i : ℕ) : Type 0 where
    acts_as_first : goes_first P parts q.run q.mark i ≡ true → Turn i
    acts_as_second : NoneFirst → goes_second parts q.mark i ≡ true → Turn i
    acts_as_third : NoneFirst → NoneSecond → Turn i

  -- where one who is due goes first, or next, so does the node that ticks
  pub turn_first : {i : ℕ} → Turn i → (j : ℕ) → j < P.nodes.0 → Due j → goes_first P parts q.run q.mark j ≡ true → goes_first P parts q.run q.mark i ≡ true
  turn_first (acts_as_first h) j l d e = h
  turn_first (acts_as_second n h) j l d e = clash (goes_first P parts q.run q.mark j) e (n j l d)
  turn_first (acts_as_third n m) j l d e = clash (goes_first P parts q.run q.mark j) e (n j l d)

  pub turn_second : {i : ℕ} → Turn i → (j : ℕ) → j < P.nodes.0 → Due j → goes_second parts q.mark j ≡ true → Either (goes_first P parts q.run q.mark i) (goes_second parts q.mark i)
  turn_second (acts_as_first h) j l d e = first_holds h
  turn_second (acts_as_second n h) j l d e = second_holds h
  turn_second (acts_as_third n m) j l d e = clash (goes_second parts q.mark j) e (m j l d)

  pub record SendMove (i : ℕ) : Type 0 where
    pub below : i < P.nodes.0
    pub about : is_about (node q.run i).mode ≡ true

  pub record TickMove (i : ℕ) : Type 0 where
    pub below : i < P.nodes.0
    pub quiet : Quiet P q
    pub due : Due i
    pub turn : Turn i

  pub record DelayMove (d : ℕ) : Type 0 where
    pub some : 1 ≤ d
    pub quiet : Quiet P q
    pub early : (i : ℕ) → i < P.nodes.0 → (node q.run i).time.0 < due_time P parts q.mark i
    pub within : (i : ℕ) → i < P.nodes.0 → (node q.run i).time.0 + d ≤ due_time P parts q.mark i
    pub to : ℕ
    pub to_below : to < P.nodes.0
    pub to_due : (node q.run to).time.0 + d ≡ due_time P parts q.mark to

  -- what is known of the next step, by its kind
  abbrev pub Move : Step → Type 0
  Move (Delay d) = DelayMove d.0
  Move (TickOf i) = TickMove i.0
  Move (SendOf i) = SendMove i.0

-- due times lie between min and max
pub due_high : (P : Plan) (parts : Parts) → Sound P → (k : Mark) (i : ℕ) → due_time P parts k i ≤ P.max.0
unfolding due_time
due_high P parts S Before i = S.min_max
due_high P parts S In i = S.min_max
due_high P parts S After i = cond_by (λ (x : ℕ). x ≤ P.max.0) (eqb i parts.fast.0) P.min.0 P.max.0 (λ e. S.min_max) (λ e. omega arith)

pub due_low : (P : Plan) (parts : Parts) → Sound P → (k : Mark) (i : ℕ) → P.min.0 ≤ due_time P parts k i
unfolding due_time
due_low P parts S Before i = omega arith
due_low P parts S In i = omega arith
due_low P parts S After i = cond_by (λ (x : ℕ). P.min.0 ≤ x) (eqb i parts.fast.0) P.min.0 P.max.0 (λ e. omega arith) (λ e. S.min_max)

module _ (P : Plan) (parts : Parts) (S : Sound P) (q : Place) where
  pub on_time : OnTime P parts q → past_due P parts q ≡ false
  unfolding past_due
  on_time t =
      any_never P.nodes.0 (λ i. ltb (due_time P parts q.mark i) (node q.run i).time.0)
      (λ i l. le-ltb (due_time P parts q.mark i) (node q.run i).time.0 (t i l))

  pub not_late : past_due P parts q ≡ false → OnTime P parts q
  unfolding past_due
  not_late h i l =
      ltb-false (due_time P parts q.mark i) (node q.run i).time.0
      (any_not P.nodes.0 (λ i. ltb (due_time P parts q.mark i) (node q.run i).time.0) h i l)

  -- the lowest node that passes a test takes its step, or none passes
  by_lowest : (test : ℕ → Bool) (take : Node → Step) (rest : Step) → ((i : ℕ) → i < P.nodes.0 → test i ≡ true → Move P parts q (take (record { 0 = i })))
      → (((j : ℕ) → j < P.nodes.0 → test j ≡ false) → Move P parts q rest) → Move P parts q (cond (ltb (first_below P.nodes.0 test) P.nodes.0) (take (record { 0 = first_below P.nodes.0 test })) rest)
  by_lowest test take rest f g =
      let i = first_below P.nodes.0 test in
      cond_by (Move P parts q) (ltb i P.nodes.0) (take (record { 0 = i })) rest (λ e. f i (ltb-true i P.nodes.0 e) (first_is P.nodes.0 test e)) (λ e. g (first_is_none P.nodes.0 test e))

  -- which step is next, and why
  pub next_move : OnTime P parts q → Move P parts q (next_step P parts q)
  unfolding next_step
  next_move t =
      by_lowest (λ i. is_about (node q.run i).mode) SendOf _ (λ i l e. record { below = l; about = e }) (λ a.
      by_lowest (λ i. is_due P parts q i && first i) TickOf _ (tick a first (λ i h. acts_as_first h)) (λ no-first.
      let n = none_of first no-first in
      by_lowest (λ i. is_due P parts q i && second i) TickOf _ (tick a second (λ i h. acts_as_second n h)) (λ no_second.
      let m = none_of second no_second in
      by_lowest (is_due P parts q) TickOf _ (λ i l e. record { below = l; quiet = a; due = due_is P parts q i e; turn = acts_as_third n m }) (wait a))))
    where
      first : ℕ → Bool
      first i = goes_first P parts q.run q.mark i

      second : ℕ → Bool
      second i = goes_second parts q.mark i

      none_of : (f : ℕ → Bool) → ((j : ℕ) → j < P.nodes.0 → (is_due P parts q j && f j) ≡ false) → (j : ℕ) → j < P.nodes.0 → Due P parts q j → f j ≡ false
      none_of f h j l d = rw (eq-eqb (node q.run j).time.0 (due_time P parts q.mark j) d) at (h j l)

      tick : Quiet P q → (f : ℕ → Bool) → ((i : ℕ) → f i ≡ true → Turn P parts q i) → (i : ℕ) → i < P.nodes.0 → (is_due P parts q i && f i) ≡ true → TickMove P parts q i
      tick a f turn i l e = record { below = l; quiet = a; due = due_is P parts q i (and_true_left (is_due P parts q i) (f i) e); turn = turn i (and_true_right (is_due P parts q i) (f i) e) }

      wait : Quiet P q → ((j : ℕ) → j < P.nodes.0 → is_due P parts q j ≡ false) → DelayMove P parts q (time_to_due P parts q)
      wait a none_due =
          let early : (i : ℕ) → i < P.nodes.0 → (node q.run i).time.0 < due_time P parts q.mark i =
          λ i l. omega (arith, t i l, eqb-false (node q.run i).time.0 (due_time P parts q.mark i) (none_due i l)) in
          let left : ℕ → ℕ = λ i. due_time P parts q.mark i - (node q.run i).time.0 in
          let least = least_reached P.max.0 P.nodes.0 left 0 (omega (arith, S.nodes_low)) (omega (arith, due_high P parts S q.mark 0)) in
          record {
            some = omega (arith, early least.at least.below, least.value);
            quiet = a;
            early = early;
            within = λ i l. omega (arith, early i l, least_under P.max.0 P.nodes.0 left i l);
            to = least.at;
            to_below = least.below;
            to_due = omega (arith, early least.at least.below, least.value);
          }

  -- and it is legal
  pub move_legal : (s : Step) → in_range P q.run ≡ true → is_out_of_step P q.run ≡ false → Move P parts q s → StepLegal P q.run s
  move_legal s r e m = record { range = r; together = e; kind = kind s m }
    where
      kind : (s : Step) → Move P parts q s → KindLegal P q.run s
      kind (Delay d) m = record { some = m.some; none_about = m.quiet; within = λ i l. omega (arith, m.within i l, due_high P parts S q.mark i) }
      kind (TickOf i) m = record { below = m.below; ripe = omega (arith, m.due, due_low P parts S q.mark i.0) }
      kind (SendOf i) m = record { below = m.below; about = m.about }

  pub next_legal : in_range P q.run ≡ true → is_out_of_step P q.run ≡ false → past_due P parts q ≡ false → step_refusal P q.run (next_step P parts q) ≡ None
  next_legal r e h = step_legal P q.run (next_step P parts q) (move_legal (next_step P parts q) r e (next_move (not_late h)))
