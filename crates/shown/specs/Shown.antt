-- The next step of the run shown for a failed rule, by the place alone.
use Rattle.std.specs.Prelude.{ℕ, zero, suc, ◌-◌, Bool, true, cond, not, ◌&&◌, ◌||◌, List, [], ◌∷◌, Option, None, Some, is_none, Result, Ok, Err, eqb, ltb}
use Rattle.laws.specs.Row.{unless}
use Rattle.laws.specs.Below.{any_below, first_below, least_below}
use Rattle.plan.specs.declared.Plan.{Plan}
use Rattle.plan.specs.declared.refusal.Refusal.{Refusal}
use Rattle.plan.specs.Sending.{own}
use Rattle.plan.specs.Tested.{plan_refusal}
use Rattle.rules.specs.declared.Rule.{Rule}
use Rattle.rules.specs.Rules.{verdict_of}
use Rattle.run.specs.declared.Run.{Run}
use Rattle.run.specs.declared.Step.{Step}
use Rattle.run.specs.declared.Step.TheVariants.{Delay, TickOf, SendOf}
use Rattle.run.specs.State.{fresh_run, node, is_waiting, is_about, range_refusal, is_out_of_step}
use Rattle.run.specs.Moves.{guard_ends, mode_after, moved}
use Rattle.run.specs.Steps.{is_delay, is_tick_of, step_refusal}
use Rattle.shown.specs.declared.Mark.{Mark}
use Rattle.shown.specs.declared.Mark.TheVariants.{Before, In, After}
use Rattle.shown.specs.declared.Place.{Place}
use Rattle.shown.specs.declared.Parts.{Parts}
use Rattle.shown.specs.declared.Given.{Given}
use Rattle.shown.specs.declared.showing.Showing.{Showing}
use Rattle.shown.specs.Parts.{parts_for}

-- Where a shown run begins: a fresh run, before the pivot.
unfoldable pub fresh_place : Place
fresh_place = record { run = fresh_run; mark = Before }

-- The time since tick at which node i is due: min, or, after the pivot, max for all but the fast node.
unfoldable pub due_time : Plan → Parts → Mark → ℕ → ℕ
due_time P parts Before i = P.min.0
due_time P parts In i = P.min.0
due_time P parts After i = cond (eqb i parts.fast.0) P.min.0 P.max.0

-- Node i is due.
abbrev pub is_due : Plan → Parts → Place → ℕ → Bool
is_due P parts q i = eqb (node q.run i).time.0 (due_time P parts q.mark i)

-- Some node's time is past due.
unfoldable pub past_due : Plan → Parts → Place → Bool
past_due P parts q = any_below P.nodes.0 (λ i. ltb (due_time P parts q.mark i) (node q.run i).time.0)

-- After a tick now node i would be about to send.
abbrev pub turns : Plan → Run → ℕ → Bool
turns P r i = is_about (mode_after P (own P i) (node r i).clock.0 (node r i).slot.0 (node r i).mode)

-- Who ticks first of those due. Before the pivot: whom the tick doesn't make about to send.
-- In it: neither the fast node nor the sender of p. After it: the fast node.
unfoldable pub goes_first : Plan → Parts → Run → Mark → ℕ → Bool
goes_first P parts r Before i = not (turns P r i)
goes_first P parts r In i = not (eqb i parts.fast.0) && not (eqb i parts.sender.0)
goes_first P parts r After i = eqb i parts.fast.0

-- Who ticks next: in the pivot all but the fast node, else all.
unfoldable pub goes_second : Parts → Mark → ℕ → Bool
goes_second parts Before i = true
goes_second parts In i = not (eqb i parts.fast.0)
goes_second parts After i = true

-- The lowest node about to send, and the lowest due of those who go first, of those who go next, of all; N where there is none.
abbrev pub lowest_about : Plan → Place → ℕ
lowest_about P q = first_below P.nodes.0 (λ i. is_about (node q.run i).mode)

abbrev pub lowest_first : Plan → Parts → Place → ℕ
lowest_first P parts q = first_below P.nodes.0 (λ i. is_due P parts q i && goes_first P parts q.run q.mark i)

abbrev pub lowest_second : Plan → Parts → Place → ℕ
lowest_second P parts q = first_below P.nodes.0 (λ i. is_due P parts q i && goes_second parts q.mark i)

abbrev pub lowest_due : Plan → Parts → Place → ℕ
lowest_due P parts q = first_below P.nodes.0 (is_due P parts q)

-- The time to the first due moment.
abbrev pub time_to_due : Plan → Parts → Place → ℕ
time_to_due P parts q =
    least_below P.max.0 P.nodes.0 (λ i. due_time P parts q.mark i - (node q.run i).time.0)

-- The step: a node about to send sends; else a due node ticks, by these orders; else a delay to the first due moment.
unfoldable pub next_step : Plan → Parts → Place → Step
next_step P parts q =
    let wait : Step = Delay (record { 0 = time_to_due P parts q }) in
    let third : Step = cond (ltb (lowest_due P parts q) P.nodes.0) (TickOf (record { 0 = lowest_due P parts q })) wait in
    let second : Step = cond (ltb (lowest_second P parts q) P.nodes.0) (TickOf (record { 0 = lowest_second P parts q })) third in
    let first : Step = cond (ltb (lowest_first P parts q) P.nodes.0) (TickOf (record { 0 = lowest_first P parts q })) second in
    cond (ltb (lowest_about P q) P.nodes.0) (SendOf (record { 0 = lowest_about P q })) first

-- The sender of p waits in p with clock g − 1.
abbrev pub pivot_next : Plan → Parts → Run → Bool
pivot_next P parts r =
    is_waiting (node r parts.sender.0).mode
    && guard_ends P parts.p.0 (node r parts.sender.0).clock.0 (node r parts.sender.0).slot.0

-- The mark after a step: "in" with a delay while the pivot is next, "after" with the fast node's tick in the pivot.
unfoldable pub mark_after : Plan → Parts → Run → Mark → Step → Mark
mark_after P parts r Before s = cond (is_delay s && pivot_next P parts r) In Before
mark_after P parts r In s = cond (is_tick_of parts.fast.0 s) After In
mark_after P parts r After s = After

-- The place after a step.
abbrev pub place_after : Plan → Parts → Place → Step → Place
place_after P parts q s = record { run = moved P q.run s; mark = mark_after P parts q.run q.mark s }

-- The next step where the plan passed 1 to 9, fails a rule with these parts, and the place passed 10.
-- None, for the run is finished: out of step, a time past due, or a step that would not be legal.
unfoldable pub given_by : Plan → Parts → Place → Option Given
given_by P parts q =
    let s : Step = next_step P parts q in
    let takes : Option Given =
    cond (is_none (step_refusal P q.run s)) (Some (record { step = s; place = place_after P parts q s })) None in
    cond (is_out_of_step P q.run || past_due P parts q) None takes

-- The same by the rule that fails: an accepted plan has no shown run.
unfoldable pub given_for : Plan → Option Rule → Place → Option Given
given_for P None q = None
given_for P (Some rule) q = given_by P (parts_for P rule) q

-- The next step of the shown run of any plan at any place.
unfoldable pub given_of : Plan → Place → Result (Option Given) Refusal
given_of P q = unless (plan_refusal P) (unless (range_refusal P q.run) (Ok (given_for P (verdict_of P).failed q)))

-- The place after what was given at a place: as it was, where no step was.
abbrev pub place_given : Result (Option Given) Refusal → Place → Place
place_given (Ok (Some given)) q = given.place
place_given (Ok None) q = q
place_given (Err r) q = q

-- The place after the next step of the shown run; as it was, where there is none.
abbrev pub place_left : Plan → Place → Place
place_left P q = place_given (given_of P q) q

-- The place after k steps of the shown run, and those steps; fewer where it ends before.
abbrev pub place_at : Plan → ℕ → Place → Place
place_at P zero q = q
place_at P (suc k) q = place_at P k (place_left P q)

-- A step that was given, in front of those that follow.
abbrev pub and_then : Result (Option Given) Refusal → List Step → List Step
and_then (Ok (Some given)) steps = given.step ∷ steps
and_then (Ok None) steps = []
and_then (Err r) steps = []

abbrev pub shown_steps : Plan → ℕ → Place → List Step
shown_steps P zero q = []
shown_steps P (suc k) q = and_then (given_of P q) (shown_steps P k (place_left P q))

-- The place of a run that is shown, without the plan and the parts.
abbrev pub place_of : Showing → Place
place_of showing = record { run = showing.run.run; mark = showing.mark }

-- A step, and the place of a shown run after it, without the plan and the parts.
abbrev pub given_with : Step × Showing → Given
given_with taken = record { step = taken.0; place = place_of taken.1 }
