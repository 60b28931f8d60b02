-- Steps in a row that the shown run gives from a place, and where they lead.
use mathlib.Core.Path.{◌≡◌, refl, ap, ◌∙◌}
use mathlib.Core.Bool.{true, false}
use mathlib.Core.List.{List, [], ◌∷◌, ◌++◌}
use lib.ListN.{length}
use Rattle.std.specs.Prelude.{Option, None, Some, Result, Ok}
use Rattle.std.specs.Result.{result_unwrap_or}
use Rattle.plan.specs.declared.Plan.{Plan}
use Rattle.plan.specs.Tested.{plan_refusal, Sound}
use Rattle.run.specs.declared.Run.{Run}
use Rattle.run.specs.declared.Step.{Step}
use Rattle.plan.specs.declared.refusal.Refusal.{Refusal}
use Rattle.run.specs.State.{in_range, is_out_of_step}
use Rattle.run.specs.Moves.{moved}
use Rattle.run.specs.Steps.{run_left, run_after}
use Rattle.run.proofs.Legal.{step_legal, step_done}
use Rattle.shown.specs.declared.Mark.{Mark}
use Rattle.shown.specs.declared.Place.{Place}
use Rattle.shown.specs.declared.Parts.{Parts}
use Rattle.shown.specs.declared.Given.{Given}
use Rattle.shown.specs.Shown.{next_step, place_after, given_by, given_of, place_given, place_at, shown_steps}
use Rattle.shown.proofs.Play.{OnTime, Move, on_time, next_move, move_legal}
use Rattle.shown.proofs.Giving.{given_takes}
use Rattle.shows_why.proofs.Progress.{Kept, kept_after}

-- the steps are given one after the other from q, and lead to z
abbrev pub Plays : Plan → Place → List Step → Place → Type 0
Plays P q [] z = q ≡ z
Plays P q (s ∷ steps) z =
    (p : Place)
    × (is_out_of_step P q.run ≡ false)
    × (given_of P q ≡ Ok (Some (record { step = s; place = p })))
    × (run_left P q.run s ≡ p.run)
    × Plays P p steps z

module _ (P : Plan) where
  pub plays_then : (a b : List Step) (q y z : Place) → Plays P q a y → Plays P y b z → Plays P q (a ++ b) z
  plays_then [] b q y z h k = rw h k
  plays_then (s ∷ a) b q y z h k = (h.0, h.1, h.2, h.3, plays_then a b h.0 y z h.4 k)

  pub plays_shown : (steps : List Step) (q z : Place) → Plays P q steps z → shown_steps P (length steps) q ≡ steps
  plays_shown [] q z h = refl
  plays_shown (s ∷ steps) q z h = rw h.2 (ap (λ (l : List Step). s ∷ l) (plays_shown steps h.0 z h.4))

  pub plays_place : (steps : List Step) (q z : Place) → Plays P q steps z → place_at P (length steps) q ≡ z
  plays_place [] q z h = h
  plays_place (s ∷ steps) q z h = ap (λ (g : Result (Option Given) Refusal). place_at P (length steps) (place_given g q)) h.2 ∙ plays_place steps h.0 z h.4

  plays_run : (steps : List Step) (q z : Place) → Plays P q steps z → run_after P q.run steps ≡ z.run
  plays_run [] q z h = ap (λ (p : Place). p.run) h
  plays_run (s ∷ steps) q z h = rw h.3 (plays_run steps h.0 z h.4)

  -- the steps lead from q to a run of which J holds, with the mark m
  pub record Leads (q : Place) (steps : List Step) (m : Mark) (J : Run → Type 0) : Type 0 where
    pub to : Run
    pub plays : Plays P q steps (record { run = to; mark = m })
    pub holds : J to

  -- that run is the one after the steps
  pub leads_run : {q : Place} {steps : List Step} {m : Mark} {J : Run → Type 0} (h : Leads q steps m J) → run_after P q.run steps ≡ h.to
  leads_run {q} {steps} {m} h = plays_run steps q (record { run = h.to; mark = m }) h.plays

  -- more steps from there
  pub leads_after : {q : Place} {a b : List Step} {m k : Mark} {J K : Run → Type 0} (h : Leads q a m J) → Leads (record { run = h.to; mark = m }) b k K → Leads q (a ++ b) k K
  leads_after {q} {a} {b} {m} {k} h g =
      record { to = g.to; plays = plays_then a b q (record { run = h.to; mark = m }) (record { run = g.to; mark = k }) h.plays g.plays; holds = g.holds }

  pub leads_then : {q : Place} {a b : List Step} {m k : Mark} {J K : Run → Type 0} → Leads q a m J → ((r : Run) → J r → Leads (record { run = r; mark = m }) b k K) → Leads q (a ++ b) k K
  leads_then h more = leads_after h (more h.to h.holds)

  pub leads_nowhere : (r : Run) (m : Mark) (J : Run → Type 0) → J r → Leads (record { run = r; mark = m }) [] m J
  leads_nowhere r m J h = record { to = r; plays = refl; holds = h }

-- the step s is given at q, and done
pub record Taken (P : Plan) (c : Parts) (q : Place) (s : Step) : Type 0 where
  pub move : Move P c q s
  pub together : is_out_of_step P q.run ≡ false
  pub given : given_of P q ≡ Ok (Some (record { step = s; place = place_after P c q s }))
  pub done : run_left P q.run s ≡ moved P q.run s
  pub kept : Kept P (moved P q.run s)

pub takes_then : (P : Plan) (c : Parts) (q : Place) (s : Step) (steps : List Step) (m : Mark) (J : Run → Type 0) → Taken P c q s → Leads P (place_after P c q s) steps m J → Leads P q (s ∷ steps) m J
takes_then P c q s steps m J t h = record { to = h.to; plays = (place_after P c q s, t.together, t.given, t.done, h.plays); holds = h.holds }

module _ (P : Plan) (c : Parts) (o : Sound P) (plain : plan_refusal P ≡ None) (by_parts : (q : Place) → in_range P q.run ≡ true → given_of P q ≡ Ok (given_by P c q)) where
  pub takes : (q : Place) (s : Step) → Kept P q.run → OnTime P c q → is_out_of_step P q.run ≡ false → next_step P c q ≡ s → Taken P c q s
  takes q s k t e n =
      let move : Move P c q s = rw n at (next_move P c o q t) in
      let legal = move_legal P c o q s k.range e move in
      let number = step_legal P q.run s legal in
      record {
        move = move;
        together = e;
        given = by_parts q k.range ∙ ap Ok (given_takes P c q s n e (on_time P c o q t) number);
        done = ap (λ (a : Result Run Refusal). result_unwrap_or a q.run) (step_done P q.run s plain number);
        kept = kept_after P c o plain by_parts q s k legal;
      }
