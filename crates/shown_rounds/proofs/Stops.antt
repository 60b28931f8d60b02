-- Steps that the shown run gives unless it stops within them, out of step.
use Prim.Native.Nat.{ℕ, zero, suc, ◌≤◌}
use mathlib.Core.Path.{◌≡◌, refl, sym, ap, ◌∙◌}
use mathlib.Core.Bool.{Bool, true, false}
use mathlib.Core.List.{List, [], ◌∷◌, ◌++◌, append_assoc, append-nil}
use native.Mathlib.Nat.{not-suc-le-zero, le_of_suc-le-suc}
use lib.ListN.{length, take}
use Rattle.std.specs.Prelude.{None, Ok}
use Rattle.plan.specs.declared.Plan.{Plan}
use Rattle.plan.specs.Tested.{plan_refusal, Sound}
use Rattle.run.specs.declared.Run.{Run}
use Rattle.run.specs.declared.Step.{Step}
use Rattle.run.specs.State.{in_range, is_out_of_step}
use Rattle.run.specs.Steps.{run_after}
use Rattle.shown.specs.declared.Mark.{Mark}
use Rattle.shown.specs.declared.Place.{Place}
use Rattle.shown.specs.declared.Parts.{Parts}
use Rattle.shown.specs.Shown.{next_step, place_after, given_by, given_of, shown_steps}
use Rattle.shown.proofs.Play.{OnTime}
use Rattle.shown.proofs.Giving.{given_stops}
use Rattle.shows_why.proofs.Progress.{Kept}
use Rattle.shown_rounds.specs.Moments.{until_out}
use Rattle.shown_rounds.proofs.Plays.{Plays, plays_then, Leads, leads_run, leads_after, leads_nowhere, Taken, takes_then, takes}

-- of the steps from q so many are given, and there the run is out of step
pub record Stops (P : Plan) (q : Place) (steps : List Step) : Type 0 where
  pub given : List Step
  pub left : List Step
  pub all : steps ≡ given ++ left
  pub at : Place
  pub plays : Plays P q given at
  pub range : in_range P at.run ≡ true
  pub out : is_out_of_step P at.run ≡ true

pub data Goes (P : Plan) (q : Place) (steps : List Step) (m : Mark) (J : Run → Type 0) : Type 0 where
  arrives : Leads P q steps m J → Goes P q steps m J
  halts : Stops P q steps → Goes P q steps m J

module _ (P : Plan) where
  pub goes_nowhere : (r : Run) (m : Mark) (J : Run → Type 0) → J r → Goes P (record { run = r; mark = m }) [] m J
  goes_nowhere r m J h = arrives (leads_nowhere P r m J h)

  pub goes_to : {q : Place} {steps : List Step} {m : Mark} {J K : Run → Type 0} → Goes P q steps m J → ((r : Run) → J r → K r) → Goes P q steps m K
  goes_to (arrives h) f = arrives (record { to = h.to; plays = h.plays; holds = f h.to h.holds })
  goes_to (halts s) f = halts s

  pub goes_on : (q : Place) (a b : List Step) (m k : Mark) (J K : Run → Type 0) → Goes P q a m J
      → ((r : Run) → run_after P q.run a ≡ r → J r → Goes P (record { run = r; mark = m }) b k K) → Goes P q (a ++ b) k K
  goes_on q a b m k J K (halts s) more =
      halts (record { given = s.given; left = s.left ++ b; all = ap (λ (l : List Step). l ++ b) s.all ∙ append_assoc s.given s.left b; at = s.at; plays = s.plays; range = s.range; out = s.out })
  goes_on q a b m k J K (arrives h) more = go (more h.to (leads_run P h) h.holds)
    where
      go : Goes P (record { run = h.to; mark = m }) b k K → Goes P q (a ++ b) k K
      go (arrives g) = arrives (leads_after P h g)
      go (halts s) =
          halts (record {
            given = a ++ s.given;
            left = s.left;
            all = ap (λ (l : List Step). a ++ l) s.all ∙ sym (append_assoc a s.given s.left);
            at = s.at;
            plays = plays_then P a s.given q (record { run = h.to; mark = m }) s.at h.plays s.plays;
            range = s.range;
            out = s.out;
          })

module _ (P : Plan) where
  out_ends : (r : Run) → is_out_of_step P r ≡ true → (steps : List Step) → until_out P r steps ≡ []
  unfolding until_out
  out_ends r e [] = refl
  out_ends r e (s ∷ steps) = rw e

  -- steps that are given come before the first out-of-step state
  plays_until : (a b : List Step) (q z : Place) → Plays P q a z → until_out P q.run (a ++ b) ≡ a ++ until_out P z.run b
  unfolding until_out
  plays_until [] b q z h = rw h
  plays_until (s ∷ a) b q z h = rw (h.1, h.3) (ap (λ (l : List Step). s ∷ l) (plays_until a b h.0 z h.4))

  -- the first n steps, where there are as many, or where no more are given
  plays_few : (steps : List Step) (q z : Place) → Plays P q steps z → (n : ℕ) → n ≤ length steps → shown_steps P n q ≡ take n steps
  plays_few steps q z h zero l = refl
  plays_few [] q z h (suc n) l = absurd (not-suc-le-zero l)
  plays_few (s ∷ steps) q z h (suc n) l = rw h.2 (ap (λ (l : List Step). s ∷ l) (plays_few steps h.0 z h.4 n (le_of_suc-le-suc l)))

  plays_all : (steps : List Step) (q z : Place) → Plays P q steps z → ((n : ℕ) → shown_steps P n z ≡ []) → (n : ℕ) → shown_steps P n q ≡ take n steps
  plays_all steps q z h e zero = refl
  plays_all [] q z h e (suc n) = rw (← h) at (e (suc n))
  plays_all (s ∷ steps) q z h e (suc n) = rw h.2 (ap (λ (l : List Step). s ∷ l) (plays_all steps h.0 z h.4 e n))

module _ (P : Plan) (c : Parts) (o : Sound P) (plain : plan_refusal P ≡ None) (by_parts : (q : Place) → in_range P q.run ≡ true → given_of P q ≡ Ok (given_by P c q)) where
  -- the next step is taken, or the run stops here
  pub goes_by : (q : Place) (s : Step) (steps : List Step) (m : Mark) (J : Run → Type 0) → Kept P q.run → OnTime P c q → next_step P c q ≡ s
      → (Taken P c q s → Goes P (place_after P c q s) steps m J) → Goes P q (s ∷ steps) m J
  goes_by q s steps m J k t n more = go (is_out_of_step P q.run) refl
    where
      then : Taken P c q s → Goes P (place_after P c q s) steps m J → Goes P q (s ∷ steps) m J
      then d (arrives h) = arrives (takes_then P c q s steps m J d h)
      then d (halts h) =
          halts (record {
            given = s ∷ h.given;
            left = h.left;
            all = ap (λ (l : List Step). s ∷ l) h.all;
            at = h.at;
            plays = (place_after P c q s, d.together, d.given, d.done, h.plays);
            range = h.range;
            out = h.out;
          })

      go : (b : Bool) → is_out_of_step P q.run ≡ b → Goes P q (s ∷ steps) m J
      go true e = halts (record { given = []; left = s ∷ steps; all = refl; at = q; plays = refl; range = k.range; out = e })
      go false e = let d = takes P c o plain by_parts q s k t e n in then d (more d)

  -- out of step the shown run gives no more
  nothing_more : (q : Place) → in_range P q.run ≡ true → is_out_of_step P q.run ≡ true → (n : ℕ) → shown_steps P n q ≡ []
  nothing_more q r e zero = refl
  nothing_more q r e (suc n) = let g : given_of P q ≡ Ok None = by_parts q r ∙ ap Ok (given_stops P c q e) in rw g

  -- the first n steps of the shown run, up to its first out-of-step state
  pub shows : (q : Place) (steps : List Step) (m : Mark) (J : Run → Type 0) → Goes P q steps m J → (n : ℕ) → n ≤ length steps → shown_steps P n q ≡ take n (until_out P q.run steps)
  unfolding until_out
  shows q steps m J (arrives h) n l =
      let all : until_out P q.run steps ≡ steps = ap (until_out P q.run) (sym (append-nil steps)) ∙ plays_until P steps [] q (record { run = h.to; mark = m }) h.plays ∙ append-nil steps in
      rw all (plays_few P steps q (record { run = h.to; mark = m }) h.plays n l)
  shows q steps m J (halts s) n l =
      let all : until_out P q.run steps ≡ s.given =
      ap (until_out P q.run) s.all ∙ plays_until P s.given s.left q s.at s.plays ∙ ap (λ (l : List Step). s.given ++ l) (out_ends P s.at.run s.out s.left) ∙ append-nil s.given in
      rw all (plays_all P s.given q s.at s.plays (nothing_more s.at s.range s.out) n)
