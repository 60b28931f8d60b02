-- How many steps of its shown run are left at a place: one fewer after each step, so that whoever takes step after step ends.
use Prim.Native.Nat.{ℕ, zero, suc, ◌≤◌}
use mathlib.Core.Path.{◌≡◌, refl, sym, ap}
use mathlib.Core.Bool.{Bool, true, false}
use native.Mathlib.Omega.{arith}
use Rattle.std.specs.Prelude.{Option, None, Some, Result, Ok, Err}
use Rattle.laws.specs.Below.{first_below}
use Rattle.laws.proofs.Bools.{clash}
use Rattle.laws.proofs.Belows.{Found, found, none, first_found, first_at, first_passes}
use Rattle.plan.specs.declared.Plan.{Plan}
use Rattle.plan.specs.declared.refusal.Refusal.{Refusal}
use Rattle.plan.specs.Tested.{plan_refusal}
use Rattle.rules.specs.declared.Rule.{Rule}
use Rattle.rules.specs.Rules.{verdict_of}
use Rattle.shown.specs.declared.Place.{Place}
use Rattle.shown.specs.declared.Given.{Given}
use Rattle.shown.specs.Shown.{fresh_place, given_of, place_at}
use Rattle.shows_why.proofs.Why.{shows_why}

-- no step is given
abbrev is_last : Result (Option Given) Refusal → Bool
is_last (Ok (Some given)) = false
is_last (Ok None) = true
is_last (Err r) = true

-- after k steps from q no step is given
unfoldable ends_at : Plan → Place → ℕ → Bool
ends_at P q k = is_last (given_of P (place_at P k q))

-- the number of steps of a plan's shown run; 0 where it has none
steps_by : (P : Plan) (refused : Option Refusal) → plan_refusal P ≡ refused → (failed : Option Rule) → (verdict_of P).failed ≡ failed → ℕ
steps_by P None e (Some rule) v = (shows_why P e rule v).count
steps_by P None e None v = 0
steps_by P (Some r) e failed v = 0

pub steps_in : Plan → ℕ
steps_in P = steps_by P (plan_refusal P) refl (verdict_of P).failed refl

-- the steps left at q, if the run ends from there within its number of steps
pub steps_left : Plan → Place → ℕ
steps_left P q = first_below (suc (steps_in P)) (ends_at P q)

abbrev pub Within : Plan → Place → Type 0
Within P q = steps_left P q ≤ steps_in P

pub within_fresh : (P : Plan) (rule : Rule) → plan_refusal P ≡ None → (verdict_of P).failed ≡ Some rule → Within P fresh_place
unfolding steps_in steps_left steps_by ends_at
within_fresh P rule plain v = go (plan_refusal P) refl plain (verdict_of P).failed refl v
  where
    go : (o : Option Refusal) (e : plan_refusal P ≡ o) → o ≡ None → (f : Option Rule) (w : (verdict_of P).failed ≡ f) → f ≡ Some rule → first_below (suc (steps_by P o e f w)) (ends_at P fresh_place) ≤ steps_by P o e f w
    go None e n (Some r) w h =
        let n = (shows_why P e r w).count in
        let f = first_passes (suc n) n (ends_at P fresh_place) (omega arith) (ap is_last (shows_why P e r w).finished) in
        omega (arith, f.0)
    go None e n None w h = cc
    go (Some x) e n f w h = cc

-- a step given at q uses one up
pub left_falls : (P : Plan) (q : Place) (given : Given) → Within P q → given_of P q ≡ Ok (Some given) → steps_left P q ≡ suc (steps_left P given.place)
unfolding steps_left ends_at
left_falls P q given w e = go (first_below (suc (steps_in P)) (ends_at P q)) refl (first_found (suc (steps_in P)) (ends_at P q))
  where
    go : (k : ℕ) → first_below (suc (steps_in P)) (ends_at P q) ≡ k → Found (suc (steps_in P)) (ends_at P q) k → k ≡ suc (steps_left P given.place)
    go k h (none a b) = absurd (omega (arith, w))
    go zero h (found l t b) = clash (ends_at P q 0) t (ap is_last e)
    go (suc k) h (found l t b) = ap suc (sym (first_at (suc (steps_in P)) k (ends_at P given.place) (omega arith) (λ j m. rw e at (b (suc j) (omega arith))) (rw e at t)))
