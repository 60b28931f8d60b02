-- A promise that is an equation of the answer and one of what is left leaves one of each. An answer is fixed by its refusal too, where
-- it gives nothing, and by its refusal and the data of its value.
use mathlib.Core.Path.{◌≡◌, sym, ap, ◌∙◌}
use Rattle.std.specs.Prelude.{Option, None, Some, Result, Ok, Err, IfOk, IfSome}
use Rattle.std.specs.Option.{option_map}
use Rattle.std.specs.Result.{result_err}
use Rattle.std.proofs.lemmas.Option.{none-some, same_Some}
use Rattle.promises.specs.Promises.{One}

-- an answer that is a value or a refusal, with what is promised of its value
module _ {A E : Type 0} {D : A → Type 0} where
  pub same_result : (x y : Result A E) → result_err x ≡ result_err y → IfOk x D → IfOk y D → ((a b : A) → D a → D b → a ≡ b) → x ≡ y
  same_result (Ok a) (Ok b) e p q same = ap Ok (same a b p q)
  same_result (Ok a) (Err s) e p q same = absurd (none-some s e)
  same_result (Err r) (Ok b) e p q same = absurd (none-some r (sym e))
  same_result (Err r) (Err s) e p q same = ap Err (same_Some r s e)

-- an answer that is a refusal or nothing
pub same_done : {E : Type 0} (x y : Result (Unit {0}) E) → result_err x ≡ result_err y → x ≡ y
same_done {E} x y e = same_result x y e (done x) (done y) (λ a b p q. p ∙ sym q)
  where
    done : (z : Result (Unit {0}) E) → IfOk z (λ a. a ≡ tt)
    done (Ok a) = λ j. tt
    done (Err r) = tt

-- an answer that is a value or none, with what a part of it is and what is promised of the rest
module _ {A B : Type 0} {f : A → B} {D : A → Type 0} where
  pub same_option : (x y : Option A) → option_map f x ≡ option_map f y → IfSome x D → IfSome y D → ((a b : A) → f a ≡ f b → D a → D b → a ≡ b) → x ≡ y
  same_option None None e p q same = λ j. None
  same_option None (Some b) e p q same = absurd (none-some (f b) e)
  same_option (Some a) None e p q same = absurd (none-some (f a) (sym e))
  same_option (Some a) (Some b) e p q same = ap Some (same a b (same_Some (f a) (f b) e) p q)

module _ {K : Type 0} {A R L : K → Type 0} {C : Type 0} {lent : (κ : K) → L κ → C} {promise : (κ : K) → A κ → R κ → L κ → Type 0} where
  -- a promise that has an equation of the answer, and one of what is left
  pub by_equations : (f : (κ : K) → A κ → R κ) (g : (κ : K) → A κ → C) → ((κ : K) (a : A κ) (x : R κ) (l : L κ) → promise κ a x l → (x ≡ f κ a) × (lent κ l ≡ g κ a)) → One lent promise
  by_equations f g two = record {
    answer = λ κ a x y l m p q. (two κ a x l p).0 ∙ sym (two κ a y m q).0;
    left = λ κ a x y l m p q. (two κ a x l p).1 ∙ sym (two κ a y m q).1;
  }

module _ {K : Type 0} {A L : K → Type 0} {C E : Type 0} {lent : (κ : K) → L κ → C} {promise : (κ : K) → A κ → Result (Unit {0}) E → L κ → Type 0} where
  -- the same of an answer that is a refusal or nothing: an equation of the refusal
  pub by_refusals : (f : (κ : K) → A κ → Option E) (g : (κ : K) → A κ → C) → ((κ : K) (a : A κ) (x : Result (Unit {0}) E) (l : L κ) → promise κ a x l → (result_err x ≡ f κ a) × (lent κ l ≡ g κ a)) → One lent promise
  by_refusals f g two = record {
    answer = λ κ a x y l m p q. same_done x y ((two κ a x l p).0 ∙ sym (two κ a y m q).0);
    left = λ κ a x y l m p q. (two κ a x l p).1 ∙ sym (two κ a y m q).1;
  }
