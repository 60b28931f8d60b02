-- What it means that a promise leaves one answer, and one content of what was lent.
-- A promise is a function's own contract, as its crate has it: it speaks of lifetimes, of the arguments, of the answer, and of the
-- arguments as the call leaves them.
use Rattle.std.specs.Prelude.{◌≡◌}

-- Any two answers that a promise allows for the same arguments are equal.
abbrev pub OneAnswer : {K : Type 0} {A R L : K → Type 0} → ((κ : K) → A κ → R κ → L κ → Type 0) → Type 0
OneAnswer {K} {A} {R} {L} promise = (κ : K) (a : A κ) (x y : R κ) (l m : L κ) → promise κ a x l → promise κ a y m → x ≡ y

-- Any two contents of what was lent are equal, whatever the answers; `lent` picks it out of the arguments as they are left.
abbrev pub OneLeft : {K : Type 0} {A R L : K → Type 0} {C : Type 0} → ((κ : K) → L κ → C) → ((κ : K) → A κ → R κ → L κ → Type 0) → Type 0
OneLeft {K} {A} {R} {L} lent promise = (κ : K) (a : A κ) (x y : R κ) (l m : L κ) → promise κ a x l → promise κ a y m → lent κ l ≡ lent κ m

-- Both at once.
pub record One {K : Type 0} {A R L : K → Type 0} {C : Type 0} (lent : (κ : K) → L κ → C) (promise : (κ : K) → A κ → R κ → L κ → Type 0) : Type 0 where
  pub answer : OneAnswer promise
  pub left : OneLeft lent promise
