-- What the library's chains over a list compute, as questions about the numbers below n: over the first n places of xs, and over a range.
use Prim.Native.Nat.{ℕ, zero, suc, ◌+◌, ◌≤◌, ◌<◌, min, max}
use mathlib.Core.Path.{◌≡◌, refl, sym, ◌∙◌}
use mathlib.Core.Bool.{Bool, true, false, cond, not}
use mathlib.Core.List.{List, [], ◌∷◌}
use native.Mathlib.Nat.{not-suc-le-zero, le_of_suc-le-suc}
use native.Mathlib.Numerals.{add-one}
use native.Mathlib.Omega.{arith}
use lib.Dec.{ltb}
use lib.ListN.{length, take, get_or, length-take}
use Rattle.std.specs.declared.option.Option.{Option}
use Rattle.std.specs.declared.option.Option.TheVariants.{None, Some}
use Rattle.std.specs.List.{list_any, list_all, position_or_len, position, range_with_len, fold}
use Rattle.std.proofs.lemmas.List.Folds.{list_any_more, list_all_more}
use Rattle.std.proofs.lemmas.List.Sums.{fold_more}
use Rattle.std.proofs.lemmas.List.FromFn.{length-range_with_len, get_or-range_with_len}
use Rattle.std.specs.Iterator.{YieldsThen}
use Rattle.std.specs.Fn.{Called}
use Rattle.std.specs.Option.{MatchOption, unwrap_or}
use Rattle.std.specs.List.{FoldsTo}
use denote.Param.Members.{Mut}
use Rattle.std.proofs.lemmas.Iterator.{YieldsList}
use Rattle.std.proofs.lemmas.Iterator.Search.{any_from_yields_List, all_from_yields_List, position_from_yields_List}
use Rattle.laws.specs.Below.{any_below, all_below, first_from, first_below, largest_below, least_below}
use borrow.Author.Tests.{ltb-false}
use Rattle.laws.proofs.Belows.{Found, found, none, first_found}

-- equal answers below n

pub any_same : (n : ℕ) (f g : ℕ → Bool) → ((i : ℕ) → i < n → f i ≡ g i) → any_below n f ≡ any_below n g
unfolding any_below
any_same zero f g h = refl
any_same (suc n) f g h = rw (any_same n f g (λ i l. h i (omega arith)), h n (omega arith))

first_from_same : (left i : ℕ) (f g : ℕ → Bool) → ((j : ℕ) → i ≤ j → j < i + left → f j ≡ g j) → first_from f left i ≡ first_from g left i
unfolding first_from
first_from_same zero i f g h = refl
first_from_same (suc left) i f g h = go (f i) (g i) (h i (omega arith) (omega arith)) (first_from_same left (suc i) f g (λ j l m. h j (omega arith) (omega arith)))
  where
    go : (a b : Bool) → a ≡ b → first_from f left (suc i) ≡ first_from g left (suc i) → ◌≡◌ {A = ℕ} (elim a [ true ↦ i | false ↦ first_from f left (suc i) ]) (elim b [ true ↦ i | false ↦ first_from g left (suc i) ])
    go true b e r = rw (sym e)
    go false b e r = rw (sym e) r

pub first_same : (n : ℕ) (f g : ℕ → Bool) → ((i : ℕ) → i < n → f i ≡ g i) → first_below n f ≡ first_below n g
first_same n f g h = first_from_same n 0 f g (λ j l m. h j (omega arith))

pub least_same : (top n : ℕ) (f g : ℕ → ℕ) → ((i : ℕ) → i < n → f i ≡ g i) → least_below top n f ≡ least_below top n g
unfolding least_below
least_same top zero f g h = refl
least_same top (suc n) f g h = rw (least_same top n f g (λ i l. h i (omega arith)), h n (omega arith))

module _ {A : Type 0} where
  -- some element passes, every element does

  pub any_chain : (p : A → Bool) (xs : List A) (n : ℕ) (d : A) → n ≤ length xs → list_any p (take n xs) ≡ any_below n (λ i. p (get_or xs i d))
  unfolding any_below
  any_chain p xs zero d h = refl
  any_chain p xs (suc n) d h = rw (sym (any_chain p xs n d (omega arith))) (rw add-one at (list_any_more p xs n d (omega arith)))

  pub all_chain : (p : A → Bool) (xs : List A) (n : ℕ) (d : A) → n ≤ length xs → list_all p (take n xs) ≡ all_below n (λ i. p (get_or xs i d))
  unfolding all_below
  all_chain p xs zero d h = refl
  all_chain p xs (suc n) d h = rw (sym (all_chain p xs n d (omega arith))) (rw add-one at (list_all_more p xs n d (omega arith)))

  take_whole : (xs : List A) (n : ℕ) → length xs ≡ n → take n xs ≡ xs
  take_whole [] zero e = refl
  take_whole [] (suc n) e = refl
  take_whole (x ∷ xs) zero e = absurd (omega arith)
  take_whole (x ∷ xs) (suc n) e = rw (take_whole xs n (omega arith))

  -- the same of a whole list
  pub any_whole : (p : A → Bool) (xs : List A) (n : ℕ) (d : A) → length xs ≡ n → list_any p xs ≡ any_below n (λ i. p (get_or xs i d))
  any_whole p xs n d e = rw (take_whole xs n e) at (any_chain p xs n d (omega arith))

  -- the first that passes

  first_chain_from : (p : A → Bool) (f : ℕ → Bool) (xs : List A) (n j : ℕ) (d : A) → n ≤ length xs → ((k : ℕ) → f (j + k) ≡ p (get_or xs k d)) → j + position_or_len p (take n xs) ≡ first_from f n j
  unfolding first_from
  first_chain_from p f xs zero j d h e = omega arith
  first_chain_from p f [] (suc n) j d h e = absurd (not-suc-le-zero h)
  first_chain_from p f (x ∷ xs) (suc n) j d h e = go (p x) (f j) here (first_chain_from p f xs n (suc j) d (le_of_suc-le-suc h) next)
    where
      here : f j ≡ p x
      here = let z : j + 0 ≡ j = omega arith in rw z at (e 0)

      next : (k : ℕ) → f (suc j + k) ≡ p (get_or xs k d)
      next k = let z : j + suc k ≡ suc j + k = omega arith in rw z at (e (suc k))

      go : (a b : Bool) → b ≡ a → suc j + position_or_len p (take n xs) ≡ first_from f n (suc j)
          → j + cond (not a) (1 + position_or_len p (take n xs)) 0 ≡ elim b [ true ↦ j | false ↦ first_from f n (suc j) ]
      go true b q r = rw q (let z : j + 0 ≡ j = omega arith in z)
      go false b q r = rw (q, sym r) (let z : j + (1 + position_or_len p (take n xs)) ≡ suc j + position_or_len p (take n xs) = omega arith in z)

  pub first_chain : (p : A → Bool) (xs : List A) (n : ℕ) (d : A) → n ≤ length xs → position_or_len p (take n xs) ≡ first_below n (λ i. p (get_or xs i d))
  first_chain p xs n d h = (let z : position_or_len p (take n xs) ≡ 0 + position_or_len p (take n xs) = omega arith in z) ∙ first_chain_from p (λ i. p (get_or xs i d)) xs n 0 d h (λ k. let z : 0 + k ≡ k = omega arith in rw z)

  pub position_chain : (p : A → Bool) (xs : List A) (n : ℕ) (d : A) → n ≤ length xs
      → position p (take n xs) ≡ cond (ltb (first_below n (λ i. p (get_or xs i d))) n) (Some (first_below n (λ i. p (get_or xs i d)))) None
  position_chain p xs n d h =
      let l : length (take n xs) ≡ n = omega (arith, length-take n xs) in
      rw (first_chain p xs n d h, l)

  -- the largest value, and the least

  pub largest_chain : (f : A → ℕ) (xs : List A) (n : ℕ) (d : A) → n ≤ length xs → fold (λ a x. max a (f x)) 0 (take n xs) ≡ largest_below n (λ i. f (get_or xs i d))
  unfolding largest_below
  largest_chain f xs zero d h = refl
  largest_chain f xs (suc n) d h = rw (sym (largest_chain f xs n d (omega arith))) (rw add-one at (fold_more (λ a x. max a (f x)) 0 xs n d (omega arith)))

  pub least_chain : (f : A → ℕ) (top : ℕ) (xs : List A) (n : ℕ) (d : A) → n ≤ length xs → fold (λ a x. min a (f x)) top (take n xs) ≡ least_below top n (λ i. f (get_or xs i d))
  unfolding least_below
  least_chain f top xs zero d h = refl
  least_chain f top xs (suc n) d h = rw (sym (least_chain f top xs n d (omega arith))) (rw add-one at (fold_more (λ a x. min a (f x)) top xs n d (omega arith)))

-- the numbers below n themselves

range_at : (n i : ℕ) → i < n → get_or (range_with_len 0 n) i 0 ≡ i
range_at n i l = get_or-range_with_len 0 n i 0 l ∙ (let z : 0 + i ≡ i = omega arith in z)

pub any_range : (f : ℕ → Bool) (n : ℕ) → list_any f (range_with_len 0 n) ≡ any_below n f
any_range f n = any_whole f (range_with_len 0 n) n 0 (length-range_with_len 0 n) ∙ any_same n (λ i. f (get_or (range_with_len 0 n) i 0)) f (λ i l. rw (range_at n i l))

pub least_range : (f : ℕ → ℕ) (top n : ℕ) → fold (λ a i. min a (f i)) top (range_with_len 0 n) ≡ least_below top n f
least_range f top n =
    let e : length (range_with_len 0 n) ≡ n = length-range_with_len 0 n in
    rw (take_whole (range_with_len 0 n) n e) at (least_chain f top (range_with_len 0 n) n 0 (omega arith))
    ∙ least_same top n (λ i. f (get_or (range_with_len 0 n) i 0)) f (λ i l. rw (range_at n i l))

-- what a call answered, where its chain gives the first n of xs and its closure computes p

module _ {S A F B : Type 0} {steps : S → Option A → S → Type 0} {v : A → B} {g : Mut F (A × Unit {0}) Bool} {s : S} (p : B → Bool) (xs : List B) (n : ℕ) (d : B) (u : S) (f : F) where
  pub any_in : {r : Bool} → n ≤ length xs
      → (ys : List A) × (o : Option A) × (j : F) × YieldsThen steps s ys o u × FoldsTo (λ p x q. Called g p (x, tt) false q) f ys j × MatchOption o (r ≡ false) (λ x. (r ≡ true) × ((h : F) × Called g j (x, tt) true h))
      → YieldsList steps v s (take n xs) → ((x : A) (b : Bool) (q : F) → Called g f (x, tt) b q → (q ≡ f) × (b ≡ p (v x))) → r ≡ any_below n (λ i. p (get_or xs i d))
  any_in {r} h ran road k = any_from_yields_List p u f r ran road k ∙ any_chain p xs n d h

  pub all_in : {r : Bool} → n ≤ length xs
      → (ys : List A) × (o : Option A) × (j : F) × YieldsThen steps s ys o u × FoldsTo (λ p x q. Called g p (x, tt) true q) f ys j × MatchOption o (r ≡ true) (λ x. (r ≡ false) × ((h : F) × Called g j (x, tt) false h))
      → YieldsList steps v s (take n xs) → ((x : A) (b : Bool) (q : F) → Called g f (x, tt) b q → (q ≡ f) × (b ≡ p (v x))) → r ≡ all_below n (λ i. p (get_or xs i d))
  all_in {r} h ran road k = all_from_yields_List p u f r ran road k ∙ all_chain p xs n d h

  pub position_in : {r : Option ℕ} → n ≤ length xs
      → (ys : List A) × (o : Option A) × (j : F) × YieldsThen steps s ys o u × FoldsTo (λ p x q. Called g p (x, tt) false q) f ys j × MatchOption o (r ≡ None) (λ x. (r ≡ Some (length ys)) × ((h : F) × Called g j (x, tt) true h))
      → YieldsList steps v s (take n xs) → ((x : A) (b : Bool) (q : F) → Called g f (x, tt) b q → (q ≡ f) × (b ≡ p (v x)))
      → r ≡ cond (ltb (first_below n (λ i. p (get_or xs i d))) n) (Some (first_below n (λ i. p (get_or xs i d)))) None
  position_in {r} h ran road k = position_from_yields_List p u f r ran road k ∙ position_chain p xs n d h

-- the same over the numbers below n, as `(0..n)` gives them

module _ {S F : Type 0} {steps : S → Option ℕ → S → Type 0} {g : Mut F (ℕ × Unit {0}) Bool} {s : S} (p : ℕ → Bool) (n : ℕ) (u : S) (f : F) where
  pub any_in_range : {r : Bool}
      → (ys : List ℕ) × (o : Option ℕ) × (j : F) × YieldsThen steps s ys o u × FoldsTo (λ p x q. Called g p (x, tt) false q) f ys j × MatchOption o (r ≡ false) (λ x. (r ≡ true) × ((h : F) × Called g j (x, tt) true h))
      → YieldsList steps (λ x. x) s (range_with_len 0 n) → ((x : ℕ) (b : Bool) (q : F) → Called g f (x, tt) b q → (q ≡ f) × (b ≡ p x)) → r ≡ any_below n p
  any_in_range {r} ran road k = any_from_yields_List p u f r ran road k ∙ any_range p n

-- the place that a search gave, or n where it gave none
pub first_or_end : (n : ℕ) (f : ℕ → Bool) {r : Option ℕ} → r ≡ cond (ltb (first_below n f) n) (Some (first_below n f)) None → unwrap_or r n ≡ first_below n f
first_or_end n f e = rw e (go (first_found n f) (ltb (first_below n f) n) refl)
  where
    go : {k : ℕ} → Found n f k → (b : Bool) → ltb k n ≡ b → unwrap_or (cond b (Some k) None) n ≡ k
    go w true q = refl
    go (none z h) false q = sym z
    go {k} (found l t h) false q = absurd (omega (arith, ltb-false k n q))
