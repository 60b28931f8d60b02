-- Laws of elements stored one after the other into a list: what stands before them and where they went, one part after the other,
-- and a list stored whole.
use Prim.Native.Nat.{ℕ, zero, suc, ◌+◌, ◌≤◌, ◌<◌}
use mathlib.Core.Path.{◌≡◌, refl, ap, ◌∙◌}
use mathlib.Core.List.{List, [], ◌∷◌, ◌++◌}
use native.Mathlib.Nat.{not-suc-le-zero, le_of_suc-le-suc}
use native.Mathlib.Omega.{arith}
use lib.ListN.{length, get_or, set, length-set}
use lib.Seq.{sets, get_or-set_same, get_or-set_other, set-get_or}

module _ {A : Type 0} where
  pub get_or_sets_before : (l : List A) (i j : ℕ) (vs : List A) (d : A) → j < i → get_or (sets l i vs) j d ≡ get_or l j d
  get_or_sets_before l i j [] d h = refl
  get_or_sets_before l i j (v ∷ vs) d h = get_or_sets_before (set l i v) (suc i) j vs d (omega arith) ∙ get_or-set_other l i j v d (λ e. omega arith)

  -- the k-th of them stands k places on
  pub get_or_sets_in : (l : List A) (i j k : ℕ) (vs : List A) (d : A) → j ≡ i + k → k < length vs → i + length vs ≤ length l → get_or (sets l i vs) j d ≡ get_or vs k d
  get_or_sets_in l i j k [] d e h w = absurd (not-suc-le-zero h)
  get_or_sets_in l i j zero (v ∷ vs) d e h w =
      let same : j ≡ i = omega arith in
      get_or_sets_before (set l i v) (suc i) j vs d (omega arith) ∙ rw same (get_or-set_same l i v d (omega arith))
  get_or_sets_in l i j (suc k) (v ∷ vs) d e h w =
      get_or_sets_in (set l i v) (suc i) j k vs d (omega arith) (le_of_suc-le-suc h) (omega (arith, length-set l i v))

  -- the elements are those that stand there
  abbrev pub Stands : List A → A → ℕ → List A → Type 0
  Stands l d i [] = Unit {0}
  Stands l d i (v ∷ vs) = (v ≡ get_or l i d) × Stands l d (suc i) vs

  pub sets_same : (l : List A) (d : A) (i : ℕ) (vs : List A) → Stands l d i vs → sets l i vs ≡ l
  sets_same l d i [] s = refl
  sets_same l d i (v ∷ vs) s = ap (λ (xs : List A). sets xs (suc i) vs) (ap (λ (x : A). set l i x) s.0 ∙ set-get_or l i d) ∙ sets_same l d (suc i) vs s.1

  -- one part after the other is both as one
  pub sets_after : (l : List A) (i j : ℕ) (vs ws : List A) → j ≡ i + length vs → sets (sets l i vs) j ws ≡ sets l i (vs ++ ws)
  sets_after l i j [] ws e = let h : j ≡ i = omega arith in ap (λ (k : ℕ). sets l k ws) h
  sets_after l i j (v ∷ vs) ws e = sets_after (set l i v) (suc i) j vs ws (omega arith)

  sets_past : (x : A) (l : List A) (i : ℕ) (vs : List A) → sets (x ∷ l) (suc i) vs ≡ x ∷ sets l i vs
  sets_past x l i [] = refl
  sets_past x l i (v ∷ vs) = sets_past x (set l i v) (suc i) vs

  -- a list written whole is what was written
  pub sets_whole : (l vs : List A) → length l ≡ length vs → sets l 0 vs ≡ vs
  sets_whole [] [] e = refl
  sets_whole [] (v ∷ vs) e = absurd (omega arith)
  sets_whole (x ∷ l) [] e = absurd (omega arith)
  sets_whole (x ∷ l) (v ∷ vs) e = sets_past v l 0 vs ∙ ap (λ (rest : List A). v ∷ rest) (sets_whole l vs (omega arith))
