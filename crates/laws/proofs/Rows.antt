-- Laws of tests in a row: where the row gives no refusal, no test of it holds; of two parts the first that gives a refusal decides.
use mathlib.Core.Path.{◌≡◌, refl, sym}
use mathlib.Core.Bool.{Bool, true, false, cond}
use mathlib.Core.List.{List, [], ◌∷◌, ◌++◌}
use Rattle.std.specs.Prelude.{Option, None, Some}
use Rattle.std.proofs.lemmas.Option.{none-some}
use Rattle.laws.specs.Row.{Row, first_given}

module _ {R : Type 0} where
  -- No test of the rows holds.
  abbrev pub Off : List (Row R) → Type 0
  Off [] = Unit {0}
  Off (row ∷ rows) = (row.holds ≡ false) × Off rows

  first_off : (r : R) (b : Bool) (m : Option R) → cond b (Some r) m ≡ None → b ≡ false
  first_off r true m h = absurd (none-some r (sym h))
  first_off r false m h = refl

  first_on : (r : R) (b : Bool) (m : Option R) → b ≡ false → cond b (Some r) m ≡ None → m ≡ None
  first_on r b m e h = rw e at h

  pub all_off : (rows : List (Row R)) → first_given rows ≡ None → Off rows
  unfolding first_given
  all_off [] h = tt
  all_off (row ∷ rows) h =
      let e : row.holds ≡ false = first_off row.refusal row.holds (first_given rows) h in
      (e, all_off rows (first_on row.refusal row.holds (first_given rows) e h))

  pub off_all : (rows : List (Row R)) → Off rows → first_given rows ≡ None
  unfolding first_given
  off_all [] o = refl
  off_all (row ∷ rows) o = rw o.0 (off_all rows o.1)

  -- the first row gives its refusal, or leaves it to the rest
  pub first_here : (row : Row R) (rows : List (Row R)) → row.holds ≡ true → first_given (row ∷ rows) ≡ Some row.refusal
  unfolding first_given
  first_here row rows h = rw h

  pub first_next : (row : Row R) (rows : List (Row R)) → row.holds ≡ false → first_given (row ∷ rows) ≡ first_given rows
  unfolding first_given
  first_next row rows h = rw h

  -- rows in two parts: the first part gives a refusal, or leaves it to the second
  pub part_here : (front back : List (Row R)) (r : R) → first_given front ≡ Some r → first_given (front ++ back) ≡ Some r
  unfolding first_given
  part_here [] back r e = absurd (none-some r e)
  part_here (row ∷ rows) back r e = go row.holds (part_here rows back r) e
    where
      go : (b : Bool) → (first_given rows ≡ Some r → first_given (rows ++ back) ≡ Some r) → cond b (Some row.refusal) (first_given rows) ≡ Some r → cond b (Some row.refusal) (first_given (rows ++ back)) ≡ Some r
      go true rest h = h
      go false rest h = rest h

  pub part_later : (front back : List (Row R)) → first_given front ≡ None → first_given (front ++ back) ≡ first_given back
  unfolding first_given
  part_later [] back e = refl
  part_later (row ∷ rows) back e = go row.holds (part_later rows back) e
    where
      go : (b : Bool) → (first_given rows ≡ None → first_given (rows ++ back) ≡ first_given back) → cond b (Some row.refusal) (first_given rows) ≡ None → cond b (Some row.refusal) (first_given (rows ++ back)) ≡ first_given back
      go true rest h = absurd (none-some row.refusal (sym h))
      go false rest h = rest h

  -- where both parts together give none, neither does
  pub parts_off : (front back : List (Row R)) → first_given (front ++ back) ≡ None → (first_given front ≡ None) × (first_given back ≡ None)
  unfolding first_given
  parts_off [] back e = (refl, e)
  parts_off (row ∷ rows) back e = go row.holds (parts_off rows back) e
    where
      go : (b : Bool) → (first_given (rows ++ back) ≡ None → (first_given rows ≡ None) × (first_given back ≡ None)) → cond b (Some row.refusal) (first_given (rows ++ back)) ≡ None → (cond b (Some row.refusal) (first_given rows) ≡ None) × (first_given back ≡ None)
      go true rest h = absurd (none-some row.refusal (sym h))
      go false rest h = rest h
