-- Texts put into a buffer one after the other: what two puts in a row leave is what one put of both texts leaves.
use Prim.Native.Nat.{ℕ, suc, ◌+◌, ◌≤◌}
use mathlib.Core.Path.{◌≡◌, sym, ap, ◌∙◌}
use mathlib.Core.List.{List, [], ◌∷◌, ◌++◌}
use native.Mathlib.Nat.{add-zero}
use native.Mathlib.Omega.{arith}
use lib.ListN.{length, set, length-append}
use lib.Seq.{sets}
use Rattle.text.specs.Text.{Put}

pub sets_both : (l : List ℕ) (at : ℕ) (xs ys : List ℕ) → sets l at (xs ++ ys) ≡ sets (sets l at xs) (at + length xs) ys
sets_both l at [] ys = rw add-zero
sets_both l at (x ∷ xs) ys = let e : suc at + length xs ≡ at + suc (length xs) = omega arith in rw (← e) (sets_both (set l at x) (suc at) xs ys)

-- one text after the other
infixl 40 ◌then◌
pub ◌then◌ : {m n : ℕ} {l₀ l₁ l₂ : List ℕ} {at₀ at₁ at₂ : ℕ} {xs ys : List ℕ} → Put m l₀ at₀ xs l₁ at₁ → Put n l₁ at₁ ys l₂ at₂ → Put (m + n) l₀ at₀ (xs ++ ys) l₂ at₂
◌then◌ {m} {n} {l₀} {l₁} {l₂} {at₀} {at₁} {at₂} {xs} {ys} p q = record {
  holds = q.holds ∙ rw (p.holds, p.ends) (sym (sets_both l₀ at₀ xs ys));
  ends = omega (arith, p.ends, q.ends, length-append xs ys);
  within = omega (arith, p.within, q.within);
}

-- more room than the text has
pub put_more : {m : ℕ} {l l' : List ℕ} {at end : ℕ} {text : List ℕ} (n : ℕ) → m ≤ n → Put m l at text l' end → Put n l at text l' end
put_more n h p = record { holds = p.holds; ends = p.ends; within = omega (arith, p.within) }

-- a text with a bound on its length
pub put_within : {m : ℕ} {l l' : List ℕ} {at end : ℕ} {text : List ℕ} (n : ℕ) → length text ≤ n → Put m l at text l' end → Put n l at text l' end
put_within n h p = record { holds = p.holds; ends = p.ends; within = omega (arith, p.ends) }

-- the same text under another name, its length the bound
pub put_as : {m : ℕ} {l l' : List ℕ} {at end : ℕ} {text text' : List ℕ} → text' ≡ text → Put m l at text l' end → Put (length text') l at text' l' end
put_as {text' = text'} e p = record { holds = p.holds ∙ rw e; ends = p.ends ∙ rw e; within = omega (arith, p.ends, ap length e) }
