-- Spelling and reading back, kind by kind: every step has a letter, and its letter and number spell the step. A byte is a letter where
-- it is the byte of one.
use mathlib.Core.Path.{◌≡◌, refl, sym}
use mathlib.Core.Bool.{true, false}
use Prim.Native.Nat.{ℕ}
use borrow.Author.Tests.{eqb-true}
use lib.Dec.{eqb}
use Rattle.std.specs.Prelude.{Ok, Err, MatchResult}
use Rattle.run.specs.declared.Step.{Step}
use Rattle.run.specs.declared.Step.TheVariants.{Delay, TickOf, SendOf}
use Rattle.letters.specs.declared.Letter.{Letter}
use Rattle.letters.specs.declared.Letter.TheVariants.{D, T, S}
use Rattle.letters.specs.declared.NoLetter.{NoLetter}
use Rattle.std.specs.Result.{result_unwrap_or}
use Rattle.letters.specs.Letters.{spelt_of, is_letter, letter_of, byte_of, step_by, step_spelt}

pub byte_is_letter : (letter : Letter) → is_letter (byte_of letter) ≡ true
unfolding is_letter
byte_is_letter D = refl
byte_is_letter T = refl
byte_is_letter S = refl

pub step_letter : (s : Step) → is_letter (byte_of (spelt_of s).letter) ≡ true
step_letter s = byte_is_letter (spelt_of s).letter

pub spelt_back : (s : Step) → step_spelt (spelt_of s) ≡ s
unfolding spelt_of
spelt_back (Delay d) = refl
spelt_back (TickOf i) = refl
spelt_back (SendOf i) = refl

-- a byte that is a letter is the byte of that letter
pub letter_known : (b : ℕ) → MatchResult (letter_of b) (λ letter. byte_of letter ≡ b) (λ _. is_letter b ≡ false)
unfolding letter_of is_letter
letter_known b = go (eqb b 68) (eqb b 84) (eqb b 83) refl refl refl
  where
    go : (d t s : _) → eqb b 68 ≡ d → eqb b 84 ≡ t → eqb b 83 ≡ s → MatchResult (letter_of b) (λ letter. byte_of letter ≡ b) (λ _. is_letter b ≡ false)
    go true t s d-is t-is s-is = rw d-is (sym (eqb-true b 68 d-is))
    go false true s d-is t-is s-is = rw (d-is, t-is) (sym (eqb-true b 84 t-is))
    go false false true d-is t-is s-is = rw (d-is, t-is, s-is) (sym (eqb-true b 83 s-is))
    go false false false d-is t-is s-is = rw (d-is, t-is, s-is) refl

-- and so for a byte that was read
module _ (b : ℕ) where
  pub letter_byte : {letter : Letter} → letter_of b ≡ Ok letter → byte_of letter ≡ b
  letter_byte e = rw e at (letter_known b)

  pub no_letter : {none : NoLetter} → letter_of b ≡ Err none → is_letter b ≡ false
  no_letter e = rw e at (letter_known b)

-- what is no letter counts as S
pub step_byte : (b n : ℕ) → step_spelt (record { letter = result_unwrap_or (letter_of b) S; number = n }) ≡ step_by b n
unfolding letter_of
step_byte b n = go (eqb b 68) (eqb b 84) (eqb b 83) refl refl refl
  where
    go : (d t s : _) → eqb b 68 ≡ d → eqb b 84 ≡ t → eqb b 83 ≡ s → step_spelt (record { letter = result_unwrap_or (letter_of b) S; number = n }) ≡ step_by b n
    go true t s d-is t-is s-is = rw d-is refl
    go false true s d-is t-is s-is = rw (d-is, t-is) refl
    go false false true d-is t-is s-is = rw (d-is, t-is, s-is) refl
    go false false false d-is t-is s-is = rw (d-is, t-is, s-is) refl
