-- The number is the measure. Below 10 it is one digit; from 10 on its tenth, which is less, and then its last digit.
use Rattle.text.proofs.+put_digits.Given as goal

abbrev pub decreases-put_digits : goal.decreases-put_digits
decreases-put_digits l = l.number
