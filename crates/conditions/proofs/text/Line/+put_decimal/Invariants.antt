-- The measure is the number itself: each call has a digit fewer to put.
use Rattle.conditions.proofs.text.Line.+put_decimal.Given as goal

abbrev pub decreases-put_decimal : goal.decreases-put_decimal
decreases-put_decimal l = l.n
