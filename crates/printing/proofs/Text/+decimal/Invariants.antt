-- The number falls from call to call, so that the recursion ends.
use Rattle.printing.proofs.Text.+decimal.Given as goal

abbrev pub decreases-decimal : goal.decreases-decimal
decreases-decimal l = l.n
