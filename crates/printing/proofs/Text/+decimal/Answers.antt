-- `Text::decimal` meets its contract: a number below 10 is its digit, any other its tenth and one digit more.
-- Assumes nothing.
use native.Mathlib.Omega.{arith}
use Rattle.printing.specs.PrintingLaws.{writes-digit, writes-digits}
use Rattle.printing.proofs.Text.+decimal.Goals as goal

pub returns-then-n-lt10 : goal.returns-then-n-lt10
returns-then-n-lt10 t c = writes-digit c.if-n-lt10.true c.digit.ensures c.put.ensures

pub returns : goal.returns
returns t c = writes-digits c.if-n-lt10.false (omega arith) c.decimal.ensures c.digit-2.ensures c.put-2.ensures
