-- `decoder::second_mask` meets its contract, which is the test of the kind.
use native.Mathlib.Omega.{arith}
use borrow.Author.Tests.{eq-eqb, ne_eqb}
use Rattle.decoder.specs.Writing.{along}
use Rattle.decoder.proofs.second_mask.Goals as goal

pub returns-then-kind-eq-UNIV : goal.returns-then-kind-eq-UNIV
unfolding along
returns-then-kind-eq-UNIV c = rw (eq-eqb _ _ c.if-kind-eq-UNIV.true) (omega arith)

pub returns : goal.returns
unfolding along
returns c = rw (ne_eqb _ _ c.if-kind-eq-UNIV.false) (omega arith)
