-- `evaluation::evaluate` meets its contract: the invariant is that the rows below `k` are known.
use Rattle.evaluation.specs.RowCases.{Rowed}
use Rattle.evaluation.proofs.evaluate.Given as goal

abbrev pub invariant-loop-k : goal.invariant-loop-k
invariant-loop-k l = Rowed l.problem l.initial.elements l.size l.links l.count l.k l.elements
