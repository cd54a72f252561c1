-- `evaluation::begin` meets its contract: the invariant is that the elements below `d` have their rows of kinds 1 and 2.
use Rattle.evaluation.specs.ElementCases.{BegunElements}
use Rattle.evaluation.proofs.begin.Given as goal

abbrev pub invariant-loop-d : goal.invariant-loop-d
invariant-loop-d l = BegunElements l.problem l.initial.elements l.size l.d l.elements
