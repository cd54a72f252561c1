-- `evaluation::fill` meets its contract: for "some" there is nothing to do; for "all" the invariant is that the row is put at the elements below `d`.
use mathlib.Core.Bool.{true}
use Rattle.concepts.specs.RowSet.{RowSet}
use Rattle.evaluation.specs.ElementCases.{RowPut}
use Rattle.evaluation.proofs.fill.Given as goal

abbrev pub invariant-loop-d : goal.invariant-loop-d
invariant-loop-d l = RowPut l.k (λ (s : RowSet). true) l.size l.initial.elements l.d l.elements
