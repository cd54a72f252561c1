-- `evaluation::local` meets its contract: the invariant is that the row is put at the elements below `d`.
use Rattle.rowset.specs.Joined.{junction}
use Rattle.evaluation.specs.ElementCases.{RowPut}
use Rattle.evaluation.proofs.local.Given as goal

abbrev pub invariant-loop-d : goal.invariant-loop-d
invariant-loop-d l = RowPut l.k (junction l.both l.left l.right) l.size l.initial.elements l.d l.elements
