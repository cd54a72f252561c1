-- `marks::clear_numbers` meets its contract: the invariant is that the states below `y` have no number.
use Rattle.marks.specs.Marked.{NumbersCleared}
use Rattle.marks.proofs.clear_numbers.Given as goal

abbrev pub invariant-loop-y : goal.invariant-loop-y
invariant-loop-y l = NumbersCleared l.initial.nodes l.nodes l.y
