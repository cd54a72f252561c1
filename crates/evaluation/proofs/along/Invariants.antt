-- `evaluation::along` meets its contract: the invariant is that the first `i` links have been followed.
use Prim.Native.Nat.{◌≤◌}
use Rattle.evaluation.specs.LinkCases.{Followed}
use Rattle.evaluation.proofs.along.Given as goal

abbrev pub invariant-loop-i : goal.invariant-loop-i
invariant-loop-i g l = (l.i ≤ l.count) × Followed l.size l.links l.k (g.W.Leads.onward l.ways) (g.W.Leads.backward l.ways) l.left l.all l.initial.elements l.i l.elements
