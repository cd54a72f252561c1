-- `graph::has_alternative` meets its contract: the invariant is that the alternatives that are left have the set exactly if all have.
use Prim.Native.Nat.{◌-◌}
use Rattle.rowset.specs.SetOf.{set_of}
use Rattle.graph.specs.SearchLaws.{Sought}
use Rattle.graph.proofs.has_alternative.Given as goal

abbrev pub invariant-loop-i : goal.invariant-loop-i
invariant-loop-i l = Sought l.nodes l.alternatives l.c l.owner (set_of l.s 0) l.from

abbrev pub decreases-loop-i : goal.decreases-loop-i
decreases-loop-i l = l.c.alternatives - l.from
