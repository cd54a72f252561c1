-- `writing::write_links` meets its contract: the invariant is that the first `k` links are written over the area.
use Rattle.writing.specs.Writing.{CopiedUpTo}
use Rattle.writing.proofs.write_links.Given as goal

abbrev pub invariant-loop-k : goal.invariant-loop-k
invariant-loop-k l = CopiedUpTo l.edges l.count l.initial.links l.links l.k
