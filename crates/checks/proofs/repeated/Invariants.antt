-- `checks::repeated` meets its contract: the invariant is that no row below `j` has the bytes of row `k`.
use Rattle.concepts.specs.Lists.{NoneBelow}
use Rattle.rulefile.specs.Format.{same_row}
use Rattle.checks.proofs.repeated.Given as goal

abbrev pub invariant-loop-j : goal.invariant-loop-j
invariant-loop-j l = NoneBelow (same_row l.file l.k) l.j
